pub mod AlarmList
pub mod Check
pub mod Laws
pub mod Examples
