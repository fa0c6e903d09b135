pub mod Text
pub mod Print
pub mod Program
pub mod Laws
pub mod Examples
