pub mod Words
pub mod First
pub mod Stages
pub mod Tabulate
pub mod Bytes
pub mod Laws
