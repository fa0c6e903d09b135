pub mod Integer
pub mod Interval
pub mod Lattice
pub mod Arithmetic
pub mod Compare
pub mod Narrow
pub mod Laws
pub mod Examples
