pub mod Arrays
pub mod Marks
pub mod Plan
pub mod Book
pub mod Given
pub mod Write
