pub mod ListLaws
pub mod BufferLaws
pub mod MarkLaws
pub mod CheckLaws
pub mod AcceptLaws
pub mod PassedLaws
pub mod Laws
