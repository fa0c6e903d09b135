pub mod RowLaws
pub mod BringsLaws
pub mod RuleLaws
pub mod ErrorLaws
pub mod Invariant
pub mod StepLaws
pub mod Whole
pub mod ShownLaws
