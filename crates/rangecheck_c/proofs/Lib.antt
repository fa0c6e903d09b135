pub mod SlotLaws
pub mod AnswerLaws
