pub mod TextLaws
pub mod ProgramLaws
pub mod AnswerLaws
pub mod RestLaws
