pub mod ReplyTexts
pub mod ReplyAnswers
pub mod Statements
