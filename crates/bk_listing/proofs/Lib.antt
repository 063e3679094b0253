pub mod Puts
pub mod Words
pub mod Rejected
pub mod LineTexts
pub mod ShownSoFar
pub mod FirstForged
pub mod Forgeries
