pub mod WordsOfPlace
pub mod Ended
pub mod Folds
pub mod Left
