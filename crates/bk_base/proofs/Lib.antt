pub mod FieldLemmas
pub mod Lists
pub mod Weights
pub mod Accounts
pub mod GenesisGrammar
pub mod FramesInTurn
