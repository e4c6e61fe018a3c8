pub mod Sets
pub mod SetLaws
pub mod Bits
pub mod BitLaws
pub mod Choices
pub mod ChoiceLaws
