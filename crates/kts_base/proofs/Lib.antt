pub mod Decimals
pub mod Each
pub mod NumeralLemmas
pub mod Orders
pub mod Pieces
