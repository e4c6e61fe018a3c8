pub mod Semilattice
pub mod Ends
pub mod EndLaws
