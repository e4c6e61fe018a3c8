pub mod Pointwise
pub mod Edits
pub mod Counts
pub mod Least
pub mod SimpleSets
