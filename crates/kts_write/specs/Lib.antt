pub mod Encodings
pub mod Spaced
pub mod Declarations
