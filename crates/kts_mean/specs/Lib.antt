pub mod Bounds
pub mod Broken
pub mod Evaluation
pub mod Parts
