pub mod Rows
pub mod Rises
pub mod Trails
