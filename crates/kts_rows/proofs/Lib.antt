pub mod Spare
pub mod Every
pub mod Few
pub mod Undo
pub mod Climbs
pub mod Parts
