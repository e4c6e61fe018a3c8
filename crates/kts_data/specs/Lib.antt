pub mod Drafts
pub mod Faults
pub mod Files
pub mod Instances
pub mod Json
pub mod Laws
pub mod Plans
