pub mod TupleKeys
pub mod Walks
pub mod Sections
pub mod ManifestParts
pub mod NodeParts
pub mod SetMembers
pub mod CellSizes
