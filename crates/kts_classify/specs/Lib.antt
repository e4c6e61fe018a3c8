pub mod SignedTerms
pub mod HeadPlaces
pub mod TaskSchemas
pub mod PlanPatterns
pub mod PatternLaws
pub mod ReaderPatterns
