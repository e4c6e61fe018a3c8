pub mod FamilyFacts
pub mod TermParts
pub mod TermValues
pub mod EvaluatorFacts
pub mod BrokenFormulas
pub mod ScheduleFits
pub mod Kept
