pub mod Systems
pub mod Runs
pub mod NamedRuns
pub mod Places
pub mod Whole
pub mod ItemTexts
pub mod Fetches
pub mod WorkedRun
