pub mod Clauses
pub mod ClauseTruth
pub mod ClauseFacts
pub mod WorkedClauses
