pub mod Keys
pub mod OwnTexts
pub mod PathTexts
pub mod TextExamples
