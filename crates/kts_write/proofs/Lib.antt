pub mod LineTexts
pub mod DeclaredThere
