pub mod Steps
pub mod Normal
pub mod CanonText
pub mod SpelledForms
pub mod Laws
pub mod Tidy
pub mod TidyLaws
pub mod inner
