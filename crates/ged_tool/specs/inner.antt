pub mod FileTexts
pub mod Forms
pub mod Reading
pub mod Steps
