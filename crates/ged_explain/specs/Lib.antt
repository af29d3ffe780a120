pub mod Characters
pub mod Names
pub mod Showing
pub mod Openings
pub mod inner
