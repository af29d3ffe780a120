pub mod Accepting
pub mod Merges
