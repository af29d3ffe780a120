pub mod CallerLemmas
pub mod Found
pub mod Passing
mod Seen
