pub mod NumberTests
pub mod CallerLemmas
mod theory
