pub mod CallerLemmas
mod theory
