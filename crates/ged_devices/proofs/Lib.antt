mod Buffering
pub mod CallerLemmas
mod Folders
mod Modes
