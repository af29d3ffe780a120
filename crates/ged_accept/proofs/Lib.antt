pub mod CallerLemmas
mod FileLaws
mod Merging
mod Noticing
mod Refusals
mod Showing
mod Told
