pub mod Settings
pub mod Calls
pub mod Comparisons
pub mod Digests
pub mod Texts
