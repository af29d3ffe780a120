pub mod Comparing
pub mod Digests
pub mod Respelt
