pub mod CommandLine
pub mod Flushes
pub mod Calling
pub mod Obeying
pub mod Tasks
pub mod Told
pub mod Names
