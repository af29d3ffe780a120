pub mod CommandLine
pub mod Tasks
pub mod Streams
pub mod Telling
pub mod Program
pub mod Shelves
pub mod inner
