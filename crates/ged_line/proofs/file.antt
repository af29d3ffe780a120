pub mod Answering
pub mod FileLaws
pub mod Respelling
pub mod WholeLines
