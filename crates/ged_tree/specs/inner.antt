pub mod DocumentParts
pub mod Growing
pub mod Judging
pub mod Rows
pub mod Tables
pub mod Trailers
pub mod TreeCodes
pub mod Walks
