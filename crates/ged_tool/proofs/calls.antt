pub mod Answered
pub mod CanonLaws
pub mod Feeding
pub mod Forms
pub mod Judging
pub mod Pieces
pub mod Spelled
pub mod TidyLaws
