pub mod Years
pub mod TaggedLines
