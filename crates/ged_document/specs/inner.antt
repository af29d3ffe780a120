pub mod Copies
pub mod PathLines
pub mod TreeSizes
pub mod Trees
