pub mod Banned
pub mod Cutting
pub mod LineEnds
pub mod WholeBlocks
