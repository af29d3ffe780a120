pub mod Accepting
pub mod LineNumbers
pub mod OneList
pub mod Strict
