pub mod ByteTests
pub mod LineTexts
pub mod Ranks
pub mod Reading
pub mod Respelling
pub mod Views
pub mod WholeLines
