pub mod Records
pub mod Paths
pub mod Building
pub mod Laws
pub mod inner
