pub mod Buffers
pub mod Devices
pub mod Paths
