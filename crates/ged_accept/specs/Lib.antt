pub mod Accepted
pub mod Notices
pub mod Shown
pub mod Laws
pub mod inner
