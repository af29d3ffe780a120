pub mod ClapLemmas
pub mod DigestLemmas
pub mod FlushLemmas
mod Harmless
mod ShelfLemmas
mod ToldLemmas
