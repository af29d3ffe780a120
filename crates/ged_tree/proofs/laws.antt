pub mod Entries
pub mod FaultsStay
pub mod FileFaults
pub mod FileLines
pub mod LinesAtPlaces
pub mod Shown
pub mod WholeFiles
