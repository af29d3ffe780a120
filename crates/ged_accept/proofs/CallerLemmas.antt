-- What the proofs of the crates above cite of this crate, and they cite nothing else of its proofs.

-- a file has one document, and is accepted with no other
pub use Rattle.ged_accept.proofs.FileLaws.{one_of_file, of_document, one_accepted}
