-- What the proofs of the crates above cite of this crate, and they cite nothing else of its proofs.

-- texts with a front that was written
pub use Rattle.ged_devices.proofs.Buffering.{starts_behind, starts_before}
-- texts that go through a buffer, one behind the other
pub use Rattle.ged_devices.proofs.Buffering.{through_nothing, through_both, stops_behind, stops_before}
