use Rattle.std.proofs.Common.{◌≡◌, IsNone}
use Rattle.ged_devices.proofs.drafts.NewFile.open_new.Given as goal

abbrev pub invariant-loop-number : goal.invariant-loop-number
invariant-loop-number g l = (l.self.failed ≡ l.initial.self.failed) × (l.self.fate ≡ l.initial.self.fate) × IsNone l.self.file
