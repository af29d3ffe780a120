use Rattle.std.proofs.Common.{string_bytes, arith}
use Rattle.ged_devices.proofs.Folders.{stands_beside}
use Rattle.ged_devices.proofs.drafts.NewFile.open_new.Goals as goal

pub returns-in_default-2-clause-named : goal.returns-in_default-2-clause-named
returns-in_default-2-clause-named g c =
    let self = c.name.new.self in
    stands_beside c.open.result (string_bytes self.target) (string_bytes self.folder) (string_bytes self.path) c.loop-number.number self.in_folder (omega arith)
    c.in_ok-name.ensures.named
