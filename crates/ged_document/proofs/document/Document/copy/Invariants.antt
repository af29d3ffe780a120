use Rattle.std.proofs.Common.{◌≡◌, take}
use Rattle.ged_document.proofs.document.Document.copy.Given as goal

abbrev pub invariant-loop-each : goal.invariant-loop-each
invariant-loop-each l = l.records.items ≡ take l.each-index l.each-items
