use Rattle.std.proofs.Common.{◌≡◌, take}
use Rattle.ged_canon.specs.inner.Siblings.{untagged}
use Rattle.ged_canon.proofs.writer.compared.write_back.Given as goal

-- so far they are written
abbrev pub invariant-loop-number : goal.invariant-loop-number
invariant-loop-number l = take l.number l.siblings ≡ untagged (take l.number l.tagged)
