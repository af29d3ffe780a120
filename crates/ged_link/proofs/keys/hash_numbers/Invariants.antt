use Rattle.std.proofs.Common.{◌≡◌, fold, drop}
use Rattle.std.specs.Hash.DefaultHasher.{initial}
use Rattle.ged_link.specs.inner.Keys.{fed_number}
use Rattle.ged_link.proofs.keys.hash_numbers.Given as goal

abbrev pub invariant-loop-halves : goal.invariant-loop-halves
invariant-loop-halves l = fold fed_number l.hasher (drop l.halves-index l.numbers) ≡ fold fed_number initial l.numbers
