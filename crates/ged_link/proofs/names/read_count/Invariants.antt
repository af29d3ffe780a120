use Rattle.std.proofs.Common.{◌≡◌, ◌<◌, ◌^◌, drop}
use Rattle.ged_link.specs.NameNumbers.{count_read}
use Rattle.ged_link.proofs.names.read_count.Given as goal

abbrev pub invariant-loop-digit : goal.invariant-loop-digit
invariant-loop-digit l = record {
  small : l.count < 2 ^ 50;
  left : count_read 0 l.digits ≡ count_read l.count (drop l.digit-index l.digits);
}
