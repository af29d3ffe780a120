use Rattle.std.proofs.Common.{◌≡◌, drop}
use Rattle.ged_link.specs.Slots.{number_read}
use Rattle.ged_link.proofs.slots.read_number.Given as goal

-- the digits to come after the number so far make that of all digits
abbrev pub invariant-loop-digit : goal.invariant-loop-digit
invariant-loop-digit l = number_read l.number (drop l.digit-index l.digits) ≡ number_read 0 l.digits
