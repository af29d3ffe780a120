use Rattle.std.proofs.Common.{length}
use Rattle.std.specs.Prelude.{◌↔◌}
use denote.Text.{Utf8}
use denote.Shadow.{shadow}
use Rattle.ged_value.specs.inner.RestrictionReading.{AreRestrictions}
use Rattle.ged_value.proofs.restrictions.are_restrictions.Given as goal

-- the items so far are restrictions
abbrev pub invariant-loop-item : goal.invariant-loop-item
invariant-loop-item l = record { text : shadow (Utf8 l.rest); same : AreRestrictions l.rest ↔ AreRestrictions l.text }

abbrev pub decreases-loop-item : goal.decreases-loop-item
decreases-loop-item l = length l.rest
