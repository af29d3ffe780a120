use Rattle.std.proofs.Common.{arith, refl, sym, ◌∙◌, ◌≡◌, None, ap, map, slice_index}
use Rattle.ged_schema.specs.declared.slots.TheConstants.{SLOTS}
use Rattle.ged_schema.specs.Rows.{as_row}
use Rattle.ged_schema.specs.inner.Lookups.{row_of}
use Rattle.ged_schema.specs.Slots.{slot_from, kept_number}
use Rattle.ged_schema.proofs.Numbers.{IsLookedUp, inside_rows, kept_row, other_row, no_row, only_number, never_only}
use Rattle.ged_schema.proofs.slots.number_by_slot.Goals as goal
use Rattle.ged_schema.proofs.slots.number_by_slot.Goals.{else-number-count-via-then-number-count+else-is_same_tag, else-number-count-via-else-number-count}

pub returns-then-is_same_tag : goal.returns-then-is_same_tag
returns-then-is_same_tag c =
    let found : IsLookedUp (kept_number c.args.seed) (map as_row c.args.rules.now) c.args.tag.now c.args.rules.now c.from-number.result =
    record { numbered = c.requires.kept; seen = refl; at = c.from-number.ensures ∙ ap (slice_index SLOTS) (c.slot_of.ensures.told ∙ ap (slot_from c.args.seed) c.as_bytes.ensures.value) } in
    let inside = rw c.requires.count at c.if-number-count.true in
    record {
      row = (inside_rows _ _ _ _ _ found inside, kept_row _ _ _ _ _ found _ inside (sym c.is_same_tag.ensures ∙ c.if-is_same_tag.true));
      small = omega (arith, inside, c.requires.few);
      only = only_number _ _ _ _ _ found;
    }

pub returns-else-number-count : goal.returns-else-number-count
returns-else-number-count c =
    let found : IsLookedUp (kept_number c.args.seed) (map as_row c.args.rules.now) c.args.tag.now c.args.rules.now c.from-number.result =
    record { numbered = c.requires.kept; seen = refl; at = c.from-number.ensures ∙ ap (slice_index SLOTS) (c.slot_of.ensures.told ∙ ap (slot_from c.args.seed) c.as_bytes.ensures.value) } in
    let nothing : row_of (map as_row c.args.rules.now) c.args.tag.now ≡ None = elim c.else-number-count.branch [
      | else-number-count-via-then-number-count+else-is_same_tag w ↦ other_row _ _ _ _ _ found _ (rw c.requires.count at w.if-number-count.true) (sym w.is_same_tag.ensures ∙ w.if-is_same_tag.false)
      | else-number-count-via-else-number-count w ↦ no_row _ _ _ _ _ found (rw c.requires.count at w.if-number-count.false)
    ] in
    record { row = nothing; small = tt; only = never_only _ _ _ _ _ found nothing }
