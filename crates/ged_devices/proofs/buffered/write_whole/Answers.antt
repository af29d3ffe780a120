use Rattle.std.proofs.Common.{ℕ, List, ◌+◌, ◌-◌, length, take, drop, sym, subst, ◌∙◌, rules, take-add}
use Rattle.std.proofs.lemmas.List.{take_rest}
use Rattle.std.specs.Prelude.{Option}
use Rattle.std.specs.Io.KnownBytes.{Appends}
use Rattle.std.proofs.KnownBytes.{Appends-trans}
use Rattle.ged_devices.proofs.buffered.write_whole.Goals as goal

-- a writer that took the front of a text, and then some bytes of the slice behind it, took a longer front
took_more : (text : List ℕ) (at count : ℕ) (first before after : Option (List ℕ)) → Appends first before (take at text)
    → Appends before after (take count (take (length text - at) (drop at text))) → Appends first after (take (at + count) text)
took_more text at count first before after front more =
    let behind : Appends before after (take count (drop at text)) =
    subst (λ rest. Appends before after (take count rest)) (take_rest text at) more in
    subst (Appends first after) (sym (take-add at count text)) (Appends-trans first before after _ _ front behind)

pub loop-at-preserved : goal.loop-at-preserved
loop-at-preserved g c = (
  search rules,
  c.in_ok-count.ensures.failure ∙ c.loop-at.invariant.1,
  c.in_ok-count.ensures.fate ∙ c.loop-at.invariant.2,
  took_more _ _ _ _ _ _ c.loop-at.invariant.3 c.in_ok-count.ensures.bytes,
)
