use Rattle.std.proofs.Common.{◌≡◌, ℕ, ◌+◌, ◌<◌, List, length, take, get_or, Option, Some, None, refl, sym, ap, ◌∙◌, subst, arith, slice_set, Vec, Global}
use Rattle.std.proofs.Math.ListN.{length-set}
use Rattle.std.proofs.Math.Seq.{take_all}
use Rattle.std.proofs.lemmas.List.{length_push, get_or_default}
use Rattle.std.proofs.lemmas.Option.{slice_get_within}
use Rattle.ged_line.specs.Bytes.{Bytes}
use Rattle.ged_tree.specs.Trees.{Trees, records_of}
use Rattle.ged_tree.specs.Places.{structure_at}
use Rattle.ged_link.specs.Links.{identifiers, IsRecordNumber}
use Rattle.ged_canon.specs.declared.writer.rank.RankedSibling.{RankedSibling}
use Rattle.ged_canon.specs.inner.Siblings.{sibling_names, TellsUsed}
use Rattle.ged_canon.proofs.writer.NewNumbers.{ArePlaces, AreUnnumbered, places_more, unnumbered_more, numbered_among}
use Rattle.ged_canon.proofs.writer.SiblingNames.{siblings_named, fresh_sibling, unchanged}
use Rattle.ged_canon.proofs.writer.siblings.numbers_in_order.Goals as goal
use Rattle.ged_canon.proofs.writer.siblings.numbers_in_order.Goals.{in-Some, in_default}

-- an answer without a number
none_told : (d : Trees) (xref : Option Bytes) (answer : Option ℕ) → ((number : ℕ) → answer ≡ Some number → ⊥) → TellsUsed d xref answer → TellsUsed d xref None
none_told d xref None none told = told
none_told d xref (Some number) none told = absurd (none number refl)

pub loop-each-preserved : goal.loop-each-preserved
loop-each-preserved g c =
    let d = g.F.Forest.trees c.args.forest.now in
    let rs = c.args.records.now in
    let at = c.loop-each.each-index in
    let inv = c.loop-each.invariant in
    let x : RankedSibling = get_or rs at (record { rank = 0; place = 0 }) in
    let within : at < length rs = c.loop-each-test.true in
    let here_is : get_or rs at x ≡ x = sym (get_or_default rs at (record { rank = 0; place = 0 }) x within) in
    let xref = (structure_at d x.place).xref in
    let before = sibling_names d (take at rs) in
    let items = c.loop-each.numbers.items in
    elim c.match-used_record.branch [
      | in-Some w ↦ (
          let place = w.in-Some.record in
          let told : TellsUsed d xref (Some place) = subst (TellsUsed d xref) w.in-Some.is c.used_record.ensures in
          let name = told.0 in
          let here : IsRecordNumber d place name = told.1 in
          let only : (k : ℕ) → IsRecordNumber d k name → k ≡ place = λ k h. one_place _ k place ((c.requires.index.records.numbered name k).1 h) ((c.requires.index.records.numbered name place).1 here) in
          let inside : place < length items = omega (arith, slice_get_within (identifiers (records_of d)) place (Some name) here, c.requires.count, inv.long) in
          let names = siblings_named d rs at x x within here_is name told.2 in
          let is : c.match-used_record.numbers.items ≡ slice_set items place (c.loop-each.number + 1) = ap (λ (v : Vec ℕ Global). v.items) w.numbers-is in
          let placed = places_more d before name items place c.loop-each.number inv.placed here only (fresh_sibling d rs at x x within here_is name told.2 c.requires.distinct) inside inv.counted in
          record {
            fits = omega (arith, inv.fits, w.number-is);
            counted = w.number-is ∙ ap (λ n. n + 1) inv.counted ∙ sym (length_push before name) ∙ ap (λ (ns : List Bytes). length ns) (sym names);
            long = ap (λ (ns : List ℕ). length ns) is ∙ length-set items place (c.loop-each.number + 1) ∙ inv.long;
            placed = subst (λ (ns : List ℕ). ArePlaces d (sibling_names d (take (at + 1) rs)) ns) (sym is) (subst (λ names. ArePlaces d names (slice_set items place (c.loop-each.number + 1))) (sym names) placed);
            unnamed = subst (AreUnnumbered d) (sym is) (unnumbered_more d name items place (c.loop-each.number + 1) here inv.unnamed);
          })
      | in_default w ↦ (
          let names = unchanged d rs at x x within here_is (none_told d xref c.used_record.result w.in_default.not-Some c.used_record.ensures) in
          record {
            fits = omega (arith, inv.fits, w.number-is);
            counted = w.number-is ∙ inv.counted ∙ ap (λ (ns : List Bytes). length ns) (sym names);
            long = ap (λ (v : Vec ℕ Global). length v.items) w.numbers-is ∙ inv.long;
            placed = subst (λ (v : Vec ℕ Global). ArePlaces d (sibling_names d (take (at + 1) rs)) v.items) (sym w.numbers-is) (subst (λ names. ArePlaces d names items) (sym names) inv.placed);
            unnamed = subst (λ (v : Vec ℕ Global). AreUnnumbered d v.items) (sym w.numbers-is) inv.unnamed;
          })
    ]
  where
    one_place : (r : Option ℕ) (a b : ℕ) → r ≡ Some a → r ≡ Some b → a ≡ b
    one_place r a b e f = let g : Some a ≡ Some b = sym e ∙ f in cc

pub returns : goal.returns
returns g c =
    let d = g.F.Forest.trees c.args.forest.now in
    let whole : take c.loop-each.each-index c.args.records.now ≡ c.args.records.now = take_all c.loop-each.each-index c.args.records.now (omega arith) in
    record {
      known = λ name k. numbered_among (records_of d) name (c.requires.known name k);
      each = subst (λ rs. ArePlaces d (sibling_names d rs) c.loop-each.numbers.items) whole c.loop-each.invariant.placed;
      unnamed = c.loop-each.invariant.unnamed;
    }
