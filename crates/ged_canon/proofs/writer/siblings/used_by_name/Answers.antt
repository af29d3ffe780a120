use Rattle.std.proofs.Common.{◌≡◌, ℕ, Option, Some, None, sym, ap, ◌∙◌, subst}
use Rattle.std.specs.Option.{option_copied}
use Rattle.ged_line.specs.Bytes.{Bytes}
use Rattle.ged_link.specs.Links.{IsRecordNumber}
use Rattle.ged_canon.specs.inner.Working.{is_named, used_xref}
use Rattle.ged_canon.specs.inner.Siblings.{TellsUsed}
use Rattle.ged_canon.proofs.writer.SiblingNames.{unknown_dropped}
use Rattle.ged_canon.proofs.writer.siblings.used_by_name.Goals as goal

pub returns-in-Some-record_named : goal.returns-in-Some-record_named
returns-in-Some-record_named g c =
    let d = g.F.Forest.trees c.args.forest.now in
    let name = c.in-Some.name.now in
    let here : IsRecordNumber d c.in-Some-record_named.number name = (c.record_named.ensures d c.requires.index c.in-Some-record_named.number).0 c.in-Some-record_named.is in
    subst (λ (xref : Option Bytes). TellsUsed d xref c.if_used.result) (sym (ap option_copied c.in-Some.is) ∙ c.xref.ensures) (c.if_used.ensures d (Some name) c.requires.index here)

pub returns-in-None : goal.returns-in-None
returns-in-None g c =
    let d = g.F.Forest.trees c.args.forest.now in
    let name = c.in-Some.name.now in
    let unknown : (k : ℕ) → IsRecordNumber d k name → ⊥ = λ k h. none_found c.record_named.result k c.in-None.is ((c.record_named.ensures d c.requires.index k).1 h) in
    ap (used_xref (is_named d)) (sym c.xref.ensures ∙ ap option_copied c.in-Some.is) ∙ unknown_dropped d name c.requires.index.resolved c.requires.document unknown
  where
    none_found : (r : Option ℕ) (n : ℕ) → r ≡ None → r ≡ Some n → ⊥
    none_found r n e f = cc
