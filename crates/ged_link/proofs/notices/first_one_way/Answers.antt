use Rattle.std.proofs.Common.{◌≡◌, ℕ, Some, None, sym, ap, ◌∙◌, slice_get, subst, Option, arith}
use Rattle.std.specs.Option.{option_copied, MatchOption}
use Rattle.ged_tree.specs.Places.{line_at}
use Rattle.ged_link.specs.LinkFaults.{IsLowest}
use Rattle.ged_link.specs.Notices.{OneWay, OneWayAt}
use Rattle.ged_link.proofs.OneWayLemmas.{no_first, first_is, one_way_within}
use Rattle.ged_link.proofs.notices.first_one_way.Goals as goal

pub returns-in_err-place : goal.returns-in_err-place
returns-in_err-place g c =
    let w = g.F.Forest.trees c.args.forest.now in
    let places = c.args.index.now.one_way.items in
    let empty : slice_get places 0 ≡ None = ap (λ ps. slice_get ps 0) (sym c.deref.ensures.value) ∙ sym c.first.ensures.value ∙ ap option_copied c.in_err-place.was in
    subst (λ (line : Option ℕ). MatchOption line (OneWay w → ⊥) (λ at. (place : ℕ) × IsLowest (OneWayAt w) place × (at ≡ line_at 1 w place))) (sym c.from_residual.ensures)
    (no_first w places c.requires.index.one_way empty)

pub line-requires : goal.line-requires
line-requires g c =
    let w = g.F.Forest.trees c.args.forest.now in
    let places = c.args.index.now.one_way.items in
    let place : slice_get places 0 ≡ Some c.in_ok-place.place.now = ap (λ ps. slice_get ps 0) (sym c.deref.ensures.value) ∙ sym c.first.ensures.value ∙ ap option_copied c.in_ok-place.was in
    omega (arith, one_way_within w c.in_ok-place.place.now (first_is w places c.requires.index.one_way c.in_ok-place.place.now place).0)

pub returns : goal.returns
returns g c =
    let w = g.F.Forest.trees c.args.forest.now in
    let places = c.args.index.now.one_way.items in
    let place : slice_get places 0 ≡ Some c.in_ok-place.place.now = ap (λ ps. slice_get ps 0) (sym c.deref.ensures.value) ∙ sym c.first.ensures.value ∙ ap option_copied c.in_ok-place.was in
    (c.in_ok-place.place.now, first_is w places c.requires.index.one_way c.in_ok-place.place.now place, c.line.ensures)
