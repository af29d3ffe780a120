use Rattle.std.proofs.Common.{◌≡◌, ℕ, Option, subst, sym, arith}
use Rattle.std.specs.Option.{MatchOption}
use Rattle.ged_tree.specs.Places.{line_at}
use Rattle.ged_link.specs.LinkFaults.{IsLowest}
use Rattle.ged_schema.specs.declared.context.Context.TheVariants.{File}
use Rattle.ged_schema.specs.Unlisted.{Unlisted, UnlistedAt}
use Rattle.ged_schema.proofs.FirstUnlisted.{has_place, unlisted_within}
use Rattle.ged_schema.proofs.notices.first_unlisted.Goals as goal

pub returns-in_err-place : goal.returns-in_err-place
returns-in_err-place g c =
    let d = g.F.Forest.trees c.args.forest.now in
    subst (λ (line : Option ℕ). MatchOption line (Unlisted File d → ⊥) (λ at. (place : ℕ) × IsLowest (UnlistedAt d) place × (at ≡ line_at 1 d place))) (sym c.from_residual.ensures)
    (λ some. let (p, at) = has_place File 0 d some in (rw c.end_of_all.ensures.all at c.in_err-place.ensures) p at)

pub line-requires : goal.line-requires
line-requires g c =
    let d = g.F.Forest.trees c.args.forest.now in
    let within = unlisted_within File 0 d c.in_ok-place.place ((rw c.end_of_all.ensures.all at c.in_ok-place.ensures).0) in
    omega (arith, within.1)
