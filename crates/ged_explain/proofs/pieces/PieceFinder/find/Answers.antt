use Rattle.std.proofs.Common.{◌≡◌, ◌+◌, arith, option_map}
use Rattle.ged_explain.specs.Showing.{IsPieceAt}
use Rattle.ged_explain.specs.inner.Passing.{HasPassed}
use Rattle.ged_explain.proofs.Passing.{at_start, passed_on}
use Rattle.ged_explain.proofs.pieces.PieceFinder.find.Goals as goal
use Rattle.ged_explain.proofs.pieces.PieceFinder.find.Goals.{then-line-self, else-line-self}

pub invariant_of-self : goal.invariant_of-self
invariant_of-self c =
    elim c.if-line-self.branch [
      | then-line-self w ↦ rw w.self-inside-is (at_start w.split_pieces-self-inside.ensures)
      | else-line-self w ↦ rw w.self-inside-is c.self.invariant
    ]

found_behind : (c : goal.After-nth) → IsPieceAt c.args.self.now c.args.line (option_map (λ piece. piece.now) c.nth.result)
    × HasPassed c.if-line-self.self-inside.bytes.now c.args.line c.nth.new.self
found_behind c =
    let self = c.if-line-self.self-inside in
    let before : HasPassed self.bytes.now self.passed self.rest = elim c.if-line-self.branch [
      | then-line-self w ↦ rw w.self-inside-is (at_start w.split_pieces-self-inside.ensures)
      | else-line-self w ↦ rw w.self-inside-is c.self.invariant
    ] in
    let same : self.bytes.now ≡ c.args.self.now = elim c.if-line-self.branch [
      | then-line-self w ↦ rw w.self-inside-is c.self.view_is
      | else-line-self w ↦ rw w.self-inside-is c.self.view_is
    ] in
    let number : c.args.line ≡ self.passed + 1 + c.in_ok-between.between = omega (arith, c.in_ok-between.ensures) in
    let on = passed_on self.bytes.now self.passed c.in_ok-between.between c.args.line self.rest c.nth.result c.nth.new.self number before c.nth.ensures.ran in
    (rw same at on.0, on.1)

pub invariant_of-self-2 : goal.invariant_of-self-2
invariant_of-self-2 c = (found_behind c).1

pub returns-clause-found : goal.returns-clause-found
returns-clause-found c = (found_behind c).0
