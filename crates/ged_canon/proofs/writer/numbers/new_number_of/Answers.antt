use Rattle.std.proofs.Common.{◌≡◌, ℕ, Option, Some, None, sym}
use Rattle.ged_canon.proofs.writer.NewNames.{unnumbered}
use Rattle.ged_canon.proofs.writer.numbers.new_number_of.Goals as goal

pub returns-in-None : goal.returns-in-None
returns-in-None c = λ d names h. sym (unnumbered c.args.name.now 1 names (λ k.
    let at = h.1.known c.args.name.now k in
    let found = (c.record_named.ensures d h.0 at.0).1 at.1 in
    absurd (none_found c.record_named.result at.0 c.in-None.is found)))
  where
    none_found : (r : Option ℕ) (n : ℕ) → r ≡ None → r ≡ Some n → ⊥
    none_found r n e f = cc
