use Rattle.std.proofs.Common.{◌≡◌, ◌∷◌, lit<}
use Rattle.std.proofs.lemmas.Bool.{false≢true}
use Rattle.std.proofs.lemmas.Str.Pattern.{strip_prefix_char}
use Rattle.ged_canon.proofs.NumberTests.{numbered_is}
use Rattle.ged_canon.proofs.writer.numbers.is_numbered.Goals as goal

pub returns-in-None : goal.returns-in-None
returns-in-None c =
    let no = rw c.in-None.is at (strip_prefix_char 88 c.args.name.now c.strip_prefix.result c.strip_prefix.ensures.cases (lit< tt)) in
    ((λ t. absurd (false≢true t)), (λ e. absurd (no _ e)))

pub returns-in-Some : goal.returns-in-Some
returns-in-Some c =
    let cut : c.args.name.now ≡ 88 ∷ c.in-Some.digits.now = rw c.in-Some.is at (strip_prefix_char 88 c.args.name.now c.strip_prefix.result c.strip_prefix.ensures.cases (lit< tt)) in
    numbered_is c.args.name.now c.in-Some.digits.now c.args.number c.is_decimal.result cut c.is_decimal.ensures c.requires c.ranges.number.fits
