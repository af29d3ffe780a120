use Rattle.std.proofs.Common.{◌++◌, ◌∷◌, [], ap, ◌∙◌, decimal}
use Rattle.std.proofs.lemmas.Fmt.{decimal-digits_of}
use Rattle.ged_canon.proofs.writer.lines.put_identifier.Goals as goal

pub returns : goal.returns
returns c =
    c.in_ok-push_str-2.ensures.bytes
    ∙ (λ i. c.in_ok-push_str.ensures.bytes i ++ c.format.ensures.text i)
    ∙ ap (λ before. (before ++ 88 ∷ []) ++ decimal c.args.number) c.clear.ensures.bytes
    ∙ ap (λ ds. 88 ∷ ds) (decimal-digits_of c.args.number c.requires c.ranges.number.fits)
