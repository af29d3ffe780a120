use Rattle.std.proofs.Common.{◌≡◌, false, sym, ap, ◌∙◌}
use Rattle.std.specs.List.{list_any}
use Rattle.std.specs.Prelude.{◌==◌}
use Rattle.std.proofs.lemmas.Bool.{not-true}
use Rattle.ged_value.specs.Words.{words_of}
use Rattle.ged_canon.proofs.writer.BriefTests.{all_brief, brief_without_g}
use Rattle.ged_canon.proofs.writer.brief.are_brief_words.Goals as goal

pub returns-then-not-left_out-2 : goal.returns-then-not-left_out-2
returns-then-not-left_out-2 c = sym (all_brief c.args.left_out.calendar c.args.left_out.zeros (not-true c.args.left_out.calendar c.if-not-left_out.true) (not-true c.args.left_out.zeros c.if-not-left_out-2.true) (words_of c.args.line.now))

pub returns-then-not-has_g : goal.returns-then-not-has_g
returns-then-not-has_g c =
    let none : list_any (λ b. b == 0x47) c.args.line.now ≡ false =
    ap (list_any (λ b. b == 0x47)) (sym c.as_bytes.ensures.value) ∙ sym c.has_g.ensures ∙ c.if-not-has_g.true in
    sym (brief_without_g c.args.left_out.calendar c.args.left_out.zeros c.args.line.now (not-true c.args.left_out.zeros c.if-not-left_out-3.true) none)
