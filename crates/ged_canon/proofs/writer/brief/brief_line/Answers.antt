use Rattle.std.proofs.Common.{◌++◌, [], ◌∷◌, cond, sym, ap, ◌∙◌, append_assoc, string_bytes}
use Rattle.ged_value.specs.Left.{words_left}
use Rattle.ged_canon.proofs.writer.BriefWords.{made_more, made_same}
use Rattle.ged_canon.proofs.writer.brief.brief_line.Goals as goal

pub loop-rest-preserved-in_ok-append_word : goal.loop-rest-preserved-in_ok-append_word
loop-rest-preserved-in_ok-append_word c =
    let before = c.loop-rest.invariant in
    let line = string_bytes c.loop-rest.brief in
    let word = c.first_word.result.0.now in
    let grown = c.in_ok-append_word.ensures ∙ ap (λ w. cond c.loop-rest.is_first (line ++ w) (line ++ 32 ∷ w)) c.trimmed.ensures in (
      before.0 ++ word ∷ [],
      made_more c.left_out_at-left_out.result.calendar c.left_out_at-left_out.result.zeros before.0 word line c.loop-rest.is_first before.1
          (sym c.is_left_out.ensures ∙ c.if-not-is_left_out.true) (string_bytes c.append_word.new.line) grown,
      before.2 ∙ ap (λ words. before.0 ++ words) (ap words_left c.in-Some.is ∙ c.first_word.ensures) ∙ sym (append_assoc before.0 (word ∷ []) (words_left c.first_word.result.1)),
    )

pub loop-rest-preserved : goal.loop-rest-preserved
loop-rest-preserved c =
    let before = c.loop-rest.invariant in
    let word = c.first_word.result.0.now in (
      before.0 ++ word ∷ [],
      made_same c.left_out_at-left_out.result.calendar c.left_out_at-left_out.result.zeros before.0 word (string_bytes c.loop-rest.brief) c.loop-rest.is_first before.1
          (sym c.is_left_out.ensures ∙ c.if-not-is_left_out.false),
      before.2 ∙ ap (λ words. before.0 ++ words) (ap words_left c.in-Some.is ∙ c.first_word.ensures) ∙ sym (append_assoc before.0 (word ∷ []) (words_left c.first_word.result.1)),
    )
