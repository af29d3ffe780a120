use Rattle.std.proofs.Common.{◌≡◌, ◌+◌, ◌-◌, ◌++◌, ℕ, take, drop, take-add, subst, sym, ap, ◌∙◌, arith, IsUtf8}
use Rattle.std.proofs.lemmas.Str.{IsUtf8-append, IsUtf8-from_is_utf8, is_utf8-from_IsUtf8}
use Rattle.ged_tool.proofs.runs.whole_file.known_further.Goals as goal

pub returns-in-Ok-clause-text : goal.returns-in-Ok-clause-text
returns-in-Ok-clause-text c =
    let bytes = c.args.bytes.now in
    let known = c.args.known in
    let end = c.args.new + c.in_ok-last.last + 1 in
    let split : end ≡ known + (end - known) = omega (arith, c.requires.order) in
    let joined : take end bytes ≡ take known bytes ++ take (end - known) (drop known bytes) = ap (λ (n : ℕ). take n bytes) split ∙ take-add known (end - known) bytes in
    let part : IsUtf8 (take (end - known) (drop known bytes)) = c.in-Ok.ensures.1 in
    is_utf8-from_IsUtf8 (take end bytes) (subst IsUtf8 (sym joined)
    (IsUtf8-append (take known bytes) (take (end - known) (drop known bytes)) (IsUtf8-from_is_utf8 (take known bytes) c.requires.text) part))
