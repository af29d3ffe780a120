use Rattle.std.proofs.Common.{◌≡◌, length, take, subst, sym, ap, ◌∙◌, arith, IsUtf8}
use Rattle.std.proofs.lemmas.List.{take_all}
use Rattle.std.proofs.lemmas.Str.{IsUtf8-from_is_utf8}
use Rattle.ged_tool.proofs.runs.whole_file.WholeFile.text.Goals as goal

pub from_utf8_unchecked-requires : goal.from_utf8_unchecked-requires
from_utf8_unchecked-requires c =
    let file = c.args.self.now in
    let long = ap (λ xs. length xs) c.as_slice-bytes.ensures.value in
    let all : take file.known file.bytes.items ≡ c.as_slice-bytes.result.now = take_all file.known file.bytes.items (omega (arith, c.if-self-bytes.false, long)) ∙ sym c.as_slice-bytes.ensures.value in
    subst IsUtf8 all (IsUtf8-from_is_utf8 (take file.known file.bytes.items) file.known_text)
