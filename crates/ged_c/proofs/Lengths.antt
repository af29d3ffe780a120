-- The canonical spelling of a file's lines has at most four bytes more than the file: a mark, and an end after the last line.
use Rattle.std.proofs.Common.{◌≡◌, ℕ, ◌+◌, ◌<◌, ◌≤◌, List, [], ◌∷◌, ◌++◌, ◌∙◌, inl, inr, length, ap, arith, length-append}
use Rattle.ged_line.specs.Bytes.{Bytes, space, line_feed}
use Rattle.ged_line.specs.Lines.{LineParts}
use Rattle.ged_line.specs.Spelling.{LineText, spelling, spelled_lines}
use Rattle.ged_line.specs.Pieces.{IsEnd, IsBehindMark}
use Rattle.ged_line.specs.Files.{SpellLines, IsRespelling}
use Rattle.ged_tool.specs.declared.runs.answer.Command.TheVariants.{Lines}
use Rattle.ged_c.specs.Calls.{IsCall, EndMeans, length_of}
use Rattle.ged_c.specs.declared.answering.Ended.{Ended}
use Rattle.ged_c.specs.declared.answering.Ended.TheVariants.{Answered, NoRoom, Refused, BadSettings, NotFound}

some_end : {end rest : Bytes} → IsEnd end rest → 0 < length end
some_end (inl e) = let size = ap (λ (bs : Bytes). length bs) e in omega (arith, size)
some_end (inr (inl e)) = let size = ap (λ (bs : Bytes). length bs) e in omega (arith, size)
some_end (inr (inr e)) = let size = ap (λ (bs : Bytes). length bs) e.0 in omega (arith, size)

spelling_fits : (line : LineParts) (text : Bytes) → LineText line text → length (spelling line) ≤ length text
spelling_fits line text t = elim t.spelled [
  | inl own ↦ (let size = ap (λ (bs : Bytes). length bs) own in omega (arith, size))
  | inr blank ↦ (let size = ap (λ (bs : Bytes). length bs) blank.1 in omega (arith, size, length-append (spelling line) (space ∷ [])))
]

lines_fit : (lines : List LineParts) (bytes : Bytes) → SpellLines lines bytes → length (spelled_lines lines) ≤ length bytes + 1
lines_fit [] bytes s = omega arith
lines_fit (line ∷ lines) bytes (text, t, inl (none, e)) =
    let size = ap (λ (bs : Bytes). length bs) e in
    let no_more : length (spelled_lines lines) ≡ 0 = ap (λ ls. length (spelled_lines ls)) none in
    omega (arith, size, no_more, length-append (spelling line) (line_feed ∷ spelled_lines lines), spelling_fits line text t)
lines_fit (line ∷ lines) bytes (text, t, inr (end, rest, e, q, s)) =
    let later = lines_fit lines rest s in
    let size : length bytes ≡ length text + length (end ++ rest) = ap (λ (bs : Bytes). length bs) q ∙ length-append text (end ++ rest) in
    omega (arith, later, size, length-append end rest, some_end e, length-append (spelling line) (line_feed ∷ spelled_lines lines), spelling_fits line text t)

behind_few : (file bytes : Bytes) → IsBehindMark file bytes → length bytes ≤ length file
behind_few file bytes (inl e) = let size = ap (λ (bs : Bytes). length bs) e in omega (arith, size)
behind_few file bytes (inr e) = let size = ap (λ (bs : Bytes). length bs) e.0 in omega (arith, size)

pub respelling_fits : (file text : Bytes) → IsRespelling file text → length text ≤ length file + 4
respelling_fits file text (lines, (bytes, mark, spell), is) =
    let size = ap (λ (bs : Bytes). length bs) is in omega (arith, size, behind_few file bytes mark, lines_fit lines bytes spell)

means_short : (settings : ℕ) (file before after : Bytes) (ended : Ended) → EndMeans Lines settings file before after ended → length_of ended ≤ length file + 4
means_short settings file before after (Answered count) (profile, edition, is, (within, (text, answers, put))) =
    let fits = respelling_fits file text answers in omega (arith, put.0, fits)
means_short settings file before after (NoRoom count) (profile, edition, is, (within, (text, answers, put))) =
    let fits = respelling_fits file text answers in omega (arith, put.0, fits)
means_short settings file before after (Refused fault) m = omega arith
means_short settings file before after BadSettings m = omega arith
means_short settings file before after NotFound m = omega arith

-- so the answer of a call is
pub lines_are_short : (settings : ℕ) (file before after : Bytes) (status count line : ℕ) → IsCall Lines settings file before after status count line → count ≤ length file + 4
lines_are_short settings file before after status count line called =
    let short = means_short settings file before after called.ended called.means in omega (arith, short, called.length_tells)
