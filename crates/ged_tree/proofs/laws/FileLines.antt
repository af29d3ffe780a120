-- The lines that a file spells.
use Rattle.std.proofs.Common.{◌≡◌, ◌≢◌, ◌+◌, ◌^◌, ◌<◌, ◌≤◌, true, List, [], ◌∷◌, ◌++◌, ◌∙◌, inl, inr, length, refl, sym, arith, ap, length-append}
use Rattle.std.specs.List.{list_all}
use Rattle.std.proofs.lemmas.Bool.{and_from}
use Rattle.ged_line.specs.Bytes.{Bytes}
use Rattle.ged_line.specs.Lines.{LineParts, is_line}
use Rattle.ged_line.specs.Pieces.{IsEnd, IsBehindMark, AreCutInto, ArePiecesOf}
use Rattle.ged_line.specs.Files.{AreTexts, FileText}
use Rattle.ged_tree.specs.Trees.{Trees}
use Rattle.ged_tree.specs.Documents.{HasLines}
use Rattle.ged_tree.specs.TreeFaults.{Pass, has_trailer}
use Rattle.ged_tree.proofs.theory.OneDocument.{made}
use Rattle.ged_line.proofs.CallerLemmas.{texts_of_file}
use Rattle.ged_tree.proofs.theory.ReadLines.{length-AreTexts}

some_end : {end rest : Bytes} → IsEnd end rest → 0 < length end
some_end (inl e) = let size = ap (λ (bs : Bytes). length bs) e in omega (arith, size)
some_end (inr (inl e)) = let size = ap (λ (bs : Bytes). length bs) e in omega (arith, size)
some_end (inr (inr e)) = let size = ap (λ (bs : Bytes). length bs) e.0 in omega (arith, size)

last_few : (piece : Bytes) (pieces : List Bytes) (bytes : Bytes) → pieces ≡ [] → bytes ≢ [] → length (piece ∷ pieces) ≤ length bytes
last_few piece pieces [] none_left some = absurd (some refl)
last_few piece pieces (b ∷ bs) none_left some = let size = ap (λ (ps : List Bytes). length ps) none_left in omega (arith, size)

cut_few : (pieces : List Bytes) (bytes : Bytes) → AreCutInto bytes pieces → length pieces ≤ length bytes
cut_few [] bytes c = omega arith
cut_few (piece ∷ pieces) bytes (n, inl (none_left, e, some)) = last_few piece pieces bytes none_left (λ z. some (sym e ∙ z))
cut_few (piece ∷ pieces) bytes (n, inr (end, rest, e, q, c)) =
    let later = cut_few pieces rest c in
    let size : length bytes ≡ length piece + length (end ++ rest) = ap (λ (bs : Bytes). length bs) q ∙ length-append piece (end ++ rest) in
    omega (arith, later, size, length-append end rest, some_end e)

behind_few : (file bytes : Bytes) → IsBehindMark file bytes → length bytes ≤ length file
behind_few file bytes (inl e) = let size = ap (λ (bs : Bytes). length bs) e in omega (arith, size)
behind_few file bytes (inr e) = let size = ap (λ (bs : Bytes). length bs) e.0 in omega (arith, size)

-- a file has no more pieces than bytes
pub few_pieces : (file : Bytes) (pieces : List Bytes) → ArePiecesOf file pieces → length pieces ≤ length file
few_pieces file pieces (bytes, m, c) = omega (arith, cut_few pieces bytes c, behind_few file bytes m)

texts_are_lines : (lines : List LineParts) (pieces : List Bytes) → AreTexts lines pieces → list_all is_line lines ≡ true
texts_are_lines [] pieces a = refl
texts_are_lines (line ∷ lines) [] a = absurd a
texts_are_lines (line ∷ lines) (piece ∷ pieces) a = and_from _ _ a.0.is_line (texts_are_lines lines pieces a.1)

-- what a file spells are lines, and no more than the file has bytes
pub file_lines : (lines : List LineParts) (file : Bytes) → FileText lines file → (list_all is_line lines ≡ true) × (length lines ≤ length file)
file_lines lines file t =
    let cut = texts_of_file file lines t in
    (texts_are_lines lines cut.0 cut.2, omega (arith, length-AreTexts lines cut.0 cut.2, few_pieces file cut.0 cut.1))

-- a file whose lines have no fault is a document's
pub file_made : (lines : List LineParts) (file : Bytes) → FileText lines file → length file < 2 ^ 63 → Pass lines → has_trailer lines ≡ true
    → (document : Trees) × HasLines document lines
file_made lines file t small p e =
    let f = file_lines lines file t in
    let few = f.1 in
    made lines p e f.0 (omega (arith, few, small))
