-- How many lines a document has.
use Rattle.std.proofs.Common.{◌≡◌, ℕ, ◌+◌, List, [], ◌∷◌, ◌++◌, length, length-append, refl, ap, suc, arith}
use Rattle.ged_line.specs.Bytes.{Bytes}
use Rattle.ged_tree.specs.Trees.{Structure, Trees, none, tree, line_count, lines_count, further_lines}
use Rattle.ged_tree.specs.DocumentLines.{structure_lines, lines_of, document_lines}
use Rattle.ged_tree.specs.inner.DocumentParts.{continued}
use Rattle.ged_tree.specs.inner.Trailers.{trailer_line}

length-continued : (l : ℕ) (lines : List Bytes) → length (continued l lines) ≡ length lines
length-continued l [] = refl
length-continued l (line ∷ lines) = ap suc (length-continued l lines)

pub length-structure_lines : (l : ℕ) (s : Structure) → length (structure_lines l s) ≡ line_count s.payload
length-structure_lines l s = omega (arith, length-continued (l + 1) (further_lines s.payload))

pub length_lines : (l : ℕ) (w : Trees) → length (lines_of l w) ≡ lines_count w
length_lines l none = refl
length_lines l (tree s b n) =
    omega (arith, length-append (structure_lines l s ++ lines_of (l + 1) b) (lines_of l n), length-append (structure_lines l s) (lines_of (l + 1) b), length-structure_lines l s, length_lines (l + 1) b, length_lines l n)

pub counted : (w : Trees) → length (document_lines w) ≡ lines_count w + 1
counted w = omega (arith, length-append (lines_of 0 w) (trailer_line ∷ []), length_lines 0 w)
