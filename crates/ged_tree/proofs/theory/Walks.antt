-- Looking for the structure at a place, and how many structures and lines a document has.
use Rattle.std.proofs.Common.{◌≡◌, ℕ, ◌+◌, ◌-◌, ◌<◌, ◌≤◌, arith, true, false, Bool, ◌&&◌, ◌^◌, nat_lt, length}
use Rattle.std.proofs.lemmas.Bool.{ltb-true}
use Rattle.std.proofs.lemmas.Bool.Decides.{nat_tests}
use Rattle.ged_tree.specs.Trees.{Structure, Trees, none, tree, trees_count, line_count, lines_count}
use Rattle.ged_tree.specs.Documents.{is_document, are_records, are_at}
use Rattle.ged_tree.specs.inner.DocumentParts.{is_head}
use Rattle.ged_tree.specs.Places.{level_at, line_at}
use Rattle.ged_tree.specs.DocumentLines.{document_lines}
use Rattle.ged_tree.proofs.theory.LineCounts.{counted}
use Rattle.ged_tree.proofs.theory.Places.{from_first, from_below, from_next}

pub level_first : (l : ℕ) (s : Structure) (b n : Trees) (p : ℕ) → p ≡ 0 → level_at l (tree s b n) p ≡ l
level_first l s b n p h = grind (arith, nat_tests)

pub level_below : (l : ℕ) (s : Structure) (b n : Trees) (p : ℕ) → 0 < p → p ≤ trees_count b → level_at l (tree s b n) p ≡ level_at (l + 1) b (p - 1)
level_below l s b n p h k = grind (arith, nat_tests)

pub level_next : (l : ℕ) (s : Structure) (b n : Trees) (p : ℕ) → trees_count b < p → level_at l (tree s b n) p ≡ level_at l n (p - 1 - trees_count b)
level_next l s b n p h = grind (arith, nat_tests)

pub ruleset founds = (from_first, from_below, from_next, level_first, level_below, level_next)

pub line_first : (l : ℕ) (s : Structure) (b n : Trees) (p : ℕ) → p ≡ 0 → line_at l (tree s b n) p ≡ l
line_first l s b n p h = grind (arith, nat_tests)

pub line_below : (l : ℕ) (s : Structure) (b n : Trees) (p : ℕ) → 0 < p → p ≤ trees_count b → line_at l (tree s b n) p ≡ line_at (l + line_count s.payload) b (p - 1)
line_below l s b n p h k = grind (arith, nat_tests)

pub line_next : (l : ℕ) (s : Structure) (b n : Trees) (p : ℕ) → trees_count b < p → line_at l (tree s b n) p ≡ line_at (l + (line_count s.payload + lines_count b)) n (p - 1 - trees_count b)
line_next l s b n p h = grind (arith, nat_tests)

pub ruleset line_steps = (line_first, line_below, line_next)

-- a structure has at least one line
pub count_most : (w : Trees) → trees_count w ≤ lines_count w
count_most none = omega arith
count_most (tree s b n) = omega (arith, count_most b, count_most n)

few_lines : (a b c : Bool) (k : ℕ) → ((a && b) && (c && nat_lt k (2 ^ 63))) ≡ true → k < 2 ^ 63
few_lines true true true k h = ltb-true k (2 ^ 63) h
few_lines true true false k h = absurd cc
few_lines true false c k h = absurd cc
few_lines false b c k h = absurd cc

-- a document has few lines, and no more structures
pub few_of_document : (w : Trees) → is_document w ≡ true → (trees_count w < 2 ^ 63) × (lines_count w + 1 < 2 ^ 63)
few_of_document none h = absurd cc
few_of_document (tree s b n) h =
    let few = few_lines (is_head s) (are_records n) (are_at 0 (tree s b n)) (length (document_lines (tree s b n))) h in
    let all = counted (tree s b n) in
    (omega (arith, few, all, count_most (tree s b n)), omega (arith, few, all))
