-- HEAD and the records of two documents, compared one by one.
use Rattle.std.proofs.Common.{◌≡◌, ℕ, ◌+◌, Bool, List, [], ◌∷◌, ◌++◌, length, refl, sym, ap, ◌∙◌, arith}
use Rattle.ged_line.specs.Bytes.{Bytes}
use Rattle.ged_line.specs.Spelling.{spelled_lines}
use Rattle.ged_tree.specs.Trees.{Trees, none, tree}
use Rattle.ged_tree.specs.DocumentLines.{lines_of}
use Rattle.ged_canon.specs.declared.edition.Edition.{Edition}
use Rattle.ged_canon.specs.declared.writer.rank.RankedSibling.{RankedSibling}
use Rattle.ged_canon.specs.inner.CanonBytes.{numbered_siblings, spelled_siblings}
use Rattle.ged_canon.proofs.writer.Records.{siblings_spelled}

-- the first of trees side by side, alone
abbrev first_tree : Trees → Trees
first_tree none = none
first_tree (tree s below next) = tree s below none

abbrev other_trees : Trees → Trees
other_trees none = none
other_trees (tree s below next) = next

abbrev count : Trees → ℕ
count none = 0
count (tree s below next) = count next + 1

siblings_count : (used : Bytes → Bool) (edition : Edition) (names : List Bytes) (d : Trees) (xs : List RankedSibling) → count (numbered_siblings used edition names d xs) ≡ length xs
siblings_count used edition names d [] = refl
siblings_count used edition names d (x ∷ xs) = omega (arith, siblings_count used edition names d xs)

module _ (used other_used : Bytes → Bool) (edition other_edition : Edition) (names other_names : List Bytes) (d e : Trees) where
  -- equal documents have as many siblings
  pub same_count : (xs ys : List RankedSibling) → numbered_siblings used edition names d xs ≡ numbered_siblings other_used other_edition other_names e ys → length xs ≡ length ys
  same_count xs ys h = sym (siblings_count used edition names d xs) ∙ ap count h ∙ siblings_count other_used other_edition other_names e ys

  -- the first of them are equal
  pub same_first : (x y : RankedSibling) (xs ys : List RankedSibling) → numbered_siblings used edition names d (x ∷ xs) ≡ numbered_siblings other_used other_edition other_names e (y ∷ ys)
      → numbered_siblings used edition names d (x ∷ []) ≡ numbered_siblings other_used other_edition other_names e (y ∷ [])
  same_first x y xs ys h = ap first_tree h

  -- equal siblings have the same lines
  pub same_lines : (xs ys : List RankedSibling) → numbered_siblings used edition names d xs ≡ numbered_siblings other_used other_edition other_names e ys
      → spelled_siblings used edition names d xs ≡ spelled_siblings other_used other_edition other_names e ys
  same_lines xs ys h = ap (λ t. spelled_lines (lines_of 0 t)) h

  -- the others are equal
  pub same_others : (x y : RankedSibling) (xs ys : List RankedSibling) → numbered_siblings used edition names d (x ∷ xs) ≡ numbered_siblings other_used other_edition other_names e (y ∷ ys)
      → numbered_siblings used edition names d xs ≡ numbered_siblings other_used other_edition other_names e ys
  same_others x y xs ys h = ap other_trees h

  -- siblings have the same lines where the first of them have, and the others
  pub all_spelled : (x y : RankedSibling) (xs ys : List RankedSibling) → spelled_siblings used edition names d (x ∷ []) ≡ spelled_siblings other_used other_edition other_names e (y ∷ [])
      → spelled_siblings used edition names d xs ≡ spelled_siblings other_used other_edition other_names e ys
      → spelled_siblings used edition names d (x ∷ xs) ≡ spelled_siblings other_used other_edition other_names e (y ∷ ys)
  all_spelled x y xs ys first others =
      siblings_spelled used edition names d x xs ∙ (λ i. first i ++ others i) ∙ sym (siblings_spelled other_used other_edition other_names e y ys)
