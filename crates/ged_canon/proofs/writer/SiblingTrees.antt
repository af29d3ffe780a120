-- The trees of siblings that are listed by their places.
use Rattle.std.proofs.Common.{◌≡◌, ℕ, ◌+◌, Bool, List, [], ◌∷◌, ◌++◌, refl, sym, ap, ◌∙◌, arith}
use Rattle.std.specs.List.{AllByRecursion}
use Rattle.std.specs.List.Sorted.{IsPermutation}
use Rattle.std.proofs.lemmas.List.Elements.{All-from_recursion, recursion_from_All}
use Rattle.std.proofs.lemmas.List.Sorted.{All-permutation}
use Rattle.ged_line.specs.Bytes.{Bytes}
use Rattle.ged_tree.specs.Trees.{Structure, Trees, tree}
use Rattle.ged_tree.specs.Places.{structure_at, below_at, place_after}
use Rattle.ged_tree.specs.Runs.{trees_between, IsRunOfTrees, IsStep}
use Rattle.ged_tree.proofs.CallerLemmas.{run_unfolds, below_run}
use Rattle.ged_schema.specs.declared.context.Context.{Context}
use Rattle.ged_schema.specs.Tables.{context_below}
use Rattle.ged_canon.specs.declared.edition.Edition.{Edition}
use Rattle.ged_canon.specs.declared.writer.rank.RankedSibling.{RankedSibling}
use Rattle.ged_canon.specs.inner.Working.{used_structure, used_trees, brief_structure, sorted, each_sorted}
use Rattle.ged_canon.specs.inner.Siblings.{own_tag, sibling_trees}
use Rattle.ged_canon.proofs.writer.StableSort.{AreListed}

same_below : (s : Structure) (b n c m : Trees) → tree s b n ≡ tree s c m → b ≡ c
same_below s b n c m e = cc

-- what stands below the first structure of a run
pub below_step : (d : Trees) (place end after : ℕ) → IsRunOfTrees d place end → IsStep d place end after → trees_between d (place + 1) after ≡ below_at d place
below_step d place end after run step =
    same_below (structure_at d place) (trees_between d (place + 1) after) (trees_between d after end) (trees_between d (place + 1) (place_after d place)) (trees_between d (place_after d place) end)
    (sym step.first ∙ run_unfolds d place end run (omega (arith, step.forth, step.room)))
    ∙ below_run d place step.within

-- the trees of siblings, of which the first is the first of a run
pub first_sibling : (used : Bytes → Bool) (edition : Edition) (context : Context) (d : Trees) (place end after : ℕ) (sibling : RankedSibling) (rest : List RankedSibling)
    → IsRunOfTrees d place end → IsStep d place end after → sibling.place ≡ place
    → sibling_trees used edition context d rest ≡ each_sorted edition context (used_trees used (trees_between d after end))
    → sibling_trees used edition context d (sibling ∷ rest) ≡ each_sorted edition context (used_trees used (trees_between d place end))
first_sibling used edition context d place end after sibling rest run step at e =
    let s = structure_at d place in
    (λ i. tree (brief_structure edition context (used_structure used (structure_at d (at i))))
    (sorted edition (context_below context (structure_at d (at i)).tag) (below_at d (at i)))
    (e i))
    ∙ ap (λ b. tree (brief_structure edition context (used_structure used s)) (sorted edition (context_below context s.tag) b) (each_sorted edition context (used_trees used (trees_between d after end)))) (sym (below_step d place end after run step))
    ∙ ap (λ t. each_sorted edition context (used_trees used t)) (sym step.first)

-- siblings are listed as trees
pub siblings_listed : (used : Bytes → Bool) (edition : Edition) (context : Context) (d : Trees)
    → AreListed (λ (x : RankedSibling). brief_structure edition context (used_structure used (structure_at d x.place))) (λ x. sorted edition (context_below context (own_tag d x)) (below_at d x.place)) (sibling_trees used edition context d)
siblings_listed used edition context d = record { nothing = refl; first = λ x xs. refl }

pub all_with : (P : RankedSibling → Type 0) (xs : List RankedSibling) (x : RankedSibling) → AllByRecursion P xs → P x → AllByRecursion P (xs ++ x ∷ [])
all_with P [] x h p = (p, tt)
all_with P (y ∷ ys) x h p = (h.0, all_with P ys x h.1 p)

pub all_permuted : (P : RankedSibling → Type 0) (xs ys : List RankedSibling) → IsPermutation xs ys → AllByRecursion P xs → AllByRecursion P ys
all_permuted P xs ys s h = recursion_from_All P ys (All-permutation P xs ys s (All-from_recursion P xs h))
