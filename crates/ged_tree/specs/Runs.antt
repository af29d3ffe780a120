-- Trees that stand side by side, as runs of places: how a document is gone through one tree after another.
use Rattle.std.specs.Prelude.{◌≡◌, ℕ, ◌+◌, ◌-◌, ◌<◌, ◌≤◌, ◌==◌, if◌then◌else◌}
use Rattle.ged_tree.specs.Trees.{Trees, none, tree, trees_count}
use Rattle.ged_tree.specs.Places.{trees_from, structure_at}

-- the first of the trees, as many as have that many structures
abbrev pub leading : Trees → ℕ → Trees
leading none count = none
leading (tree s below next) count =
    if count == 0 then none
    else tree s below (leading next (count - 1 - trees_count below))

-- the trees that stand side by side at the places from start up to end
unfoldable pub trees_between : Trees → ℕ → ℕ → Trees
trees_between trees start end = leading (trees_from trees start) (end - start)

-- whole trees that stand side by side fill the places from start up to end
pub record IsRunOfTrees (trees : Trees) (start end : ℕ) : Type 0 where
  pub fills : start + trees_count (trees_between trees start end) ≡ end

-- a run of trees from place up to end is its first structure, the run below it, and the run from the place after on
pub record IsStep (trees : Trees) (place end after : ℕ) : Type 0 where
  pub first : trees_between trees place end
      ≡ tree (structure_at trees place) (trees_between trees (place + 1) after) (trees_between trees after end)
  pub below : IsRunOfTrees trees (place + 1) after
  pub rest : IsRunOfTrees trees after end
  pub forth : place < after
  pub room : after ≤ end
  pub within : place < trees_count trees
