-- A place among trees is that of the first structure, one below it, or one of the trees after it.
use Rattle.std.proofs.Common.{◌≡◌, ℕ, ◌+◌, ◌-◌, ◌<◌, ◌⊎◌, inl, inr, sym, ◌∙◌, refl, arith}
use Rattle.std.proofs.lemmas.Bool.{cases_lt}
use Rattle.ged_tree.specs.Trees.{Structure, Trees, none, tree, trees_count}
use Rattle.ged_tree.specs.Places.{structure_at, place_after}
use Rattle.ged_tree.specs.Runs.{trees_between, IsRunOfTrees}
use Rattle.ged_tree.proofs.CallerLemmas.{from_below, from_next, run_unfolds, run_below, run_next, run_within}

pub place_cases : (s : Structure) (b n : Trees) (p : ℕ) → p < trees_count (tree s b n)
    → (p ≡ 0) ⊎ (((i : ℕ) × (i < trees_count b) × (p ≡ 1 + i)) ⊎ ((i : ℕ) × (i < trees_count n) × (p ≡ 1 + trees_count b + i)))
place_cases s b n p h = elim (cases_lt 0 p) [
  | inr first ↦ inl (omega arith)
  | inl later ↦ elim (cases_lt (trees_count b) p) [
    | inr within ↦ inr (inl (p - 1, omega arith, omega arith))
    | inl past ↦ inr (inr (p - 1 - trees_count b, omega arith, omega arith))
  ]
]

pub at_first : (s : Structure) (b n : Trees) → structure_at (tree s b n) 0 ≡ s
unfolding structure_at
at_first s b n = refl

pub at_below : (s : Structure) (b n : Trees) (i : ℕ) → i < trees_count b → structure_at (tree s b n) (1 + i) ≡ structure_at b i
unfolding structure_at
at_below s b n i h = let e : 1 + i - 1 ≡ i = omega arith in rw (from_below s b n (1 + i) (omega arith) (omega arith), e) refl

pub at_next : (s : Structure) (b n : Trees) (i : ℕ) → structure_at (tree s b n) (1 + trees_count b + i) ≡ structure_at n i
unfolding structure_at
at_next s b n i = let e : 1 + trees_count b + i - 1 - trees_count b ≡ i = omega arith in rw (from_next s b n (1 + trees_count b + i) (omega arith), e) refl

-- the structures of a run of trees are those of the trees
pub in_run : (t d : Trees) (p q i : ℕ) → trees_between d p q ≡ t → IsRunOfTrees d p q → i < trees_count t → structure_at d (p + i) ≡ structure_at t i
in_run none d p q i e run h = absurd (omega arith)
in_run (tree s b n) d p q i e run h =
    let size : p + trees_count (tree s b n) ≡ q = rw e at run.fills in
    let before : p < q = omega (arith, size) in
    let a = place_after d p in
    let u = run_unfolds d p q run before in
    let within = run_within d p q run before in
    let below_run : IsRunOfTrees d (p + 1) a = run_below d p within in
    let next_run : IsRunOfTrees d a q = run_next d p q run before in
    let is_first : structure_at d p ≡ s = cc in
    let is_below : trees_between d (p + 1) a ≡ b = cc in
    let is_next : trees_between d a q ≡ n = cc in
    let ends : p + 1 + trees_count b ≡ a = rw is_below at below_run.fills in
    elim (place_cases s b n i h) [
      | inl first ↦ (let z : p + i ≡ p = omega arith in rw (z, first) (is_first ∙ sym (at_first s b n)))
      | inr (inl w) ↦ (let z : p + i ≡ p + 1 + w.0 = omega (arith, w.2) in rw (z, w.2) (in_run b d (p + 1) a w.0 is_below below_run w.1 ∙ sym (at_below s b n w.0 w.1)))
      | inr (inr w) ↦ (let z : p + i ≡ a + w.0 = omega (arith, w.2, ends) in rw (z, w.2) (in_run n d a q w.0 is_next next_run w.1 ∙ sym (at_next s b n w.0)))
    ]
