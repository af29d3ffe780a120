-- Trees by the places that they fill.
use Rattle.std.proofs.Common.{◌≡◌, ℕ, ◌+◌, ◌-◌, ◌<◌, ◌≤◌, sym, ◌∙◌, ap, refl, arith, inl, inr}
use Rattle.std.proofs.lemmas.Bool.{cases_lt}
use Rattle.std.proofs.lemmas.Bool.Decides.{nat_tests}
use Rattle.ged_tree.specs.Trees.{Structure, Trees, none, tree, trees_count}
use Rattle.ged_tree.specs.Places.{trees_from, below_first, structure_at, below_at, place_after}
use Rattle.ged_tree.specs.Runs.{leading, trees_between, IsRunOfTrees, IsStep}

pub from_first : (s : Structure) (b n : Trees) (p : ℕ) → p ≡ 0 → trees_from (tree s b n) p ≡ tree s b n
from_first s b n p h = grind (arith, nat_tests)

pub from_below : (s : Structure) (b n : Trees) (p : ℕ) → 0 < p → p ≤ trees_count b → trees_from (tree s b n) p ≡ trees_from b (p - 1)
from_below s b n p h k = grind (arith, nat_tests)

pub from_next : (s : Structure) (b n : Trees) (p : ℕ) → trees_count b < p → trees_from (tree s b n) p ≡ trees_from n (p - 1 - trees_count b)
from_next s b n p h = grind (arith, nat_tests)

-- no more structures stand from a place on than there are places from it on
pub from_fits : (w : Trees) (p : ℕ) → p ≤ trees_count w → p + trees_count (trees_from w p) ≤ trees_count w
from_fits none p h = omega arith
from_fits (tree s b n) p h =
    elim (cases_lt 0 p) [
      | inr first ↦ (let e : p ≡ 0 = omega arith in rw (from_first s b n p e) (omega arith))
      | inl later ↦ elim (cases_lt (trees_count b) p) [
        | inl past ↦ rw (from_next s b n p past) (omega (arith, from_fits n (p - 1 - trees_count b) (omega arith)))
        | inr within ↦ rw (from_below s b n p later within) (omega (arith, from_fits b (p - 1) (omega arith)))
      ]
    ]

-- a structure stands at each place
pub from_stands : (w : Trees) (p : ℕ) → p < trees_count w → (n : Trees) × (trees_from w p ≡ tree (structure_at w p) (below_at w p) n)
unfolding trees_between structure_at below_at place_after
from_stands none p h = absurd (omega arith)
from_stands (tree s b n) p h =
    elim (cases_lt 0 p) [
      | inr first ↦ (let e : p ≡ 0 = omega arith in rw (from_first s b n p e) (n, refl))
      | inl later ↦ elim (cases_lt (trees_count b) p) [
        | inl past ↦ rw (from_next s b n p past) (from_stands n (p - 1 - trees_count b) (omega arith))
        | inr within ↦ rw (from_below s b n p later within) (from_stands b (p - 1) (omega arith))
      ]
    ]

-- places are counted on from a place
pub from_from : (w : Trees) (p j : ℕ) → j < trees_count (trees_from w p) → trees_from w (p + j) ≡ trees_from (trees_from w p) j
from_from none p j h = absurd (omega arith)
from_from (tree s b n) p j h =
    elim (cases_lt 0 p) [
      | inr first ↦ (let e : p ≡ 0 = omega arith in let f : p + j ≡ j = omega arith in rw (f, from_first s b n p e) refl)
      | inl later ↦ elim (cases_lt (trees_count b) p) [
        | inl past ↦ (let k : j < trees_count (trees_from n (p - 1 - trees_count b)) = rw (from_next s b n p past) at h in
            let m : (p + j) - 1 - trees_count b ≡ (p - 1 - trees_count b) + j = omega arith in
            rw (from_next s b n p past, from_next s b n (p + j) (omega arith), m) (from_from n (p - 1 - trees_count b) j k))
        | inr within ↦ (let k : j < trees_count (trees_from b (p - 1)) = rw (from_below s b n p later within) at h in
            let fits : (p - 1) + trees_count (trees_from b (p - 1)) ≤ trees_count b = from_fits b (p - 1) (omega arith) in
            let m : (p + j) - 1 ≡ (p - 1) + j = omega arith in
            rw (from_below s b n p later within, from_below s b n (p + j) (omega arith) (omega arith), m) (from_from b (p - 1) j k))
      ]
    ]

pub leading_none : (w : Trees) (k : ℕ) → k ≡ 0 → leading w k ≡ none
leading_none none k h = refl
leading_none (tree s b n) k h = grind (arith, nat_tests)

pub leading_tree : (s : Structure) (b n : Trees) (k : ℕ) → 0 < k → leading (tree s b n) k ≡ tree s b (leading n (k - 1 - trees_count b))
leading_tree s b n k h = grind (arith, nat_tests)

-- the first of the trees, as many as there are, are all
pub leading_all : (w : Trees) (k : ℕ) → trees_count w ≡ k → leading w k ≡ w
leading_all none k h = refl
leading_all (tree s b n) k h = rw (leading_tree s b n k (omega arith), leading_all n (k - 1 - trees_count b) (omega arith)) refl

pub leading_fits : (w : Trees) (k : ℕ) → trees_count (leading w k) ≤ trees_count w
leading_fits none k = omega arith
leading_fits (tree s b n) k =
    elim (cases_lt 0 k) [
      | inl some ↦ rw (leading_tree s b n k some) (omega (arith, leading_fits n (k - 1 - trees_count b)))
      | inr nothing ↦ rw (leading_none (tree s b n) k (omega arith)) (omega arith)
    ]

pub from_start : (w : Trees) → trees_from w 0 ≡ w
from_start none = refl
from_start (tree s b n) = refl

module _ (w : Trees) (p : ℕ) (s : Structure) (b n : Trees) (e : trees_from w p ≡ tree s b n) where
  pub count_here : trees_count (trees_from w p) ≡ 1 + trees_count b + trees_count n
  count_here = rw e refl

  pub from_child : 0 < trees_count b → trees_from w (p + 1) ≡ b
  from_child h = rw (from_from w p 1 (omega (arith, count_here)), e, from_below s b n 1 (omega arith) (omega arith)) (from_start b)

  pub from_sibling : 0 < trees_count n → trees_from w (p + 1 + trees_count b) ≡ n
  from_sibling h =
      let m : p + 1 + trees_count b ≡ p + (1 + trees_count b) = omega arith in
      let z : (1 + trees_count b) - 1 - trees_count b ≡ 0 = omega arith in
      rw (m, from_from w p (1 + trees_count b) (omega (arith, count_here)), e, from_next s b n (1 + trees_count b) (omega arith), z) (from_start n)

  -- what stands below a structure fills the places up to the next one
  pub below_is : trees_between w (p + 1) (p + 1 + trees_count b) ≡ b
  unfolding trees_between structure_at below_at place_after
  below_is =
      let m : (p + 1 + trees_count b) - (p + 1) ≡ trees_count b = omega arith in
      elim (cases_lt 0 (trees_count b)) [
        | inl some ↦ rw (from_child some, m) (leading_all b (trees_count b) refl)
        | inr nothing ↦ rw (m, leading_none (trees_from w (p + 1)) (trees_count b) (omega arith)) (sym (empty b (omega arith)))
      ]
    where
      empty : (t : Trees) → trees_count t ≡ 0 → t ≡ none
      empty none h = refl
      empty (tree s b n) h = absurd (omega arith)

  module _ (q : ℕ) (run : IsRunOfTrees w p q) (before : p < q) where
    unrolled : trees_between w p q ≡ tree s b (leading n (q - p - 1 - trees_count b))
    unfolding trees_between structure_at below_at place_after
    unrolled = rw (e, leading_tree s b n (q - p) (omega arith)) refl

    sized : p + (1 + trees_count b + trees_count (leading n (q - p - 1 - trees_count b))) ≡ q
    unfolding trees_between structure_at below_at place_after
    sized = rw unrolled at run.fills

    tail_is : leading n (q - p - 1 - trees_count b) ≡ trees_between w (p + 1 + trees_count b) q
    unfolding trees_between structure_at below_at place_after
    tail_is =
        let m : q - (p + 1 + trees_count b) ≡ q - p - 1 - trees_count b = omega arith in
        elim (cases_lt 0 (q - p - 1 - trees_count b)) [
          | inl some ↦ rw (m, from_sibling (omega (arith, sized, leading_fits n (q - p - 1 - trees_count b)))) refl
          | inr nothing ↦ rw (m, leading_none n (q - p - 1 - trees_count b) (omega arith)) (sym (leading_none (trees_from w (p + 1 + trees_count b)) (q - p - 1 - trees_count b) (omega arith)))
        ]

    -- a run is its first structure, what stands below it, and the run from its next sibling on
    pub run_is : trees_between w p q ≡ tree s b (trees_between w (p + 1 + trees_count b) q)
    unfolding trees_between structure_at below_at place_after
    run_is = unrolled ∙ ap (tree s b) tail_is

    pub run_rest : IsRunOfTrees w (p + 1 + trees_count b) q
    unfolding trees_between structure_at below_at place_after
    run_rest = record { fills = rw (← tail_is) (omega (arith, sized)) }

    pub run_room : p + 1 + trees_count b ≤ q
    unfolding trees_between structure_at below_at place_after
    run_room = omega (arith, sized)

-- nothing stands past the end
pub from_past : (w : Trees) (p : ℕ) → trees_count w ≤ p → trees_from w p ≡ none
from_past none p h = refl
from_past (tree s b n) p h = rw (from_next s b n p (omega arith)) (from_past n (p - 1 - trees_count b) (omega arith))

module _ (w : Trees) (p : ℕ) (stands : p < trees_count w) where
  -- what stands below a structure is a run of its own
  pub below_run : trees_between w (p + 1) (place_after w p) ≡ below_at w p
  unfolding trees_between structure_at below_at place_after
  below_run = let h = from_stands w p stands in below_is w p (structure_at w p) (below_at w p) h.0 h.1

  pub run_below : IsRunOfTrees w (p + 1) (place_after w p)
  unfolding trees_between structure_at below_at place_after
  run_below = record { fills = rw below_run refl }

module _ (w : Trees) (p q : ℕ) (run : IsRunOfTrees w p q) (before : p < q) where
  pub run_within : p < trees_count w
  unfolding trees_between structure_at below_at place_after
  run_within = elim (cases_lt p (trees_count w)) [
    | inl h ↦ h
    | inr past ↦ (let e : trees_between w p q ≡ none = rw (from_past w p past) refl in absurd (omega (arith, rw e at run.fills)))
  ]

  pub run_unfolds : trees_between w p q ≡ tree (structure_at w p) (trees_between w (p + 1) (place_after w p)) (trees_between w (place_after w p) q)
  unfolding trees_between structure_at below_at place_after
  run_unfolds =
      let h = from_stands w p run_within in
      rw (below_run w p run_within) (run_is w p (structure_at w p) (below_at w p) h.0 h.1 q run before)

  pub run_next : IsRunOfTrees w (place_after w p) q
  unfolding trees_between structure_at below_at place_after
  run_next = let h = from_stands w p run_within in run_rest w p (structure_at w p) (below_at w p) h.0 h.1 q run before

  pub after_within : place_after w p ≤ q
  unfolding trees_between structure_at below_at place_after
  after_within = let h = from_stands w p run_within in run_room w p (structure_at w p) (below_at w p) h.0 h.1 q run before

-- all the trees are a run
pub whole_is : (w : Trees) → trees_between w 0 (trees_count w) ≡ w
unfolding trees_between structure_at below_at place_after
whole_is w = rw (from_start w, leading_all w (trees_count w - 0) (omega arith)) refl

pub run_whole : (w : Trees) → IsRunOfTrees w 0 (trees_count w)
unfolding trees_between structure_at below_at place_after
run_whole w = record { fills = rw (whole_is w) (omega arith) }

-- a run that is at its end has no tree
pub run_ends : (w : Trees) (p q : ℕ) → q ≤ p → trees_between w p q ≡ none
unfolding trees_between structure_at below_at place_after
run_ends w p q h = leading_none (trees_from w p) (q - p) (omega arith)

pub forth_is : (w : Trees) (p : ℕ) → p < place_after w p
unfolding place_after
forth_is w p = omega arith

pub run_step : (w : Trees) (p q after : ℕ) → IsRunOfTrees w p q → p < q → after ≡ place_after w p → IsStep w p q after
run_step w p q after run before e = record {
  within = run_within w p q run before;
  forth = rw e (forth_is w p);
  room = rw e (after_within w p q run before);
  below = rw e (run_below w p (run_within w p q run before));
  rest = rw e (run_next w p q run before);
  first = rw e (run_unfolds w p q run before);
}

-- the place after a structure is at most the number of structures
pub after_fits : (w : Trees) (p : ℕ) → p < trees_count w → p + 1 + trees_count (below_first (trees_from w p)) ≤ trees_count w
unfolding structure_at below_at
after_fits w p h =
    let stands = from_stands w p h in
    let e : trees_count (trees_from w p) ≡ 1 + trees_count (below_at w p) + trees_count stands.0 = rw stands.1 refl in
    omega (arith, e, from_fits w p (omega arith))
