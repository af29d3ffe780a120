-- The records and what stands directly under them, told by levels, as a document is gone through place by place.
use Rattle.std.proofs.Common.{◌≡◌, ℕ, ◌+◌, ◌-◌, ◌<◌, ◌≤◌, Bool, true, false, ◌&&◌, ◌||◌, cond, nat_eq, [], Option, ◌⊎◌, inl, inr, refl, sym, ap, ◌∙◌, arith}
use Rattle.std.specs.Prelude.{◌==◌, nat_le}
use Rattle.std.proofs.lemmas.Bool.{cases_lt}
use Rattle.std.proofs.lemmas.Bool.Decides.{nat_tests}
use Rattle.ged_line.specs.Bytes.{Bytes}
use Rattle.ged_tree.specs.Trees.{Structure, Trees, none, tree, trees_count}
use Rattle.ged_tree.specs.Places.{structure_at, level_at}
use Rattle.ged_tree.proofs.CallerLemmas.{level_first, level_below, level_next}
use Rattle.ged_link.specs.declared.pairs.Role.{Role}
use Rattle.ged_link.specs.inner.LinkWalks.{is_place, linked, has_link_to, has_pair}
use Rattle.ged_link.proofs.PlaceCases.{place_cases, at_first, at_below, at_next}

-- the place of the record in which a structure stands, and its tag; the first record stands at this place
abbrev pub record_place : ℕ → Trees → ℕ → ℕ
record_place base none k = base
record_place base (tree s below next) k = cond (nat_le k (trees_count below)) base (record_place (base + 1 + trees_count below) next (k - 1 - trees_count below))

abbrev pub record_tag : Trees → ℕ → Bytes
record_tag none k = []
record_tag (tree s below next) k = cond (nat_le k (trees_count below)) s.tag (record_tag next (k - 1 - trees_count below))

-- no level is below that of the first
pub level_least : (l : ℕ) (t : Trees) (k : ℕ) → k < trees_count t → l ≤ level_at l t k
level_least l none k h = absurd (omega arith)
level_least l (tree s b n) k h =
    elim (place_cases s b n k h) [
      | inl first ↦ omega (arith, level_first l s b n k first)
      | inr (inl w) ↦
          let at : level_at l (tree s b n) k ≡ level_at (l + 1) b (k - 1) = level_below l s b n k (omega (arith, w.2)) (omega (arith, w.1, w.2)) in
          omega (arith, at, level_least (l + 1) b (k - 1) (omega (arith, w.1, w.2)))
      | inr (inr w) ↦
          let at : level_at l (tree s b n) k ≡ level_at l n (k - 1 - trees_count b) = level_next l s b n k (omega (arith, w.2)) in
          omega (arith, at, level_least l n (k - 1 - trees_count b) (omega (arith, w.1, w.2)))
    ]

or_moved : (p x y : Bool) → (p || (x || y)) ≡ (x || (p || y))
or_moved true true y = refl
or_moved true false y = refl
or_moved false x y = refl

module _ (find : Bytes → Option ℕ) (role : Role) where
  -- whether one of so many structures, counted in file order, stands beside the first and tells a link
  abbrev pub linked_before : Bytes → ℕ → Trees → ℕ → Bool
  linked_before at q none k = false
  linked_before at q (tree s below next) k = cond (k == 0) false (is_place (linked find role at s) q || linked_before at q next (k - 1 - trees_count below))

  linked_zero : (at : Bytes) (q : ℕ) (t : Trees) (k : ℕ) → k ≡ 0 → linked_before at q t k ≡ false
  linked_zero at q none k e = refl
  linked_zero at q (tree s b n) k e = grind (arith, nat_tests)

  linked_some : (at : Bytes) (q : ℕ) (s : Structure) (b n : Trees) (k : ℕ) → 0 < k
      → linked_before at q (tree s b n) k ≡ (is_place (linked find role at s) q || linked_before at q n (k - 1 - trees_count b))
  linked_some at q s b n k h = grind (arith, nat_tests)

  -- all of them
  pub linked_all : (at : Bytes) (q : ℕ) (t : Trees) (k : ℕ) → trees_count t ≤ k → linked_before at q t k ≡ has_link_to find role at q t
  linked_all at q none k e = refl
  linked_all at q (tree s b n) k e =
      linked_some at q s b n k (omega (arith, e)) ∙ ap (λ (x : Bool). is_place (linked find role at s) q || x) (linked_all at q n (k - 1 - trees_count b) (omega (arith, e)))

  -- one more
  linked_step : (l : ℕ) (at : Bytes) (q : ℕ) (t : Trees) (k : ℕ) → k < trees_count t
      → linked_before at q t (k + 1) ≡ ((level_at l t k == l && is_place (linked find role at (structure_at t k)) q) || linked_before at q t k)
  linked_step l at q none k h = absurd (omega arith)
  linked_step l at q (tree s b n) k h =
      let here = is_place (linked find role at s) q in
      let one = linked_some at q s b n (k + 1) (omega arith) in
      elim (place_cases s b n k h) [
        | inl first ↦
            let level : (level_at l (tree s b n) k == l) ≡ true = grind (arith, nat_tests, level_first l s b n k first) in
            let is : structure_at (tree s b n) k ≡ s = ap (structure_at (tree s b n)) first ∙ at_first s b n in
            one
            ∙ ap (λ (x : Bool). here || x) (linked_zero at q n (k + 1 - 1 - trees_count b) (omega (arith, first)))
            ∙ sym (λ i. (level i && is_place (linked find role at (is i)) q) || linked_zero at q (tree s b n) k first i)
        | inr (inl w) ↦
            let deeper : level_at l (tree s b n) k ≡ level_at (l + 1) b (k - 1) = level_below l s b n k (omega (arith, w.2)) (omega (arith, w.1, w.2)) in
            let least = level_least (l + 1) b (k - 1) (omega (arith, w.1, w.2)) in
            let level : (level_at l (tree s b n) k == l) ≡ false = grind (arith, nat_tests, deeper, least) in
            one
            ∙ ap (λ (x : Bool). here || x) (linked_zero at q n (k + 1 - 1 - trees_count b) (omega (arith, w.1, w.2)))
            ∙ sym ((λ i. (level i && is_place (linked find role at (structure_at (tree s b n) k)) q) || linked_before at q (tree s b n) k)
            ∙ linked_some at q s b n k (omega (arith, w.2))
            ∙ ap (λ (x : Bool). here || x) (linked_zero at q n (k - 1 - trees_count b) (omega (arith, w.1, w.2))))
        | inr (inr w) ↦
            let left : k - 1 - trees_count b ≡ w.0 = omega (arith, w.2) in
            let level : level_at l (tree s b n) k ≡ level_at l n w.0 = level_next l s b n k (omega (arith, w.2)) ∙ ap (level_at l n) left in
            let is : structure_at (tree s b n) k ≡ structure_at n w.0 = ap (structure_at (tree s b n)) w.2 ∙ at_next s b n w.0 in
            let more : k + 1 - 1 - trees_count b ≡ w.0 + 1 = omega (arith, w.2) in
            let found = level_at l n w.0 == l && is_place (linked find role at (structure_at n w.0)) q in
            one
            ∙ ap (λ (m : ℕ). here || linked_before at q n m) more
            ∙ ap (λ (x : Bool). here || x) (linked_step l at q n w.0 w.1)
            ∙ or_moved here found (linked_before at q n w.0)
            ∙ sym ((λ i. (level i == l && is_place (linked find role at (is i)) q) || linked_before at q (tree s b n) k)
            ∙ ap (λ (x : Bool). found || x) (linked_some at q s b n k (omega (arith, w.2)) ∙ ap (λ (m : ℕ). here || linked_before at q n m) left))
      ]

  -- whether one of so many structures tells a link of the record in which it stands
  abbrev pub pair_before : ℕ → Trees → ℕ → ℕ × ℕ → Bool
  pair_before base none k pair = false
  pair_before base (tree s below next) k pair =
      cond (k == 0) false ((nat_eq pair.0 base && linked_before s.tag pair.1 below (k - 1)) || pair_before (base + 1 + trees_count below) next (k - 1 - trees_count below) pair)

  pub pair_zero : (base : ℕ) (d : Trees) (k : ℕ) (pair : ℕ × ℕ) → k ≡ 0 → pair_before base d k pair ≡ false
  pair_zero base none k pair e = refl
  pair_zero base (tree s b n) k pair e = grind (arith, nat_tests)

  pair_some : (base : ℕ) (s : Structure) (b n : Trees) (k : ℕ) (pair : ℕ × ℕ) → 0 < k
      → pair_before base (tree s b n) k pair ≡ ((nat_eq pair.0 base && linked_before s.tag pair.1 b (k - 1)) || pair_before (base + 1 + trees_count b) n (k - 1 - trees_count b) pair)
  pair_some base s b n k pair h = grind (arith, nat_tests)

  pub pair_all : (base : ℕ) (d : Trees) (k : ℕ) (pair : ℕ × ℕ) → trees_count d ≤ k → pair_before base d k pair ≡ has_pair find role base d pair
  pair_all base none k pair e = refl
  pair_all base (tree s b n) k pair e =
      pair_some base s b n k pair (omega (arith, e))
      ∙ (λ i. (nat_eq pair.0 base && linked_all s.tag pair.1 b (k - 1) (omega (arith, e)) i) || pair_all (base + 1 + trees_count b) n (k - 1 - trees_count b) pair (omega (arith, e)) i)

  -- one more
  pub pair_step : (base : ℕ) (d : Trees) (k : ℕ) (pair : ℕ × ℕ) → k < trees_count d
      → pair_before base d (k + 1) pair
      ≡ (((level_at 0 d k == 1 && nat_eq pair.0 (record_place base d k)) && is_place (linked find role (record_tag d k) (structure_at d k)) pair.1) || pair_before base d k pair)
  pair_step base none k pair h = absurd (omega arith)
  pair_step base (tree s b n) k pair h =
      let here = nat_eq pair.0 base in
      let after = base + 1 + trees_count b in
      let one = pair_some base s b n (k + 1) pair (omega arith) in
      let step = level_at 0 (tree s b n) k == 1 in
      elim (place_cases s b n k h) [
        | inl first ↦
            let level : step ≡ false = grind (arith, nat_tests, level_first 0 s b n k first) in
            one
            ∙ (λ i. (here && linked_zero s.tag pair.1 b (k + 1 - 1) (omega (arith, first)) i) || pair_zero after n (k + 1 - 1 - trees_count b) pair (omega (arith, first)) i)
            ∙ nothing here
            ∙ sym (λ i. ((level i && nat_eq pair.0 (record_place base (tree s b n) k)) && is_place (linked find role (record_tag (tree s b n) k) (structure_at (tree s b n) k)) pair.1)
            || pair_zero base (tree s b n) k pair first i)
        | inr (inl w) ↦
            let at : k - 1 ≡ w.0 = omega (arith, w.2) in
            let more : k + 1 - 1 ≡ w.0 + 1 = omega (arith, w.2) in
            let level : level_at 0 (tree s b n) k ≡ level_at 1 b w.0 = level_below 0 s b n k (omega (arith, w.2)) (omega (arith, w.1, w.2)) ∙ ap (level_at 1 b) at in
            let is : structure_at (tree s b n) k ≡ structure_at b w.0 = ap (structure_at (tree s b n)) w.2 ∙ at_below s b n w.0 w.1 in
            let inside : nat_le k (trees_count b) ≡ true = grind (arith, nat_tests, w.1, w.2) in
            let place : record_place base (tree s b n) k ≡ base = ap (λ (t : Bool). cond t base (record_place after n (k - 1 - trees_count b))) inside in
            let tag : record_tag (tree s b n) k ≡ s.tag = ap (λ (t : Bool). cond t s.tag (record_tag n (k - 1 - trees_count b))) inside in
            let direct = level_at 1 b w.0 == 1 in
            let link = is_place (linked find role s.tag (structure_at b w.0)) pair.1 in
            one
            ∙ (λ i. (here && linked_before s.tag pair.1 b (more i)) || pair_zero after n (k + 1 - 1 - trees_count b) pair (omega (arith, w.1, w.2)) i)
            ∙ ap (λ (x : Bool). (here && x) || false) (linked_step 1 s.tag pair.1 b w.0 w.1)
            ∙ joined here direct link (linked_before s.tag pair.1 b w.0)
            ∙ sym ((λ i. ((level i == 1 && nat_eq pair.0 (place i)) && is_place (linked find role (tag i) (is i)) pair.1) || pair_before base (tree s b n) k pair)
            ∙ ap (λ (x : Bool). ((direct && here) && link) || x)
            (pair_some base s b n k pair (omega (arith, w.2))
            ∙ (λ i. (here && linked_before s.tag pair.1 b (at i)) || pair_zero after n (k - 1 - trees_count b) pair (omega (arith, w.1, w.2)) i)))
        | inr (inr w) ↦
            let left : k - 1 - trees_count b ≡ w.0 = omega (arith, w.2) in
            let more : k + 1 - 1 - trees_count b ≡ w.0 + 1 = omega (arith, w.2) in
            let level : level_at 0 (tree s b n) k ≡ level_at 0 n w.0 = level_next 0 s b n k (omega (arith, w.2)) ∙ ap (level_at 0 n) left in
            let is : structure_at (tree s b n) k ≡ structure_at n w.0 = ap (structure_at (tree s b n)) w.2 ∙ at_next s b n w.0 in
            let past : nat_le k (trees_count b) ≡ false = grind (arith, nat_tests, w.2) in
            let place : record_place base (tree s b n) k ≡ record_place after n w.0 = ap (λ (t : Bool). cond t base (record_place after n (k - 1 - trees_count b))) past ∙ ap (record_place after n) left in
            let tag : record_tag (tree s b n) k ≡ record_tag n w.0 = ap (λ (t : Bool). cond t s.tag (record_tag n (k - 1 - trees_count b))) past ∙ ap (record_tag n) left in
            let found = (level_at 0 n w.0 == 1 && nat_eq pair.0 (record_place after n w.0)) && is_place (linked find role (record_tag n w.0) (structure_at n w.0)) pair.1 in
            let whole = here && has_link_to find role s.tag pair.1 b in
            one
            ∙ (λ i. (here && linked_all s.tag pair.1 b (k + 1 - 1) (omega (arith, w.2)) i) || pair_before after n (more i) pair)
            ∙ ap (λ (x : Bool). whole || x) (pair_step after n w.0 pair w.1)
            ∙ or_moved whole found (pair_before after n w.0 pair)
            ∙ sym ((λ i. ((level i == 1 && nat_eq pair.0 (place i)) && is_place (linked find role (tag i) (is i)) pair.1) || pair_before base (tree s b n) k pair)
            ∙ ap (λ (x : Bool). found || x)
            (pair_some base s b n k pair (omega (arith, w.2))
            ∙ (λ i. (here && linked_all s.tag pair.1 b (k - 1) (omega (arith, w.2)) i) || pair_before after n (left i) pair)))
      ]
    where
      nothing : (p : Bool) → ((p && false) || false) ≡ false
      nothing true = refl
      nothing false = refl

      joined : (here direct link found : Bool) → ((here && ((direct && link) || found)) || false) ≡ (((direct && here) && link) || ((here && found) || false))
      joined false true link found = refl
      joined false false link found = refl
      joined true true true found = refl
      joined true true false found = refl
      joined true false link found = refl

-- at level 0 a record begins
pub record_first : (base : ℕ) (d : Trees) (k : ℕ) → k < trees_count d → level_at 0 d k ≡ 0 → (record_place base d k ≡ base + k) × (record_tag d k ≡ (structure_at d k).tag)
record_first base none k h e = absurd (omega arith)
record_first base (tree s b n) k h e =
    let after = base + 1 + trees_count b in
    elim (place_cases s b n k h) [
      | inl first ↦
          let inside : nat_le k (trees_count b) ≡ true = grind (arith, nat_tests, first) in (
            ap (λ (t : Bool). cond t base (record_place after n (k - 1 - trees_count b))) inside ∙ omega (arith, first),
            ap (λ (t : Bool). cond t s.tag (record_tag n (k - 1 - trees_count b))) inside ∙ ap (λ (x : Structure). x.tag) (sym (ap (structure_at (tree s b n)) first ∙ at_first s b n)),
          )
      | inr (inl w) ↦
          let deeper : level_at 0 (tree s b n) k ≡ level_at 1 b (k - 1) = level_below 0 s b n k (omega (arith, w.2)) (omega (arith, w.1, w.2)) in
          absurd (omega (arith, e, deeper, level_least 1 b (k - 1) (omega (arith, w.1, w.2))))
      | inr (inr w) ↦
          let left : k - 1 - trees_count b ≡ w.0 = omega (arith, w.2) in
          let past : nat_le k (trees_count b) ≡ false = grind (arith, nat_tests, w.2) in
          let level : level_at 0 (tree s b n) k ≡ level_at 0 n w.0 = level_next 0 s b n k (omega (arith, w.2)) ∙ ap (level_at 0 n) left in
          let rest = record_first after n w.0 w.1 (sym level ∙ e) in
          let place : record_place base (tree s b n) k ≡ record_place after n w.0 = ap (λ (t : Bool). cond t base (record_place after n (k - 1 - trees_count b))) past ∙ ap (record_place after n) left in
          let tag : record_tag (tree s b n) k ≡ record_tag n w.0 = ap (λ (t : Bool). cond t s.tag (record_tag n (k - 1 - trees_count b))) past ∙ ap (record_tag n) left in
          (omega (arith, place, rest.0, w.2), tag ∙ rest.1 ∙ ap (λ (x : Structure). x.tag) (sym (ap (structure_at (tree s b n)) w.2 ∙ at_next s b n w.0)))
    ]

-- so it does at the first place
pub level_zero : (t : Trees) (i : ℕ) → i < trees_count t → i ≡ 0 → level_at 0 t i ≡ 0
level_zero none i h e = absurd (omega arith)
level_zero (tree s b n) i h e = level_first 0 s b n i e

-- at any other it goes on
record_on : (base : ℕ) (d : Trees) (k : ℕ) → k + 1 < trees_count d → (level_at 0 d (k + 1) ≡ 0 → ⊥) → (record_place base d (k + 1) ≡ record_place base d k) × (record_tag d (k + 1) ≡ record_tag d k)
record_on base none k h deep = absurd (omega arith)
record_on base (tree s b n) k h deep =
    let after = base + 1 + trees_count b in
    elim (place_cases s b n (k + 1) h) [
      | inl first ↦ absurd (omega (arith, first))
      | inr (inl w) ↦
          let inside : nat_le k (trees_count b) ≡ true = grind (arith, nat_tests, w.1, w.2) in
          let inside_next : nat_le (k + 1) (trees_count b) ≡ true = grind (arith, nat_tests, w.1, w.2) in (
            ap (λ (t : Bool). cond t base (record_place after n (k + 1 - 1 - trees_count b))) inside_next ∙ sym (ap (λ (t : Bool). cond t base (record_place after n (k - 1 - trees_count b))) inside),
            ap (λ (t : Bool). cond t s.tag (record_tag n (k + 1 - 1 - trees_count b))) inside_next ∙ sym (ap (λ (t : Bool). cond t s.tag (record_tag n (k - 1 - trees_count b))) inside),
          )
      | inr (inr w) ↦ next w.0 w.1 w.2 (record_on after n (w.0 - 1)) (cases_lt 0 w.0)
    ]
  where
    next : (i : ℕ) → i < trees_count n → k + 1 ≡ 1 + trees_count b + i
        → (i - 1 + 1 < trees_count n → (level_at 0 n (i - 1 + 1) ≡ 0 → ⊥)
        → (record_place (base + 1 + trees_count b) n (i - 1 + 1) ≡ record_place (base + 1 + trees_count b) n (i - 1)) × (record_tag n (i - 1 + 1) ≡ record_tag n (i - 1)))
        → (0 < i) ⊎ (i ≤ 0)
        → (record_place base (tree s b n) (k + 1) ≡ record_place base (tree s b n) k) × (record_tag (tree s b n) (k + 1) ≡ record_tag (tree s b n) k)
    next i u v on (inr zero_is) =
        let level : level_at 0 (tree s b n) (k + 1) ≡ level_at 0 n (k + 1 - 1 - trees_count b) = level_next 0 s b n (k + 1) (omega (arith, v)) in
        absurd (deep (level ∙ level_zero n (k + 1 - 1 - trees_count b) (omega (arith, u, v, zero_is)) (omega (arith, v, zero_is))))
    next i u v on (inl some) =
        let after = base + 1 + trees_count b in
        let left : k - 1 - trees_count b ≡ i - 1 = omega (arith, v) in
        let left_next : k + 1 - 1 - trees_count b ≡ i - 1 + 1 = omega (arith, v, some) in
        let past : nat_le k (trees_count b) ≡ false = grind (arith, nat_tests, v, some) in
        let past_next : nat_le (k + 1) (trees_count b) ≡ false = grind (arith, nat_tests, v, some) in
        let level : level_at 0 (tree s b n) (k + 1) ≡ level_at 0 n (i - 1 + 1) = level_next 0 s b n (k + 1) (omega (arith, v)) ∙ ap (level_at 0 n) left_next in
        let rest = on (omega (arith, u, some)) (λ e. deep (level ∙ e)) in (
          ap (λ (t : Bool). cond t base (record_place after n (k + 1 - 1 - trees_count b))) past_next ∙ ap (record_place after n) left_next ∙ rest.0
              ∙ sym (ap (λ (t : Bool). cond t base (record_place after n (k - 1 - trees_count b))) past ∙ ap (record_place after n) left),
          ap (λ (t : Bool). cond t s.tag (record_tag n (k + 1 - 1 - trees_count b))) past_next ∙ ap (record_tag n) left_next ∙ rest.1
              ∙ sym (ap (λ (t : Bool). cond t s.tag (record_tag n (k - 1 - trees_count b))) past ∙ ap (record_tag n) left),
        )

-- the record in which the structure at a place stands, where that of the place before it is known
module _ (d : Trees) (place from : ℕ) (inside : place < trees_count d) where
  pub record IsIn (now : ℕ) : Type 0 where
    pub place_is : now ≡ record_place 0 d place
    pub tag_is : (structure_at d now).tag ≡ record_tag d place
    pub before : now < place + 1

  pub begins : (now : ℕ) → now ≡ place → level_at 0 d place ≡ 0 → IsIn now
  begins now e zero =
      let first = record_first 0 d place inside zero in
      record {
        place_is = omega (arith, e, first.0);
        tag_is = ap (λ (k : ℕ). (structure_at d k).tag) e ∙ sym first.1;
        before = omega (arith, e);
      }

  pub goes_on : (now : ℕ) → now ≡ from → (level_at 0 d place ≡ 0 → ⊥) → (0 < place → from < place) → (0 < place → from ≡ record_place 0 d (place - 1))
      → (0 < place → (structure_at d from).tag ≡ record_tag d (place - 1)) → IsIn now
  goes_on now e deep before from_is tag_is = elim (cases_lt 0 place) [
    | inr first ↦ absurd (deep (level_zero d place inside (omega (arith, first))))
    | inl later ↦
        let next : place - 1 + 1 ≡ place = omega (arith, later) in
        let on = record_on 0 d (place - 1) (omega (arith, later, inside)) (λ z. deep (ap (level_at 0 d) (sym next) ∙ z)) in
        record {
          place_is = e ∙ from_is later ∙ sym on.0 ∙ ap (record_place 0 d) next;
          tag_is = ap (λ (k : ℕ). (structure_at d k).tag) e ∙ tag_is later ∙ sym on.1 ∙ ap (record_tag d) next;
          before = omega (arith, e, before later);
        }
  ]
