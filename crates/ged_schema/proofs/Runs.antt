-- Structures of a run, counted and judged from one place to the next.
use Rattle.std.proofs.Common.{◌≡◌, ◌≢◌, ℕ, zero, suc, ◌+◌, ◌-◌, ◌<◌, ◌≤◌, sym, ◌∙◌, ap, refl, arith, Bool, true, false, List, [], ◌∷◌, inl, inr, Option, Some, None, get_or, slice_get, length, set, replicate}
use Rattle.std.specs.Str.{bytes_eq}
use Rattle.std.proofs.lemmas.List.{get_or-set_same, get_or-set_other}
use Rattle.std.proofs.lemmas.Slice.Eq.{bytes_eq-Decides}
use Rattle.ged_line.specs.Bytes.{Bytes}
use Rattle.ged_schema.proofs.Decided.{bool_cases}
use Rattle.ged_tree.specs.Trees.{Structure, Trees, none, tree, trees_count}
use Rattle.ged_schema.specs.declared.context.Context.{Context}
use Rattle.ged_schema.specs.declared.context.Context.TheVariants.{Unchecked}
use Rattle.ged_schema.specs.declared.fault.FaultPlace.{FaultPlace}
use Rattle.ged_schema.specs.Rows.{Row}
use Rattle.ged_schema.specs.Tables.{rows, row, context_below}
use Rattle.ged_schema.specs.Checked.{count_of, MeetsRow, AreChecked}
use Rattle.ged_tree.specs.declared.payload.Payload.{Payload}
use Rattle.ged_schema.specs.declared.fault.SchemaFault.{SchemaFault}
use Rattle.ged_schema.specs.declared.fault.SchemaFault.TheVariants.{WrongTarget, TooMany, Missing}
use Rattle.ged_schema.specs.Faults.{fault_at, payload_fault, StandsAfter, IsOneTooMany, OwnFault, FirstFault, FirstCountFault}
use Rattle.std.specs.Prelude.{IsTrue, ◌↔◌, MatchOption}

-- what is counted of the structures that are left decides what is counted of all of them
module _ (tag : Bytes) (t : Trees) (s : Structure) (b n : Trees) (is : t ≡ tree s b n) where
  pub count_same : s.tag ≡ tag → count_of tag t ≡ 1 + count_of tag n
  count_same same = rw (is, (bytes_eq-Decides s.tag tag).1 same) refl

  pub count_other : bytes_eq s.tag tag ≡ false → count_of tag t ≡ count_of tag n
  count_other other = rw (is, other) (omega arith)

  module _ (place after : ℕ) (next : place + 1 + trees_count b ≡ after) where
    pub stands_here : (before : ℕ) → before ≡ 0 → s.tag ≡ tag → StandsAfter tag before place t place
    stands_here before first same = rw (is, first) (inl (same, refl))

    pub stands_same : (before at : ℕ) → 0 < before → s.tag ≡ tag → StandsAfter tag (before - 1) after n at → StandsAfter tag before place t at
    stands_same zero at more same later = absurd (omega arith)
    stands_same (suc before) at more same later = let e : suc before - 1 ≡ before = omega arith in rw is (inl (same, rw next (rw e at later)))

    pub stands_other : (before at : ℕ) → s.tag ≢ tag → StandsAfter tag before after n at → StandsAfter tag before place t at
    stands_other zero at other later = rw is (inr (other, rw next later))
    stands_other (suc before) at other later = rw is (inr (other, rw next later))

-- where nothing is asked nothing is wrong
pub unchecked : (d : Trees) (t : Trees) → AreChecked d Unchecked t
unfolding row rows
unchecked d none = tt
unchecked d (tree s b n) = (tt, unchecked d b, unchecked d n)

-- what is found of the structures that are left is found of all of them
module _ (d : Trees) (c : Context) (t : Trees) (s : Structure) (b n : Trees) (is : t ≡ tree s b n) where
  pub checked_none : row c s.tag ≡ None → AreChecked d c n → AreChecked d c t
  checked_none nothing rest = rw (is, nothing) (tt, unchecked d b, rest)

  pub checked_some : (r : Row) → row c s.tag ≡ Some r → MeetsRow d (Some r) s.payload b → AreChecked d r.below b → AreChecked d c n → AreChecked d c t
  checked_some r some meets under rest = rw (is, some) (meets, under, rest)

  module _ (place after : ℕ) (next : place + 1 + trees_count b ≡ after) where
    pub fault_none : (f : FaultPlace) → row c s.tag ≡ None → FirstFault d c after n f → FirstFault d c place t f
    fault_none f nothing later = rw (is, nothing) (inr (tt, inr (unchecked d b, rw next later)))

    pub fault_here : (r : Row) (f : FaultPlace) → row c s.tag ≡ Some r → OwnFault d place (Some r) s.payload b f → FirstFault d c place t f
    fault_here r f some own = rw (is, some) (inl own)

    pub fault_below : (r : Row) (f : FaultPlace) → row c s.tag ≡ Some r → MeetsRow d (Some r) s.payload b → FirstFault d r.below (place + 1) b f → FirstFault d c place t f
    fault_below r f some meets under = rw (is, some) (inr (meets, inl under))

    pub fault_after : (r : Row) (f : FaultPlace) → row c s.tag ≡ Some r → MeetsRow d (Some r) s.payload b → AreChecked d r.below b → FirstFault d c after n f → FirstFault d c place t f
    fault_after r f some meets under later = rw (is, some) (inr (meets, inr (under, rw next later)))

-- each row's count so far, and its structures that are left, make its count of all
abbrev pub Counted : List Row → List ℕ → Trees → Trees → Type 0
Counted rs counts left all = (number : ℕ) (r : Row) → slice_get rs number ≡ Some r → get_or counts number 0 + count_of r.tag left ≡ count_of r.tag all

-- the number of a tag's row is the only one
abbrev pub IsOnlyNumber : List Row → Bytes → Option ℕ → Type 0
IsOnlyNumber rs tag o = (number : ℕ) (r : Row) → slice_get rs number ≡ Some r → r.tag ≡ tag → o ≡ Some number

module _ (rs : List Row) (counts : List ℕ) (left all : Trees) (s : Structure) (b n : Trees) (is : left ≡ tree s b n) (so_far : Counted rs counts left all) where
  pub counted_none : IsOnlyNumber rs s.tag None → Counted rs counts n all
  counted_none only i r stands = elim (bool_cases (bytes_eq s.tag r.tag)) [
    | inl same ↦ (let never : None ≡ Some i = only i r stands (sym ((bytes_eq-Decides s.tag r.tag).0 same)) in cc)
    | inr other ↦ ap (λ m. get_or counts i 0 + m) (sym (count_other r.tag left s b n is other)) ∙ so_far i r stands
  ]

  pub counted_some : (k : ℕ) → IsOnlyNumber rs s.tag (Some k) → (q : Row) → slice_get rs k ≡ Some q → q.tag ≡ s.tag → k < length counts → Counted rs (set counts k (get_or counts k 0 + 1)) n all
  counted_some k only q at tags inside i r stands = elim (bool_cases (bytes_eq s.tag r.tag)) [
    | inl same ↦ (
        let tag : s.tag ≡ r.tag = (bytes_eq-Decides s.tag r.tag).0 same in
        let here : k ≡ i = some_is k i (only i r stands (sym tag)) in
        let new : get_or (set counts k (get_or counts k 0 + 1)) i 0 ≡ get_or counts k 0 + 1 = rw (sym here) (get_or-set_same counts k (get_or counts k 0 + 1) 0 inside) in
        let old : get_or counts k 0 + count_of r.tag left ≡ count_of r.tag all = rw (sym here) at (so_far i r stands) in
        let one : count_of r.tag left ≡ 1 + count_of r.tag n = count_same r.tag left s b n is tag in
        omega (arith, new, old, one))
    | inr other ↦ (
        let apart : i ≢ k = λ e. (let both : r ≡ q = row_is r q (sym stands ∙ ap (slice_get rs) e ∙ at) in
        let equal : bytes_eq s.tag r.tag ≡ true = (bytes_eq-Decides s.tag r.tag).1 (sym tags ∙ ap (λ (x : Row). x.tag) (sym both)) in cc) in
        let new : get_or (set counts k (get_or counts k 0 + 1)) i 0 ≡ get_or counts i 0 = get_or-set_other counts k i (get_or counts k 0 + 1) 0 apart in
        let rest : count_of r.tag left ≡ count_of r.tag n = count_other r.tag left s b n is other in
        omega (arith, new, rest, so_far i r stands))
  ]
    where
      some_is : (x y : ℕ) → Some x ≡ Some y → x ≡ y
      some_is x y e = cc

      row_is : (x y : Row) → Some x ≡ Some y → x ≡ y
      row_is x y e = cc

-- no more trees have a tag than there are structures
pub count_fits : (tag : Bytes) (t : Trees) → count_of tag t ≤ trees_count t
count_fits tag none = omega arith
count_fits tag (tree s b n) = elim (bool_cases (bytes_eq s.tag tag)) [
  | inl same ↦ rw same (omega (arith, count_fits tag n))
  | inr other ↦ rw other (omega (arith, count_fits tag n))
]

pub counted_zeros : (rs : List Row) (k : ℕ) (all : Trees) → Counted rs (replicate k 0) all all
counted_zeros rs k all i r stands = omega (arith, zeros_at k i)
  where
    zeros_at : (k i : ℕ) → ◌≡◌ {A = ℕ} (get_or {A = ℕ} (replicate k 0) i 0) 0
    zeros_at zero i = refl
    zeros_at (suc k) zero = refl
    zeros_at (suc k) (suc i) = zeros_at k i

-- a count that is raised is at most the number of structures
pub count_room : (rs : List Row) (counts : List ℕ) (left all : Trees) (s : Structure) (b n : Trees) → left ≡ tree s b n → Counted rs counts left all → (k : ℕ) (q : Row) → slice_get rs k ≡ Some q → q.tag ≡ s.tag → get_or counts k 0 + 1 ≤ trees_count all
count_room rs counts left all s b n is so_far k q at tags =
    let one : count_of q.tag left ≡ 1 + count_of q.tag n = count_same q.tag left s b n is (sym tags) in
    omega (arith, one, so_far k q at, count_fits q.tag all)

-- no structure is left in the end
pub counted_all : (rs : List Row) (counts : List ℕ) (left all : Trees) → left ≡ none → Counted rs counts left all → (i : ℕ) (r : Row) → slice_get rs i ≡ Some r → get_or counts i 0 ≡ count_of r.tag all
counted_all rs counts left all is so_far i r stands =
    let last : count_of r.tag left ≡ 0 = rw is refl in
    omega (arith, last, so_far i r stands)

-- the place of a fault is one of the places
stands_place : (tag : Bytes) (before place : ℕ) (t : Trees) (at : ℕ) → StandsAfter tag before place t at → at < place + trees_count t
stands_place tag before place none at h = absurd h
stands_place tag zero place (tree s b n) at (inl h) = omega (arith, h.1)
stands_place tag zero place (tree s b n) at (inr h) = omega (arith, stands_place tag zero (place + 1 + trees_count b) n at h.1)
stands_place tag (suc before) place (tree s b n) at (inl h) = omega (arith, stands_place tag before (place + 1 + trees_count b) n at h.1)
stands_place tag (suc before) place (tree s b n) at (inr h) = omega (arith, stands_place tag (suc before) (place + 1 + trees_count b) n at h.1)

too_many_place : (tag : Bytes) (most : Option ℕ) (place : ℕ) (t : Trees) (at : ℕ) → IsOneTooMany tag most place t at → at < place + trees_count t
too_many_place tag None place t at h = absurd h
too_many_place tag (Some most) place t at h = stands_place tag most place t at h

place_is : (f : FaultPlace) (place : ℕ) (fault : SchemaFault) → f ≡ fault_at place fault → f.place ≡ place
place_is f place fault e = ap (λ (x : FaultPlace). x.place) e

counts_place : (place : ℕ) (b : Trees) (rs : List Row) (f : FaultPlace) → FirstCountFault place b rs f → f.place < place + 1 + trees_count b
counts_place place b [] f h = absurd h
counts_place place b (r ∷ rs) f (inl (inl h)) = omega (arith, place_is f place Missing h.1)
counts_place place b (r ∷ rs) f (inl (inr (_, at, many, e))) = omega (arith, place_is f at TooMany e, too_many_place r.tag r.most (place + 1) b at many)
counts_place place b (r ∷ rs) f (inr h) = counts_place place b rs f h.1

own_place : (d : Trees) (place : ℕ) (o : Option Row) (payload : Payload) (b : Trees) (f : FaultPlace) → OwnFault d place o payload b f → f.place < place + 1 + trees_count b
own_place d place None payload b f h = absurd h
own_place d place (Some r) payload b f (inl h) = omega (arith, place_is f place (payload_fault r.kind) h.1)
own_place d place (Some r) payload b f (inr (_, inl h)) = omega (arith, place_is f place WrongTarget h.1)
own_place d place (Some r) payload b f (inr (_, inr h)) = counts_place place b (rows r.below) f h.1

pub fault_place : (d : Trees) (c : Context) (place : ℕ) (t : Trees) (f : FaultPlace) → FirstFault d c place t f → f.place < place + trees_count t
fault_place d c place none f h = absurd h
fault_place d c place (tree s b n) f (inl h) = omega (arith, own_place d place (row c s.tag) s.payload b f h)
fault_place d c place (tree s b n) f (inr (_, inl h)) = omega (arith, fault_place d (context_below c s.tag) (place + 1) b f h)
fault_place d c place (tree s b n) f (inr (_, inr h)) = omega (arith, fault_place d c (place + 1 + trees_count b) n f h.1)

-- what a test tells
pub tested : {P : Type 0} (b : Bool) → IsTrue b ↔ P → b ≡ true → P
tested b h e = h.0 (rw e refl)

pub refuted : {P : Type 0} (b : Bool) → IsTrue b ↔ P → b ≡ false → P → ⊥
refuted b h e p = let t : IsTrue false = rw e at (h.1 p) in cc

pub match_map : {X : Type 0} {P P' : Type 0} {Q Q' : X → Type 0} (o : Option X) → (P → P') → ((x : X) → Q x → Q' x) → MatchOption o P Q → MatchOption o P' Q'
match_map None nothing found h = nothing h
match_map (Some x) nothing found h = found x h
