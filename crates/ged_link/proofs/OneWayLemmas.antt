-- The places that the walk over links finds are those of the links in one direction only.
use Rattle.std.proofs.Common.{◌≡◌, ℕ, ◌+◌, ◌<◌, ◌≤◌, Bool, true, false, cond, Option, Some, List, [], ◌∷◌, ◌++◌, ◌⊎◌, inl, inr, refl, sym, subst, ◌∙◌, arith, ◌↔◌, None, zero, suc, length, slice_get, slice_index_or}
use Rattle.ged_line.specs.Bytes.{Bytes}
use Rattle.ged_tree.specs.Trees.{Structure, Trees, none, tree, trees_count}
use Rattle.ged_tree.specs.Documents.{is_document, are_at}
use Rattle.ged_tree.specs.Places.{structure_at}
use Rattle.ged_link.specs.Links.{IsAmong, SomeTree}
use Rattle.ged_link.specs.LinkFaults.{HasXref, IsLowest}
use Rattle.ged_link.specs.Notices.{IsOneWay, OneWay, SomeTreeFrom, OneWayAt, AreRising, AreOneWay}
use Rattle.ged_link.specs.inner.LinkWalks.{is_one_way, one_way_below, one_way_places}
use Rattle.ged_link.proofs.LinkLemmas.{document_level}
use Rattle.ged_link.proofs.PlaceCases.{at_first, at_next}
use Rattle.ged_link.proofs.AnswerLemmas.{is_one_way-IsOneWay, IsOneWay-is_one_way}

-- ---- lists of places

append_among : (x : ℕ) (xs ys : List ℕ) → IsAmong x (xs ++ ys) → IsAmong x xs ⊎ IsAmong x ys
append_among x [] ys h = inr h
append_among x (y ∷ xs) ys (inl e) = inl (inl e)
append_among x (y ∷ xs) ys (inr h) = elim (append_among x xs ys h) [ inl k ↦ inl (inr k) | inr k ↦ inr k ]

among_left : (x : ℕ) (xs ys : List ℕ) → IsAmong x xs → IsAmong x (xs ++ ys)
among_left x [] ys h = absurd h
among_left x (y ∷ xs) ys (inl e) = inl e
among_left x (y ∷ xs) ys (inr h) = inr (among_left x xs ys h)

among_right : (x : ℕ) (xs ys : List ℕ) → IsAmong x ys → IsAmong x (xs ++ ys)
among_right x [] ys h = h
among_right x (y ∷ xs) ys h = inr (among_right x xs ys h)

rising_append : (xs ys : List ℕ) → AreRising xs → AreRising ys → ((x y : ℕ) → IsAmong x xs → IsAmong y ys → x < y) → AreRising (xs ++ ys)
rising_append [] ys h k below = k
rising_append (x ∷ xs) ys h k below = (
  λ other among. elim (append_among other xs ys among) [ inl left ↦ h.0 other left | inr right ↦ below x other (inl refl) right ],
  rising_append xs ys h.1 k (λ y z here there. below y z (inr here) there),
)

tested_among : (b : Bool) (q x : ℕ) → IsAmong x (cond b (q ∷ []) []) → (b ≡ true) × (q ≡ x)
tested_among true q x (inl e) = (refl, sym e)
tested_among true q x (inr h) = absurd h
tested_among false q x h = absurd h

among_tested : (b : Bool) (q x : ℕ) → b ≡ true → q ≡ x → IsAmong x (cond b (q ∷ []) [])
among_tested true q x e h = inl (sym h)
among_tested false q x e h = cc

tested_rising : (b : Bool) (q : ℕ) → AreRising (cond b (q ∷ []) [])
tested_rising true q = (λ other h. absurd h, tt)
tested_rising false q = tt

-- ---- trees that are a part of a document, from a place on

pub record IsPart (d : Trees) (k : ℕ) (t : Trees) : Type 0 where
  pub same : (i : ℕ) → i < trees_count t → structure_at d (k + i) ≡ structure_at t i
  pub fits : k + trees_count t ≤ trees_count d

pub whole_part : (d : Trees) → IsPart d 0 d
whole_part d = record { same = λ i h. (let z : 0 + i ≡ i = omega arith in rw z refl); fits = omega arith }

pub part_next : (d : Trees) (k : ℕ) (s : Structure) (b n : Trees) → IsPart d k (tree s b n) → IsPart d (k + 1 + trees_count b) n
part_next d k s b n part = record {
  same = λ i h. (
      let z : k + 1 + trees_count b + i ≡ k + (1 + trees_count b + i) = omega arith in
      rw z (part.same (1 + trees_count b + i) (omega (arith, h)) ∙ at_next s b n i));
  fits = omega (arith, part.fits);
}

pub part_first : (d : Trees) (k : ℕ) (s : Structure) (b n : Trees) → IsPart d k (tree s b n) → structure_at d k ≡ s
part_first d k s b n part = let z : k + 0 ≡ k = omega arith in (rw z at (part.same 0 (omega arith))) ∙ at_first s b n

module _ (find : Bytes → Option ℕ) (d : Trees) where
  below_bounds : (at : Bytes) (p q x : ℕ) (t : Trees) → IsAmong x (one_way_below find d at p q t) → (q ≤ x) × (x < q + trees_count t)
  below_bounds at p q x none h = absurd h
  below_bounds at p q x (tree s b n) h = elim (append_among x (cond (is_one_way find d at p s) (q ∷ []) []) (one_way_below find d at p (q + 1 + trees_count b) n) h) [
    | inl here ↦ (let e = (tested_among (is_one_way find d at p s) q x here).1 in (omega (arith, e), omega (arith, e)))
    | inr next ↦ (let k = below_bounds at p (q + 1 + trees_count b) x n next in (omega (arith, k.0), omega (arith, k.1)))
  ]

  below_rising : (at : Bytes) (p q : ℕ) (t : Trees) → AreRising (one_way_below find d at p q t)
  below_rising at p q none = tt
  below_rising at p q (tree s b n) =
      rising_append (cond (is_one_way find d at p s) (q ∷ []) []) (one_way_below find d at p (q + 1 + trees_count b) n) (tested_rising (is_one_way find d at p s) q) (below_rising at p (q + 1 + trees_count b) n)
      (λ x y here there. let e = (tested_among (is_one_way find d at p s) q x here).1 in let k = below_bounds at p (q + 1 + trees_count b) y n there in omega (arith, e, k.0))

  places_bounds : (k x : ℕ) (t : Trees) → IsAmong x (one_way_places find d k t) → (k ≤ x) × (x < k + trees_count t)
  places_bounds k x none h = absurd h
  places_bounds k x (tree s b n) h = elim (append_among x (one_way_below find d s.tag k (k + 1) b) (one_way_places find d (k + 1 + trees_count b) n) h) [
    | inl here ↦ (let i = below_bounds s.tag k (k + 1) x b here in (omega (arith, i.0), omega (arith, i.1)))
    | inr next ↦ (let i = places_bounds (k + 1 + trees_count b) x n next in (omega (arith, i.0), omega (arith, i.1)))
  ]

  places_rising : (k : ℕ) (t : Trees) → AreRising (one_way_places find d k t)
  places_rising k none = tt
  places_rising k (tree s b n) =
      rising_append (one_way_below find d s.tag k (k + 1) b) (one_way_places find d (k + 1 + trees_count b) n) (below_rising s.tag k (k + 1) b) (places_rising (k + 1 + trees_count b) n)
      (λ x y here there. let i = below_bounds s.tag k (k + 1) x b here in let j = places_bounds (k + 1 + trees_count b) y n there in omega (arith, i.1, j.0))

  module _ (level : are_at 0 d ≡ true) (finds : (name : Bytes) (place : ℕ) → (find name ≡ Some place) ↔ HasXref d place name) (x : ℕ) where
    below_one_way : (p : ℕ) (r : Structure) → p < trees_count d → structure_at d p ≡ r → (q : ℕ) (t : Trees) → IsAmong x (one_way_below find d r.tag p q t)
        → SomeTreeFrom q (λ here s below. (here ≡ x) × IsOneWay d r.tag r.xref s below) t
    below_one_way p r within is q none h = absurd h
    below_one_way p r within is q (tree s b n) h = elim (append_among x (cond (is_one_way find d r.tag p s) (q ∷ []) []) (one_way_below find d r.tag p (q + 1 + trees_count b) n) h) [
      | inl here ↦ (
          let e = tested_among (is_one_way find d r.tag p s) q x here in
          inl (e.1, subst (λ (r : Structure). is_one_way find d r.tag p s ≡ true → IsOneWay d r.tag r.xref s b) is (is_one_way-IsOneWay d level find finds p within s b) e.0))
      | inr next ↦ inr (below_one_way p r within is (q + 1 + trees_count b) n next)
    ]

    one_way_below_at : (p : ℕ) (r : Structure) → p < trees_count d → structure_at d p ≡ r → (q : ℕ) (t : Trees)
        → SomeTreeFrom q (λ here s below. (here ≡ x) × IsOneWay d r.tag r.xref s below) t → IsAmong x (one_way_below find d r.tag p q t)
    one_way_below_at p r within is q none h = absurd h
    one_way_below_at p r within is q (tree s b n) (inl h) =
        among_left x (cond (is_one_way find d r.tag p s) (q ∷ []) []) (one_way_below find d r.tag p (q + 1 + trees_count b) n)
        (among_tested (is_one_way find d r.tag p s) q x (subst (λ (r : Structure). IsOneWay d r.tag r.xref s b → is_one_way find d r.tag p s ≡ true) is (IsOneWay-is_one_way d level find finds p within s b) h.1) h.0)
    one_way_below_at p r within is q (tree s b n) (inr h) =
        among_right x (cond (is_one_way find d r.tag p s) (q ∷ []) []) (one_way_below find d r.tag p (q + 1 + trees_count b) n) (one_way_below_at p r within is (q + 1 + trees_count b) n h)

    places_one_way : (k : ℕ) (t : Trees) → IsPart d k t → IsAmong x (one_way_places find d k t)
        → SomeTreeFrom k (λ start r children. SomeTreeFrom (start + 1) (λ here s below. (here ≡ x) × IsOneWay d r.tag r.xref s below) children) t
    places_one_way k none part h = absurd h
    places_one_way k (tree r b n) part h = elim (append_among x (one_way_below find d r.tag k (k + 1) b) (one_way_places find d (k + 1 + trees_count b) n) h) [
      | inl here ↦ inl (below_one_way k r (omega (arith, part.fits)) (part_first d k r b n part) (k + 1) b here)
      | inr next ↦ inr (places_one_way (k + 1 + trees_count b) n (part_next d k r b n part) next)
    ]

    one_way_places_at : (k : ℕ) (t : Trees) → IsPart d k t
        → SomeTreeFrom k (λ start r children. SomeTreeFrom (start + 1) (λ here s below. (here ≡ x) × IsOneWay d r.tag r.xref s below) children) t → IsAmong x (one_way_places find d k t)
    one_way_places_at k none part h = absurd h
    one_way_places_at k (tree r b n) part (inl h) =
        among_left x (one_way_below find d r.tag k (k + 1) b) (one_way_places find d (k + 1 + trees_count b) n) (one_way_below_at k r (omega (arith, part.fits)) (part_first d k r b n part) (k + 1) b h)
    one_way_places_at k (tree r b n) part (inr h) =
        among_right x (one_way_below find d r.tag k (k + 1) b) (one_way_places find d (k + 1 + trees_count b) n) (one_way_places_at (k + 1 + trees_count b) n (part_next d k r b n part) h)

pub are_one_way : (d : Trees) → is_document d ≡ true → (find : Bytes → Option ℕ) → ((name : Bytes) (place : ℕ) → (find name ≡ Some place) ↔ HasXref d place name) → AreOneWay d (one_way_places find d 0 d)
are_one_way d doc find finds = record {
  rising = places_rising find d 0 d;
  each = λ x. (places_one_way find d (document_level d doc) finds x 0 d (whole_part d), one_way_places_at find d (document_level d doc) finds x 0 d (whole_part d));
}

-- ---- the places of links in one direction only

children_within : (P : Structure → Trees → Type 0) (q x : ℕ) (t : Trees) → SomeTreeFrom q (λ here s below. (here ≡ x) × P s below) t → x < q + trees_count t
children_within P q x none h = absurd h
children_within P q x (tree s b n) (inl h) = omega (arith, h.0)
children_within P q x (tree s b n) (inr h) = omega (arith, children_within P (q + 1 + trees_count b) x n h)

records_within : (d : Trees) (k x : ℕ) (t : Trees) → SomeTreeFrom k (λ start r children. SomeTreeFrom (start + 1) (λ here s below. (here ≡ x) × IsOneWay d r.tag r.xref s below) children) t → x < k + trees_count t
records_within d k x none h = absurd h
records_within d k x (tree r b n) (inl h) = omega (arith, children_within (IsOneWay d r.tag r.xref) (k + 1) x b h)
records_within d k x (tree r b n) (inr h) = omega (arith, records_within d (k + 1 + trees_count b) x n h)

pub one_way_within : (d : Trees) (x : ℕ) → OneWayAt d x → x < trees_count d
one_way_within d x h = omega (arith, records_within d 0 x d h)

children_placed : (P : Structure → Trees → Type 0) (q : ℕ) (t : Trees) → SomeTree P t → (x : ℕ) × SomeTreeFrom q (λ here s below. (here ≡ x) × P s below) t
children_placed P q none h = absurd h
children_placed P q (tree s b n) (inl h) = (q, inl (refl, h))
children_placed P q (tree s b n) (inr h) = let k = children_placed P (q + 1 + trees_count b) n h in (k.0, inr k.1)

placed_children : (P : Structure → Trees → Type 0) (q x : ℕ) (t : Trees) → SomeTreeFrom q (λ here s below. (here ≡ x) × P s below) t → SomeTree P t
placed_children P q x none h = absurd h
placed_children P q x (tree s b n) (inl h) = inl h.1
placed_children P q x (tree s b n) (inr h) = inr (placed_children P (q + 1 + trees_count b) x n h)

records_placed : (d : Trees) (k : ℕ) (t : Trees) → SomeTree (λ r children. SomeTree (IsOneWay d r.tag r.xref) children) t
    → (x : ℕ) × SomeTreeFrom k (λ start r children. SomeTreeFrom (start + 1) (λ here s below. (here ≡ x) × IsOneWay d r.tag r.xref s below) children) t
records_placed d k none h = absurd h
records_placed d k (tree r b n) (inl h) = let i = children_placed (IsOneWay d r.tag r.xref) (k + 1) b h in (i.0, inl i.1)
records_placed d k (tree r b n) (inr h) = let i = records_placed d (k + 1 + trees_count b) n h in (i.0, inr i.1)

placed_records : (d : Trees) (k x : ℕ) (t : Trees) → SomeTreeFrom k (λ start r children. SomeTreeFrom (start + 1) (λ here s below. (here ≡ x) × IsOneWay d r.tag r.xref s below) children) t
    → SomeTree (λ r children. SomeTree (IsOneWay d r.tag r.xref) children) t
placed_records d k x none h = absurd h
placed_records d k x (tree r b n) (inl h) = inl (placed_children (IsOneWay d r.tag r.xref) (k + 1) x b h)
placed_records d k x (tree r b n) (inr h) = inr (placed_records d (k + 1 + trees_count b) x n h)

pub has_place : (d : Trees) → OneWay d ↔ ((place : ℕ) × OneWayAt d place)
has_place d = (records_placed d 0 d, λ h. placed_records d 0 h.0 d h.1)

-- ---- the list of them

none_one_way : (d : Trees) (places : List ℕ) → AreOneWay d places → places ≡ [] → OneWay d → ⊥
none_one_way d [] are e h = let p = (has_place d).0 h in (are.each p.0).1 p.1
none_one_way d (x ∷ xs) are e h = cc

lowest_one_way : (d : Trees) (x : ℕ) (xs places : List ℕ) → AreOneWay d places → places ≡ x ∷ xs → IsLowest (OneWayAt d) x
lowest_one_way d x xs [] are e = cc
lowest_one_way d x xs (y ∷ ys) are e =
    let same : y ≡ x = cc in
    subst (IsLowest (OneWayAt d)) same (
      (are.each y).0 (inl refl),
      λ other h. elim ((are.each other).1 h) [ inl here ↦ omega (arith, here) | inr later ↦ (let l = are.rising.0 other later in omega (arith, l)) ],
    )

get_none : (xs : List ℕ) → slice_get xs 0 ≡ None → xs ≡ []
get_none [] e = refl
get_none (x ∷ xs) e = cc

get_some : (xs : List ℕ) (x : ℕ) → slice_get xs 0 ≡ Some x → (rest : List ℕ) × (xs ≡ x ∷ rest)
get_some [] x e = cc
get_some (y ∷ ys) x e = (ys, let f : y ≡ x = cc in rw f refl)

among_at : (xs : List ℕ) (i : ℕ) → i < length xs → IsAmong (slice_index_or xs i 0) xs
among_at [] i h = absurd (omega arith)
among_at (x ∷ xs) zero h = inl refl
among_at (x ∷ xs) (suc i) h = inr (among_at xs i (omega (arith, h)))

module _ (d : Trees) (places : List ℕ) (are : AreOneWay d places) where
  pub no_first : slice_get places 0 ≡ None → OneWay d → ⊥
  no_first e = none_one_way d places are (get_none places e)

  pub first_is : (x : ℕ) → slice_get places 0 ≡ Some x → IsLowest (OneWayAt d) x
  first_is x e = let k = get_some places x e in lowest_one_way d x k.0 places are k.1

  pub place_within : (i : ℕ) → i < length places → slice_index_or places i 0 < trees_count d
  place_within i h = one_way_within d (slice_index_or places i 0) ((are.each (slice_index_or places i 0)).0 (among_at places i h))
