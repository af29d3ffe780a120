-- What is kept of the places of records.
use Rattle.std.proofs.Common.{◌≡◌, ◌↔◌, ℕ, zero, suc, ◌+◌, ◌<◌, ◌≤◌, List, [], ◌∷◌, ◌++◌, Option, Some, None, IsSome, inl, inr, sym, ◌∙◌, ap, refl, arith, rules, length, map, get_or, slice_get, option_map, append_assoc, subst, true, false}
use Rattle.std.specs.Prelude.{nat_lt}
use Rattle.std.specs.List.Sorted.{IsNonDecreasing, IsPartitionPoint}
use Rattle.std.proofs.lemmas.Bool.{cases_lt}
use Rattle.std.proofs.lemmas.List.{append-nil}
use Rattle.std.proofs.lemmas.Option.{slice_get-map, slice_get_within, slice_get-get_or, get_or_from_slice_get}
use Rattle.ged_tree.specs.Trees.{Trees, none, tree, trees_count, records_of}
use Rattle.ged_tree.specs.Places.{structure_at}
use Rattle.ged_tree.specs.Runs.{trees_between, IsStep}
use Rattle.ged_link.specs.Links.{identifiers}
use Rattle.ged_link.specs.Places.{places_from, record_places, IsRecordPlace, place_kept, ArePlaces}
use Rattle.ged_line.specs.Bytes.{Bytes}
use Rattle.ged_link.specs.declared.index.RecordPlace.{RecordPlace}
use Rattle.ged_link.specs.declared.names.Names.{Names}
use Rattle.ged_link.specs.Indexes.{found_in, number_in, place_in, AreRecords}
use Rattle.ged_link.specs.inner.Places.{IsKeptAt, IsNamedAt}
use Rattle.ged_link.proofs.PlaceCases.{at_first, at_next}

-- ---- the places of trees side by side

-- each tree stands at the first one's place or behind it, and has its own structure there
stands_in : (xs : Trees) (from number place : ℕ) → slice_get (places_from from xs) number ≡ Some place
    → (k : ℕ) × (place ≡ from + k) × (slice_get (identifiers xs) number ≡ Some (structure_at xs k).xref)
stands_in none from number place is = absurd (cc)
stands_in (tree s below next) from zero place is = (0, (let e : from ≡ place = cc in omega (arith, e)), ap (λ x. Some x.xref) (sym (at_first s below next)))
stands_in (tree s below next) from (suc number) place is =
    let later = stands_in next (from + 1 + trees_count below) number place is in
    (1 + trees_count below + later.0, omega (arith, later.1), later.2 ∙ ap (λ x. Some x.xref) (sym (at_next s below next later.0)))

-- no two trees stand at one place
one_standing : (xs : Trees) (from i j place : ℕ) → slice_get (places_from from xs) i ≡ Some place → slice_get (places_from from xs) j ≡ Some place → i ≡ j
one_standing none from i j place is at = absurd (cc)
one_standing (tree s below next) from zero zero place is at = refl
one_standing (tree s below next) from zero (suc j) place is at =
    absurd (let e : from ≡ place = cc in let later = stands_in next (from + 1 + trees_count below) j place at in omega (arith, e, later.1))
one_standing (tree s below next) from (suc i) zero place is at =
    absurd (let e : from ≡ place = cc in let later = stands_in next (from + 1 + trees_count below) i place is in omega (arith, e, later.1))
one_standing (tree s below next) from (suc i) (suc j) place is at = ap suc (one_standing next (from + 1 + trees_count below) i j place is at)

-- each tree stands before their end
stands_before : (xs : Trees) (from number place : ℕ) → slice_get (places_from from xs) number ≡ Some place → place < from + trees_count xs
stands_before none from number place is = absurd (cc)
stands_before (tree s below next) from zero place is = let e : from ≡ place = cc in omega (arith, e)
stands_before (tree s below next) from (suc number) place is =
    let later = stands_before next (from + 1 + trees_count below) number place is in omega (arith, later)

-- places that are kept do not fall
none_lower : (xs : Trees) (from n d : ℕ) → n < length (map place_kept (places_from from xs)) → place_kept from ≤ get_or (map place_kept (places_from from xs)) n d
none_lower none from n d h = absurd (omega (arith, h))
none_lower (tree s below next) from zero d h = omega arith
none_lower (tree s below next) from (suc n) d h = let later = none_lower next (from + 1 + trees_count below) n d (omega (arith, h)) in omega (arith, later)

kept_rising : (xs : Trees) (from : ℕ) → IsNonDecreasing (map place_kept (places_from from xs))
kept_rising none from i j d order h = absurd (omega (arith, h))
kept_rising (tree s below next) from zero zero d order h = omega arith
kept_rising (tree s below next) from zero (suc j) d order h = let later = none_lower next (from + 1 + trees_count below) j d (omega (arith, h)) in omega (arith, later)
kept_rising (tree s below next) from (suc i) zero d order h = absurd (omega (arith, order))
kept_rising (tree s below next) from (suc i) (suc j) d order h = kept_rising next (from + 1 + trees_count below) i j d (omega (arith, order)) (omega (arith, h))

-- ---- the places of records

pub record_stands : (d : Trees) (number place : ℕ) → IsRecordPlace d number place → slice_get (identifiers (records_of d)) number ≡ Some (structure_at d place).xref
record_stands none number place is = absurd (cc)
record_stands (tree s below next) number place is =
    let there = stands_in next (0 + 1 + trees_count below) number place is in
    let e : place ≡ 1 + trees_count below + there.0 = omega (arith, there.1) in
    there.2 ∙ ap (λ x. Some x.xref) (sym (ap (structure_at (tree s below next)) e ∙ at_next s below next there.0))

pub record_within : (d : Trees) (number place : ℕ) → IsRecordPlace d number place → place < trees_count d
record_within none number place is = absurd (cc)
record_within (tree s below next) number place is =
    let later = stands_before next (0 + 1 + trees_count below) number place is in omega (arith, later)

pub one_record_there : (d : Trees) (i j place : ℕ) → IsRecordPlace d i place → IsRecordPlace d j place → i ≡ j
one_record_there none i j place is at = absurd (cc)
one_record_there (tree s below next) i j place is at = one_standing next (0 + 1 + trees_count below) i j place is at

pub places_rising : (d : Trees) (places : List ℕ) → ArePlaces d places → IsNonDecreasing places
places_rising d places are = subst IsNonDecreasing (sym are) (go d)
  where
    go : (d : Trees) → IsNonDecreasing (map place_kept (record_places d))
    go none = λ i j other order h. absurd (omega (arith, h))
    go (tree s below next) = kept_rising next (0 + 1 + trees_count below)

-- what is kept is where the record stands, and each place that 32 bits hold is kept
pub kept_stands : (d : Trees) (places : List ℕ) (number place : ℕ) → ArePlaces d places → IsKeptAt places number place → IsRecordPlace d number place
kept_stands d places number place are kept = go (slice_get (record_places d) number) refl
  where
    told : slice_get (map place_kept (record_places d)) number ≡ Some place
    told = rw (← are) kept.0

    go : (x : Option ℕ) → slice_get (record_places d) number ≡ x → IsRecordPlace d number place
    go None e = absurd (let f = sym told ∙ slice_get-map place_kept (record_places d) number ∙ ap (option_map place_kept) e in cc)
    go (Some other) e =
        let f = sym told ∙ slice_get-map place_kept (record_places d) number ∙ ap (option_map place_kept) e in
        let g : place ≡ place_kept other = cc in
        let h : other ≡ place = omega (arith, g, kept.1) in
        e ∙ ap Some h

-- a record that stands where a place is kept, and has a name there, has that name by its number
pub kept_named : (d : Trees) (places : List ℕ) (found : RecordPlace) (name : Bytes) → ArePlaces d places → IsKeptAt places found.number found.place
    → (structure_at d found.place).xref ≡ Some name → IsNamedAt d found name
kept_named d places found name are kept named =
    let stands = kept_stands d places found.number found.place are kept in
    record {
      numbered = record_stands d found.number found.place stands ∙ ap (λ x. Some x) named;
      placed = (record_within d found.number found.place stands, named);
    }

-- the record that has a name is found by it
pub named_found : (d : Trees) (records : Names) (found : RecordPlace) (name : Bytes) → AreRecords d records → IsNamedAt d found name → Some found ≡ found_in records name
named_found d records found name are named = go (found_in records name) refl
  where
    placed : place_in records name ≡ Some found.place
    placed = (are.placed name found.place).1 named.placed

    numbered : number_in records name ≡ Some found.number
    numbered = (are.numbered name found.number).1 named.numbered

    go : (x : Option RecordPlace) → found_in records name ≡ x → Some found ≡ x
    go None e = absurd (let f = sym placed ∙ ap (option_map (λ (r : RecordPlace). r.place)) e in cc)
    go (Some other) e =
        let p = sym placed ∙ ap (option_map (λ (r : RecordPlace). r.place)) e in
        let n = sym numbered ∙ ap (option_map (λ (r : RecordPlace). r.number)) e in
        let same_place : found.place ≡ other.place = cc in
        let same_number : found.number ≡ other.number = cc in
        λ i. Some (record { number = same_number i; place = same_place i })

pub stands_kept : (d : Trees) (places : List ℕ) (number place : ℕ) → ArePlaces d places → IsRecordPlace d number place → place < 4294967295 → IsKeptAt places number place
stands_kept d places number place are stands small =
    let same : place_kept place ≡ place = omega (arith, small) in
    (ap (λ (ps : List ℕ). slice_get ps number) are ∙ slice_get-map place_kept (record_places d) number ∙ ap (option_map place_kept) stands ∙ ap Some same, small)

-- ---- the walk over the records

pub places_start : (d : Trees) (first : ℕ) → first + trees_count (records_of d) ≡ trees_count d → places_from first (records_of d) ≡ record_places d
places_start none first sum = refl
places_start (tree s below next) first sum = let e : first ≡ 0 + 1 + trees_count below = omega (arith, sum) in rw e refl

module _ (d : Trees) (p e a : ℕ) (step : IsStep d p e a) where
  pub places_next : (places all : List ℕ) → places ++ map place_kept (places_from p (trees_between d p e)) ≡ all
      → (places ++ place_kept p ∷ []) ++ map place_kept (places_from a (trees_between d a e)) ≡ all
  places_next places all is =
      let at : p + 1 + trees_count (trees_between d (p + 1) a) ≡ a = step.below.fills in
      let unfolds : places_from p (trees_between d p e) ≡ p ∷ places_from a (trees_between d a e) =
      ap (places_from p) step.first ∙ ap (λ (n : ℕ). p ∷ places_from n (trees_between d a e)) at in
      append_assoc places (place_kept p ∷ []) (map place_kept (places_from a (trees_between d a e))) ∙ sym (ap (λ (ps : List ℕ). places ++ map place_kept ps) unfolds) ∙ is

pub places_end : (d : Trees) (places : List ℕ) (p : ℕ) (left : Trees) → left ≡ none → places ++ map place_kept (places_from p left) ≡ map place_kept (record_places d) → ArePlaces d places
places_end d places p left ends is = sym (append-nil places) ∙ sym (ap (λ (t : Trees). places ++ map place_kept (places_from p t)) ends) ∙ is

-- ---- what a search among places finds

-- where the places do not fall, the first that is not lower than one that is kept is this one
pub point_kept : (places : List ℕ) (place i number : ℕ) → IsNonDecreasing places → IsPartitionPoint (λ k. nat_lt k place ≡ true) (λ k. nat_lt k place ≡ false) places i
    → IsKeptAt places number place → IsKeptAt places i place
point_kept places place i number rising point kept =
    let within : number < length places = slice_get_within places number place kept.0 in
    let is : get_or places number 0 ≡ place = get_or_from_slice_get places number place 0 kept.0 in
    let behind : i ≤ number = elim (cases_lt number i) [
      | inl before ↦ absurd (let low = point.0 number 0 (omega arith) before in search rules)
      | inr past ↦ past
    ] in
    let high : nat_lt (get_or places i 0) place ≡ false = point.1 i 0 (omega arith) (omega (arith, behind, within)) in
    let low : get_or places i 0 ≤ get_or places number 0 = rising i number 0 behind within in
    let least : place ≤ get_or places i 0 = search rules in
    let same : get_or places i 0 ≡ place = omega (arith, low, least, is) in
    (slice_get-get_or places i 0 (omega (arith, behind, within)) ∙ ap Some same, kept.1)

-- an answer that is such a number, and is given where there is one, is the number of the record at the place
module _ (d : Trees) (places : List ℕ) (place : ℕ) (answer : Option ℕ) (are : ArePlaces d places) (told : (number : ℕ) → answer ≡ Some number → IsKeptAt places number place) where
  pub answer_stands : ((number : ℕ) → IsKeptAt places number place → IsSome answer) → (number : ℕ) → (answer ≡ Some number) ↔ (IsRecordPlace d number place × (place < 4294967295))
  answer_stands found number = (
    λ is. (kept_stands d places number place are (told number is), (told number is).1),
    λ there.
        let some = some_number answer (found number (stands_kept d places number place are there.0 there.1)) in
        some.1 ∙ ap Some (one_record_there d some.0 number place (kept_stands d places some.0 place are (told some.0 some.1)) there.0),
  )
    where
      some_number : (answer : Option ℕ) → IsSome answer → (number : ℕ) × (answer ≡ Some number)
      some_number None is = absurd (cc)
      some_number (Some number) is = (number, refl)

  pub answer_named : (number : ℕ) → answer ≡ Some number → slice_get (identifiers (records_of d)) number ≡ Some (structure_at d place).xref
  answer_named number is = record_stands d number place (kept_stands d places number place are (told number is))
