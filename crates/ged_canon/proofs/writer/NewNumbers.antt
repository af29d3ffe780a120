-- New numbers, given to records in a new order.
use Rattle.std.proofs.Common.{◌≡◌, ◌≢◌, ℕ, suc, ◌+◌, ◌<◌, cond, List, [], ◌∷◌, ◌++◌, length, Option, Some, None, ◌⊎◌, inl, inr, refl, sym, ap, ◌∙◌, subst, arith, get_or-set_other, slice_set, slice_get, slice_index_or}
use Rattle.std.specs.Prelude.{bytes_eq}
use Rattle.std.proofs.Math.Nat.{eq-or-lt_of_le}
use Rattle.std.proofs.lemmas.Bool.{cases_lt}
use Rattle.std.proofs.lemmas.Grind.{get_or-set_at}
use Rattle.ged_line.specs.Bytes.{Bytes}
use Rattle.ged_tree.specs.Trees.{Trees, none, tree, records_of}
use Rattle.ged_link.specs.Links.{IsAmong, AreDistinct, xrefs, identifiers, IsRecordNumber}
use Rattle.ged_link.specs.inner.Identifiers.{with_xref}
use Rattle.ged_canon.specs.inner.Working.{number_among}
use Rattle.ged_canon.proofs.theory.Texts.{same_bytes, other_bytes}

same_or_not : (k n : ℕ) → (k ≡ n) ⊎ (k ≢ n)
same_or_not k n = elim (cases_lt k n) [
  | inl below ↦ inr (λ e. omega arith)
  | inr above ↦ elim (eq-or-lt_of_le above) [ inl e ↦ inl (sym e) | inr more ↦ inr (λ e. omega arith) ]
]

-- one more name, behind the others

among_later : (name other : Bytes) (n : ℕ) (names : List Bytes) → name ≢ other → number_among n (names ++ name ∷ []) other ≡ number_among n names other
among_later name other n [] ne = let e = other_bytes name other ne in rw e
among_later name other n (first ∷ rest) ne = ap (λ k. cond (bytes_eq first other) n k) (among_later name other (n + 1) rest ne)

among_last : (name : Bytes) (n : ℕ) (names : List Bytes) → (IsAmong name names → ⊥) → number_among n (names ++ name ∷ []) name ≡ n + length names
among_last name n [] h = ap (λ b. cond b n 0) (same_bytes name name refl) ∙ omega arith
among_last name n (first ∷ rest) h =
    let e = other_bytes first name (λ p. h (inl (sym p))) in
    ap (λ b. cond b n (number_among (n + 1) (rest ++ name ∷ []) name)) e ∙ among_last name (n + 1) rest (λ k. h (inr k)) ∙ omega arith

-- the numbers of a document's records are the places of their names among names
abbrev pub ArePlaces : Trees → List Bytes → List ℕ → Type 0
ArePlaces d names numbers = (number : ℕ) (name : Bytes) → IsRecordNumber d number name → slice_index_or numbers number 0 ≡ number_among 1 names name

some_name : (a b : Bytes) → ◌≡◌ {A = Option (Option Bytes)} (Some (Some a)) (Some (Some b)) → a ≡ b
some_name a b e = cc

pub places_more : (d : Trees) (names : List Bytes) (name : Bytes) (numbers : List ℕ) (place number : ℕ) → ArePlaces d names numbers
    → IsRecordNumber d place name → ((other : ℕ) → IsRecordNumber d other name → other ≡ place) → (IsAmong name names → ⊥) → place < length numbers → number ≡ length names
    → ArePlaces d (names ++ name ∷ []) (slice_set numbers place (number + 1))
places_more d names name numbers place number are here only fresh inside counted k other at = elim (same_or_not k place) [
  | inl same ↦ (
      let there : IsRecordNumber d place other = subst (λ n. IsRecordNumber d n other) same at in
      let is : name ≡ other = some_name name other (sym here ∙ there) in
      get_or-set_at numbers place k (number + 1) 0 same inside ∙ (let last = among_last name 1 names fresh in omega (arith, last, counted)) ∙ ap (number_among 1 (names ++ name ∷ [])) is)
  | inr apart ↦ (
      let differ : name ≢ other = λ e. apart (only k (subst (IsRecordNumber d k) (sym e) at)) in
      get_or-set_other numbers place k (number + 1) 0 apart ∙ are k other at ∙ sym (among_later name other 1 names differ))
]

-- the numbers of records without an identifier are 0
abbrev pub AreUnnumbered : Trees → List ℕ → Type 0
AreUnnumbered d numbers = (number : ℕ) → slice_get (identifiers (records_of d)) number ≡ Some None → slice_index_or numbers number 0 ≡ 0

pub unnumbered_more : (d : Trees) (name : Bytes) (numbers : List ℕ) (place number : ℕ) → IsRecordNumber d place name → AreUnnumbered d numbers → AreUnnumbered d (slice_set numbers place number)
unnumbered_more d name numbers place number here are k none_here =
    get_or-set_other numbers place k number 0 (λ same. let there : IsRecordNumber d k name = subst (λ n. IsRecordNumber d n name) (sym same) here in absurd (let e : Some None ≡ Some (Some name) = sym none_here ∙ there in cc)) ∙ are k none_here

-- names of records

pub among_back : (xs ys : List Bytes) (name : Bytes) → IsAmong name ys → IsAmong name (xs ++ ys)
among_back [] ys name k = k
among_back (x ∷ xs) ys name k = inr (among_back xs ys name k)

pub among_front : (xs ys : List Bytes) (name : Bytes) → IsAmong name xs → IsAmong name (xs ++ ys)
among_front [] ys name k = absurd k
among_front (x ∷ xs) ys name (inl e) = inl e
among_front (x ∷ xs) ys name (inr k) = inr (among_front xs ys name k)

pub distinct_apart : (xs ys : List Bytes) (name : Bytes) → AreDistinct (xs ++ ys) → IsAmong name xs → IsAmong name ys → ⊥
distinct_apart [] ys name h k j = k
distinct_apart (x ∷ xs) ys name h (inl e) j = h.0 (among_back xs ys x (subst (λ n. IsAmong n ys) e j))
distinct_apart (x ∷ xs) ys name h (inr k) j = distinct_apart xs ys name h.1 k j

pub distinct_front : (xs ys : List Bytes) → AreDistinct (xs ++ ys) → AreDistinct xs
distinct_front [] ys h = tt
distinct_front (x ∷ xs) ys h = ((λ k. h.0 (among_front xs ys x k)), distinct_front xs ys h.1)

-- a name among identifiers has a number
pub numbered_among : (xs : Trees) (name : Bytes) → IsAmong name (xrefs xs) → (number : ℕ) × (slice_get (identifiers xs) number ≡ Some (Some name))
numbered_among none name h = absurd h
numbered_among (tree s below next) name h = by (numbered_among next name) s.xref refl h
  where
    later : (number : ℕ) × (slice_get (identifiers next) number ≡ Some (Some name)) → (number : ℕ) × (slice_get (s.xref ∷ identifiers next) number ≡ Some (Some name))
    later n = (suc n.0, n.1)

    by : (IsAmong name (xrefs next) → (number : ℕ) × (slice_get (identifiers next) number ≡ Some (Some name))) → (x : Option Bytes) → s.xref ≡ x → IsAmong name (with_xref x (xrefs next)) → (number : ℕ) × (slice_get (s.xref ∷ identifiers next) number ≡ Some (Some name))
    by f None e k = later (f k)
    by f (Some first) e (inl same) = (0, ap Some (e ∙ ap Some (sym same)))
    by f (Some first) e (inr k) = later (f k)
