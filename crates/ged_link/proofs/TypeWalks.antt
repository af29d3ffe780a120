-- The types of the records, as a document is gone through place by place.
use Rattle.std.proofs.Common.{◌≡◌, ℕ, ◌+◌, ◌-◌, ◌<◌, ◌≤◌, true, false, List, [], ◌∷◌, inl, inr, Option, None, refl, sym, ap, ◌∙◌, arith, subst, drop, slice_index_or, if◌then◌else◌}
use Rattle.std.specs.Prelude.{◌==◌, nat_le, codes, ⊤}
use Rattle.std.specs.Str.{bytes_eq}
use Rattle.std.proofs.lemmas.Bool.{cases_lt}
use Rattle.std.proofs.lemmas.Bool.Decides.{nat_tests}
use Rattle.std.proofs.lemmas.Slice.Eq.{bytes_eq-Decides}
use Rattle.ged_line.specs.Bytes.{Bytes}
use Rattle.ged_tree.specs.Trees.{Structure, Trees, none, tree, trees_count, records_of}
use Rattle.ged_tree.specs.Documents.{is_document}
use Rattle.ged_tree.specs.Places.{structure_at, level_at}
use Rattle.ged_tree.proofs.CallerLemmas.{level_first, level_below, level_next, document_is}
use Rattle.ged_link.specs.RecordTypes.{IsTypeOf, record_tag}
use Rattle.ged_link.specs.declared.record_type.RecordType.{RecordType}
use Rattle.ged_link.specs.declared.record_type.RecordType.TheVariants.{Fam, Indi, Obje, Snote, Sour, Subm}
use Rattle.ged_link.specs.inner.Listing.{AreTypesOf}
use Rattle.ged_link.proofs.LevelWalks.{level_least, level_zero}
use Rattle.ged_link.proofs.PlaceCases.{place_cases, at_first, at_next}
use Rattle.ged_link.proofs.RecordLemmas.{left_first, left_next}

-- the tags of trees side by side, and of those from a place on
abbrev tags : Trees → List Bytes
tags none = []
tags (tree s below next) = s.tag ∷ tags next

abbrev pub tags_from : Trees → ℕ → List Bytes
tags_from none k = []
tags_from (tree s below next) k =
    if k == 0 then s.tag ∷ tags next
    else if nat_le k (trees_count below) then tags next
    else tags_from next (k - 1 - trees_count below)

-- the types of records with these tags, one for each
abbrev pub AreTyped : List (Option RecordType) → List Bytes → Type 0
AreTyped [] [] = ⊤
AreTyped [] (tag ∷ more) = ⊥
AreTyped (known ∷ types) [] = ⊥
AreTyped (known ∷ types) (tag ∷ more) = IsTypeOf known tag × AreTyped types more

tags_start : (t : Trees) (k : ℕ) → k ≡ 0 → tags_from t k ≡ tags t
tags_start none k e = refl
tags_start (tree s b n) k e = grind (arith, nat_tests, e)

tags_below : (s : Structure) (b n : Trees) (k : ℕ) → 0 < k → k ≤ trees_count b → tags_from (tree s b n) k ≡ tags n
tags_below s b n k some within = grind (arith, nat_tests, some, within)

tags_next : (s : Structure) (b n : Trees) (k : ℕ) → trees_count b < k → tags_from (tree s b n) k ≡ tags_from n (k - 1 - trees_count b)
tags_next s b n k past = grind (arith, nat_tests, past)

-- a place within what stands below a tree, or the next
tags_within : (s : Structure) (b n : Trees) (k : ℕ) → 0 < k → k ≤ trees_count b + 1 → tags_from (tree s b n) k ≡ tags n
tags_within s b n k some within = elim (cases_lt (trees_count b) k) [
  | inr inside ↦ tags_below s b n k some inside
  | inl past ↦ tags_next s b n k past ∙ tags_start n (k - 1 - trees_count b) (omega (arith, past, within))
]

-- at level 0 one of them begins
pub tags_begin : (d : Trees) (k : ℕ) → k < trees_count d → level_at 0 d k ≡ 0 → tags_from d k ≡ (structure_at d k).tag ∷ tags_from d (k + 1)
tags_begin none k h e = absurd (omega arith)
tags_begin (tree s b n) k h e =
    elim (place_cases s b n k h) [
      | inl first ↦
          let is : structure_at (tree s b n) k ≡ s = ap (structure_at (tree s b n)) first ∙ at_first s b n in
          tags_start (tree s b n) k first
          ∙ ap (λ ts. s.tag ∷ ts) (sym (tags_within s b n (k + 1) (omega arith) (omega (arith, first))))
          ∙ ap (λ (x : Structure). x.tag ∷ tags_from (tree s b n) (k + 1)) (sym is)
      | inr (inl w) ↦
          let deeper : level_at 0 (tree s b n) k ≡ level_at 1 b (k - 1) = level_below 0 s b n k (omega (arith, w.2)) (omega (arith, w.1, w.2)) in
          absurd (omega (arith, e, deeper, level_least 1 b (k - 1) (omega (arith, w.1, w.2))))
      | inr (inr w) ↦
          let is : structure_at (tree s b n) k ≡ structure_at n w.0 = ap (structure_at (tree s b n)) w.2 ∙ at_next s b n w.0 in
          let left : k - 1 - trees_count b ≡ w.0 = omega (arith, w.2) in
          let more : w.0 + 1 ≡ k + 1 - 1 - trees_count b = omega (arith, w.2) in
          let level : level_at 0 (tree s b n) k ≡ level_at 0 n w.0 = level_next 0 s b n k (omega (arith, w.2)) ∙ ap (level_at 0 n) left in
          tags_next s b n k (omega (arith, w.2))
          ∙ ap (tags_from n) left
          ∙ tags_begin n w.0 w.1 (sym level ∙ e)
          ∙ ap (λ (i : ℕ). (structure_at n w.0).tag ∷ tags_from n i) more
          ∙ ap (λ ts. (structure_at n w.0).tag ∷ ts) (sym (tags_next s b n (k + 1) (omega (arith, w.2))))
          ∙ ap (λ (x : Structure). x.tag ∷ tags_from (tree s b n) (k + 1)) (sym is)
    ]

-- at any other none does
pub tags_stay : (d : Trees) (k : ℕ) → k < trees_count d → (level_at 0 d k ≡ 0 → ⊥) → tags_from d k ≡ tags_from d (k + 1)
tags_stay none k h deep = absurd (omega arith)
tags_stay (tree s b n) k h deep =
    elim (place_cases s b n k h) [
      | inl first ↦ absurd (deep (level_first 0 s b n k first))
      | inr (inl w) ↦ tags_within s b n k (omega (arith, w.2)) (omega (arith, w.1, w.2)) ∙ sym (tags_within s b n (k + 1) (omega arith) (omega (arith, w.1, w.2)))
      | inr (inr w) ↦
          let left : k - 1 - trees_count b ≡ w.0 = omega (arith, w.2) in
          let more : w.0 + 1 ≡ k + 1 - 1 - trees_count b = omega (arith, w.2) in
          let level : level_at 0 (tree s b n) k ≡ level_at 0 n w.0 = level_next 0 s b n k (omega (arith, w.2)) ∙ ap (level_at 0 n) left in
          tags_next s b n k (omega (arith, w.2))
          ∙ ap (tags_from n) left
          ∙ tags_stay n w.0 w.1 (λ z. deep (level ∙ z))
          ∙ ap (tags_from n) more
          ∙ sym (tags_next s b n (k + 1) (omega (arith, w.2)))
    ]

-- HEAD is no record
typed_head : (tag : Bytes) → tag ≡ codes "HEAD" → IsTypeOf None tag
typed_head tag e wanted = (λ none. cc, λ is. absurd (go wanted (ap (λ (t : Bytes). bytes_eq t (codes "HEAD")) (sym e ∙ is))))
  where
    go : (wanted : RecordType) → true ≡ bytes_eq (record_tag wanted) (codes "HEAD") → ⊥
    go Fam h = cc
    go Indi h = cc
    go Obje h = cc
    go Snote h = cc
    go Sour h = cc
    go Subm h = cc

types_tagged : (types : List (Option RecordType)) (t : Trees) → AreTypesOf types t → AreTyped types (tags t)
types_tagged [] none are = tt
types_tagged [] (tree s b n) are = absurd are
types_tagged (known ∷ types) none are = absurd are
types_tagged (known ∷ types) (tree s b n) are = (are.0, types_tagged types n are.1)

-- the types of HEAD and of all records
pub types_start : (d : Trees) (types : List (Option RecordType)) → is_document d ≡ true → AreTypesOf types (records_of d) → AreTyped (None ∷ types) (tags_from d 0)
types_start none types is are = absurd (let f : false ≡ true = is in cc)
types_start (tree s b n) types is are = (
  typed_head s.tag ((bytes_eq-Decides s.tag (codes "HEAD")).0 (document_is s b n is).header),
  types_tagged types n are,
)

-- what is known of the record in which the structure at a place stands, and of the records that begin behind that place
module _ (d : Trees) (types : List (Option RecordType)) (place begun : ℕ) (inside : place < trees_count d) (before : AreTyped (drop begun types) (tags_from d place)) (few_before : begun ≤ place) where
  pub record IsTypedIn (from : ℕ) (known : Option RecordType) (now : ℕ) : Type 0 where
    pub is : IsTypeOf known (structure_at d from).tag
    pub left : AreTyped (drop now types) (tags_from d (place + 1))
    pub few : now ≤ place + 1

  pub type_begins : (from : ℕ) (known : Option RecordType) (now : ℕ) → from ≡ place → known ≡ slice_index_or types begun None → now ≡ begun + 1 → level_at 0 d place ≡ 0 → IsTypedIn from known now
  type_begins from known now from_is known_is now_is top = go (drop begun types) refl (subst (AreTyped (drop begun types)) (tags_begin d place inside top) before)
    where
      go : (ts : List (Option RecordType)) → drop begun types ≡ ts → AreTyped ts ((structure_at d place).tag ∷ tags_from d (place + 1)) → IsTypedIn from known now
      go [] e are = absurd are
      go (first ∷ more) e are = record {
        is =
            let same : known ≡ first = known_is ∙ left_first types begun first more e None in
            rw (from_is, same) are.0;
        left = rw (now_is, left_next types begun first more e) are.1;
        few = omega (arith, now_is, few_before);
      }

  pub type_stays : (from old : ℕ) (known known_before : Option RecordType) (now : ℕ) → from ≡ old → known ≡ known_before → now ≡ begun → (level_at 0 d place ≡ 0 → ⊥)
      → (0 < place → IsTypeOf known_before (structure_at d old).tag) → IsTypedIn from known now
  type_stays from old known known_before now from_is known_is now_is deep is = elim (cases_lt 0 place) [
    | inr first ↦ absurd (deep (level_zero d place inside (omega (arith, first))))
    | inl later ↦ record {
      is = rw (from_is, known_is) (is later);
      left = rw now_is (subst (AreTyped (drop begun types)) (tags_stay d place inside deep) before);
      few = omega (arith, now_is, few_before);
    }
  ]
