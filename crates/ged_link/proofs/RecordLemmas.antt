-- The records of a document, as the walk over them finds their identifiers.
use Rattle.std.proofs.Common.{◌≡◌, ℕ, ◌+◌, ◌-◌, ◌<◌, ◌≤◌, true, false, Bool, sym, ◌∙◌, ap, refl, arith, rules, List, [], ◌∷◌, drop, length, get_or, Option, Some, None, option_map, slice_get, slice_index_or, is_some, is_none, ◌⊎◌, inl, inr, subst, ◌↔◌}
use Rattle.std.specs.Bool.{if◌then◌else◌, Decides}
use Rattle.std.specs.Str.{bytes_eq}
use Rattle.std.proofs.lemmas.Slice.Eq.{bytes_eq-Decides}
use Rattle.std.proofs.lemmas.Bool.{cases_lt}
use Rattle.std.proofs.lemmas.List.{drop_all, drop_more}
use Rattle.std.proofs.lemmas.Option.{slice_get_within, slice_get-get_or}
use Rattle.ged_line.specs.Bytes.{Bytes}
use Rattle.ged_tree.specs.Trees.{Trees, none, tree, trees_count, records_of}
use Rattle.ged_tree.specs.Documents.{is_document, are_at}
use Rattle.ged_tree.specs.Places.{structure_at}
use Rattle.ged_tree.specs.Runs.{trees_between, IsRunOfTrees, IsStep}
use Rattle.ged_tree.proofs.CallerLemmas.{whole_is, run_whole, run_ends}
use Rattle.ged_link.specs.declared.index.RecordPlace.{RecordPlace}
use Rattle.ged_link.specs.Links.{identifiers, IsRecordNumber}
use Rattle.ged_link.specs.declared.record_type.RecordType.{RecordType}
use Rattle.ged_link.specs.RecordTypes.{IsTypeOf}
use Rattle.ged_link.specs.LinkFaults.{HasXref, IsRepeated, IsLowest}
use Rattle.ged_link.specs.declared.names.Names.{Names}
use Rattle.ged_link.specs.Indexes.{found_in, AreRecords, AreTyped}
use Rattle.ged_link.specs.inner.Resolving.{AddsName, AddsRecord, AreRecordsBefore}
use Rattle.ged_link.proofs.LinkLemmas.{both, document_level, level_parts, unnamed, unnamed_run}
use Rattle.ged_link.proofs.PlaceCases.{place_cases, at_first, at_below}

pub whole_run : (d : Trees) (e : ℕ) → e ≡ trees_count d → IsRunOfTrees d 0 e
whole_run d e h = rw h (run_whole d)

module _ (d : Trees) (e : ℕ) (h : e ≡ trees_count d) where
  all : trees_between d 0 e ≡ d
  all = rw h (whole_is d)

  pub records_after : (a : ℕ) → IsStep d 0 e a → trees_between d a e ≡ records_of d
  records_after a step = sym (ap records_of step.first) ∙ ap records_of all

  pub records_none : trees_between d 0 e ≡ none → trees_between d e e ≡ records_of d
  records_none k = run_ends d e e (omega arith) ∙ sym (ap records_of (sym all ∙ k))

  pub empty_run : IsRunOfTrees d e e
  empty_run = record { fills = rw (run_ends d e e (omega arith)) (omega arith) }

-- ---- the identifiers of the records that are left

module _ {X : Type 0} where
  pub left_within : (xs : List X) (k : ℕ) (x : X) (rest : List X) → drop k xs ≡ x ∷ rest → k < length xs
  left_within xs k x rest e = elim (cases_lt k (length xs)) [
    | inl within ↦ within
    | inr past ↦ (let f = drop_all k xs past in cc)
  ]

  pub left_first : (xs : List X) (k : ℕ) (x : X) (rest : List X) → drop k xs ≡ x ∷ rest → (other : X) → get_or xs k other ≡ x
  left_first xs k x rest e other = let f = drop_more xs k other (left_within xs k x rest e) in cc

  left_here : (xs : List X) (k : ℕ) (x : X) (rest : List X) → drop k xs ≡ x ∷ rest → slice_get xs k ≡ Some x
  left_here xs k x rest e = slice_get-get_or xs k x (left_within xs k x rest e) ∙ ap Some (left_first xs k x rest e x)

  pub left_next : (xs : List X) (k : ℕ) (x : X) (rest : List X) → drop k xs ≡ x ∷ rest → drop (k + 1) xs ≡ rest
  left_next xs k x rest e = let f = drop_more xs k x (left_within xs k x rest e) in cc

left_none : (xs : List (Option Bytes)) (k : ℕ) → drop k xs ≡ [] → length xs ≤ k
left_none xs k e = elim (cases_lt k (length xs)) [
  | inr past ↦ past
  | inl within ↦ (let f = drop_more xs k None within in cc)
]

-- ---- one more identifier

point : (f : RecordPlace → ℕ) (name n : Bytes) (found : RecordPlace) (old : Option RecordPlace) (same : Bool) (x : ℕ) (A B : Type 0)
    → Decides same (name ≡ n) → (name ≡ n → old ≡ None) → ((option_map f old ≡ Some x) ↔ A) → (B → A ⊎ ((name ≡ n) × (f found ≡ x))) → (A → B) → (name ≡ n → f found ≡ x → B)
    → (option_map f (if same then Some found else old) ≡ Some x) ↔ B
point f name n found old true x A B d fresh is cases grows here =
    let e : name ≡ n = search rules in (
      λ s. here e (cc),
      λ b. elim (cases b) [
        | inl a ↦ (let s = is.1 a in let none_is = ap (option_map f) (fresh e) in absurd (let g : None ≡ Some x = sym none_is ∙ s in cc))
        | inr h ↦ ap Some h.1
      ],
    )
point f name n found old false x A B d fresh is cases grows here = (
  λ s. grows (is.0 s),
  λ b. elim (cases b) [
    | inl a ↦ is.1 a
    | inr h ↦ (let e : name ≡ n = h.0 in absurd (search rules))
  ],
)

-- one more record, or one of those before
new_or_old : (P : RecordPlace → Type 0) (found : RecordPlace) (old : Option RecordPlace) (same : Bool) (kept : RecordPlace)
    → P found → ((other : RecordPlace) → old ≡ Some other → P other) → (if same then Some found else old) ≡ Some kept → P kept
new_or_old P found old true kept new before is = let f : found ≡ kept = cc in subst P f new
new_or_old P found old false kept new before is = before kept is

none_of_new : (o : Option RecordPlace) → is_none o ≡ true → o ≡ None
none_of_new None e = refl
none_of_new (Some found) e = cc

-- the walk is at a record
module _ (d : Trees) (p e a k : ℕ) (step : IsStep d p e a) (left : drop k (identifiers (records_of d)) ≡ identifiers (trees_between d p e)) where
  left_is : drop k (identifiers (records_of d)) ≡ (structure_at d p).xref ∷ identifiers (trees_between d a e)
  left_is = left ∙ ap identifiers step.first

  pub left_after : drop (k + 1) (identifiers (records_of d)) ≡ identifiers (trees_between d a e)
  left_after = left_next (identifiers (records_of d)) k (structure_at d p).xref (identifiers (trees_between d a e)) left_is

  pub number_within : k + 1 ≤ length (identifiers (records_of d))
  number_within = omega (arith, left_within (identifiers (records_of d)) k (structure_at d p).xref (identifiers (trees_between d a e)) left_is)

  named_here : slice_get (identifiers (records_of d)) k ≡ Some (structure_at d p).xref
  named_here = left_here (identifiers (records_of d)) k (structure_at d p).xref (identifiers (trees_between d a e)) left_is

  number_before : (name : Bytes) (other : ℕ) → (other < k + 1) × IsRecordNumber d other name → ((other < k) × IsRecordNumber d other name) ⊎ ((other ≡ k) × ((structure_at d p).xref ≡ Some name))
  number_before name other h = elim (cases_lt other k) [
    | inl before ↦ inl (before, h.1)
    | inr past ↦ (let f : other ≡ k = omega (arith, h.0) in let here = named_here in let there = rw f at h.1 in inr (f, cc))
  ]

  number_grows : (name : Bytes) (other : ℕ) → (other < k) × IsRecordNumber d other name → (other < k + 1) × IsRecordNumber d other name
  number_grows name other h = (omega (arith, h.0), h.1)

  module _ (level : are_at 0 (trees_between d p e) ≡ true) where
    level_here : (are_at 1 (trees_between d (p + 1) a) ≡ true) × (are_at 0 (trees_between d a e) ≡ true)
    level_here = let h = level_parts 0 (structure_at d p) (trees_between d (p + 1) a) (trees_between d a e) (rw step.first at level) in (h.1, h.2)

    pub level_next : are_at 0 (trees_between d a e) ≡ true
    level_next = level_here.1

    -- an identifier before the next record stands before this one, or is this one's
    place_before : (name : Bytes) (other : ℕ) → (other < a) × HasXref d other name → ((other < p) × HasXref d other name) ⊎ ((other ≡ p) × ((structure_at d p).xref ≡ Some name))
    place_before name other h = elim (cases_lt other p) [
      | inl before ↦ inl (before, h.1)
      | inr past ↦ elim (cases_lt p other) [
        | inr same ↦ (let f : other ≡ p = omega arith in inr (f, rw f at h.1.1))
        | inl later ↦ (let none_is = unnamed_run d 0 (p + 1) a other step.below level_here.0 (other - (p + 1)) (omega arith) h.0 in let some_is = h.1.1 in cc)
      ]
    ]

    place_grows : (name : Bytes) (other : ℕ) → (other < p) × HasXref d other name → (other < a) × HasXref d other name
    place_grows name other h = (omega (arith, h.0, step.forth), h.1)

    records_kept : (records : Names) → (structure_at d p).xref ≡ None → AreRecordsBefore d p k records → AreRecordsBefore d a (k + 1) records
    records_kept records unnamed_here are = record {
      placed = λ name other. (
        λ s. place_grows name other ((are.placed name other).0 s),
        λ h. elim (place_before name other h) [ inl old ↦ (are.placed name other).1 old | inr new ↦ (let some_is = new.1 in cc) ],
      );
      numbered = λ name other. (
        λ s. number_grows name other ((are.numbered name other).0 s),
        λ h. elim (number_before name other h) [ inl old ↦ (are.numbered name other).1 old | inr new ↦ (let some_is = new.1 in cc) ],
      );
    }

    records_more : (old new : Names) (name : Bytes) (found : RecordPlace) → found.place ≡ p → found.number ≡ k → (structure_at d p).xref ≡ Some name → found_in old name ≡ None
        → AddsName old new name found → AreRecordsBefore d p k old → AreRecordsBefore d a (k + 1) new
    records_more old new name found at_place at_number here fresh adds are = record {
      placed = λ n other.
          subst (λ (x : Option RecordPlace). (option_map (λ (r : RecordPlace). r.place) x ≡ Some other) ↔ ((other < a) × HasXref d other n)) (sym (adds n))
          (point (λ r. r.place) name n found (found_in old n) (bytes_eq name n) other ((other < p) × HasXref d other n) ((other < a) × HasXref d other n) (bytes_eq-Decides name n)
          (λ same. ap (found_in old) (sym same) ∙ fresh)
          (are.placed n other)
          (λ h. elim (place_before n other h) [ inl before ↦ inl before | inr new ↦ inr (let some_is = new.1 in cc, at_place ∙ sym new.0) ])
          (place_grows n other)
          (λ same is. let f : other ≡ p = sym is ∙ at_place in (omega (arith, f, step.forth), (omega (arith, f, step.within), rw (f, ← same) here))));
      numbered = λ n other.
          subst (λ (x : Option RecordPlace). (option_map (λ (r : RecordPlace). r.number) x ≡ Some other) ↔ ((other < k + 1) × IsRecordNumber d other n)) (sym (adds n))
          (point (λ r. r.number) name n found (found_in old n) (bytes_eq name n) other ((other < k) × IsRecordNumber d other n) ((other < k + 1) × IsRecordNumber d other n) (bytes_eq-Decides name n)
          (λ same. ap (found_in old) (sym same) ∙ fresh)
          (are.numbered n other)
          (λ h. elim (number_before n other h) [ inl before ↦ inl before | inr new ↦ inr (let some_is = new.1 in cc, at_number ∙ sym new.0) ])
          (number_grows n other)
          (λ same is. let f : other ≡ k = sym is ∙ at_number in (omega (arith, f), rw (f, ← same) (named_here ∙ ap Some here))));
    }

    -- one more record, which may have no identifier
    pub records_next : (old new : Names) (found : RecordPlace) → found.place ≡ p → found.number ≡ k → AddsRecord old new (structure_at d p).xref found true
        → AreRecordsBefore d p k old → AreRecordsBefore d a (k + 1) new
    records_next old new found at_place at_number adds are = go (structure_at d p).xref refl adds
      where
        go : (xref : Option Bytes) → (structure_at d p).xref ≡ xref → AddsRecord old new xref found true → AreRecordsBefore d a (k + 1) new
        go None here h = subst (AreRecordsBefore d a (k + 1)) (sym h.1) (records_kept old here are)
        go (Some name) here h = records_more old new name found at_place at_number here (none_of_new (found_in old name) (sym h.0)) (h.1 refl) are

    -- whose type stands by its number
    pub typed_next : (old new : Names) (types : List (Option RecordType)) (found : RecordPlace) → found.place ≡ p → found.number ≡ k
        → IsTypeOf (slice_index_or types k None) (structure_at d p).tag → AddsRecord old new (structure_at d p).xref found true → AreTyped d old types → AreTyped d new types
    typed_next old new types found at_place at_number of_type adds typed = go (structure_at d p).xref adds
      where
        go : (xref : Option Bytes) → AddsRecord old new xref found true → AreTyped d new types
        go None h = subst (λ (records : Names). AreTyped d records types) (sym h.1) typed
        go (Some name) h = λ n kept is.
            new_or_old (λ r. IsTypeOf (slice_index_or types r.number None) (structure_at d r.place).tag) found (found_in old n) (bytes_eq name n) kept (rw (at_number, at_place) of_type)
            (typed n) (sym (h.1 refl n) ∙ is)

-- ---- the records before the first one

none_some : (x : Option Bytes) (name : Bytes) → is_none x ≡ true → x ≡ Some name → ⊥
none_some None name e h = absurd (cc)
none_some (Some other) name e h = absurd (cc)

head_unnamed : (d : Trees) → is_document d ≡ true → (first other : ℕ) (name : Bytes) → first + trees_count (records_of d) ≡ trees_count d → other < first → HasXref d other name → ⊥
head_unnamed none doc first other name sum before h = absurd (omega (arith, h.0))
head_unnamed (tree s b n) doc first other name sum before h =
    let parts = level_parts 0 s b n (document_level (tree s b n) doc) in
    elim (place_cases s b n other h.0) [
      | inl here ↦ (let is_none_here = (both _ _ (both _ _ (both _ _ doc).0).0).1 in let some_is = rw (here, at_first s b n) at h.1 in none_some s.xref name is_none_here some_is)
      | inr (inl w) ↦ (let none_is = unnamed 0 b w.0 parts.1 w.1 in let some_is = rw (w.2, at_below s b n w.0 w.1) at h.1 in absurd (let g : None ≡ Some name = sym none_is ∙ some_is in cc))
      | inr (inr w) ↦ absurd (omega (arith, w.2, sum, before))
    ]

pub records_start : (d : Trees) → is_document d ≡ true → (first e : ℕ) → e ≡ trees_count d → IsRunOfTrees d first e → trees_between d first e ≡ records_of d → (records : Names)
    → ((name : Bytes) → found_in records name ≡ None) → AreRecordsBefore d first 0 records
records_start d doc first e whole run is records empty =
    let sum : first + trees_count (records_of d) ≡ trees_count d = rw (is, whole) at run.fills in
    record {
      placed = λ name other. (
        λ s. absurd (let f = empty name in let g : None ≡ Some other = sym (ap (option_map (λ (r : RecordPlace). r.place)) f) ∙ s in cc),
        λ h. absurd (head_unnamed d doc first other name sum h.0 h.1),
      );
      numbered = λ name other. (
        λ s. absurd (let f = empty name in let g : None ≡ Some other = sym (ap (option_map (λ (r : RecordPlace). r.number)) f) ∙ s in cc),
        λ h. absurd (omega (arith, h.0)),
      );
    }

pub typed_start : (d : Trees) (records : Names) (types : List (Option RecordType)) → ((name : Bytes) → found_in records name ≡ None) → AreTyped d records types
typed_start d records types empty name found is = absurd (let f = empty name in let g : None ≡ Some found = sym f ∙ is in cc)

pub records_level : (d : Trees) → is_document d ≡ true → are_at 0 (records_of d) ≡ true
records_level none doc = cc
records_level (tree s b n) doc = (level_parts 0 s b n (document_level (tree s b n) doc)).2

-- all records are found
pub records_all : (d : Trees) (p k e : ℕ) (records : Names) → e ≡ trees_count d → IsRunOfTrees d p e → trees_between d p e ≡ none
    → drop k (identifiers (records_of d)) ≡ identifiers (trees_between d p e) → AreRecordsBefore d p k records → AreRecords d records
records_all d p k e records whole run ends left are =
    let at_end : p ≡ trees_count d = let f : p + 0 ≡ e = rw ends at run.fills in omega arith in
    let few = left_none (identifiers (records_of d)) k (left ∙ ap identifiers ends) in
    record {
      placed = λ name other. (λ s. ((are.placed name other).0 s).1, λ h. (are.placed name other).1 (omega (arith, at_end, h.0), h));
      numbered = λ name other. (λ s. ((are.numbered name other).0 s).1, λ h. (are.numbered name other).1 (omega (arith, few, slice_get_within (identifiers (records_of d)) other (Some name) h), h));
    }

-- no identifier is repeated before the place of the walk
pub none_repeated : (d : Trees) (p k : ℕ) (records : Names) → AreRecordsBefore d p k records → (place : ℕ) → place < p → IsRepeated d place → ⊥
none_repeated d p k records are place before h =
    let here = (are.placed h.0 place).1 (before, h.2) in
    let there = (are.placed h.0 h.1).1 (omega (arith, h.4, before), h.3) in
    let same : place ≡ h.1 = cc in
    absurd (omega (arith, same, h.4))

found_of : (o : Option RecordPlace) → is_some o ≡ true → (found : RecordPlace) × (o ≡ Some found)
found_of None e = cc
found_of (Some found) e = (found, refl)

first_repeated : (d : Trees) (p k : ℕ) (records : Names) (name : Bytes) → AreRecordsBefore d p k records → is_some (found_in records name) ≡ true → HasXref d p name → IsLowest (IsRepeated d) p
first_repeated d p k records name are some_is here =
    let found = found_of (found_in records name) some_is in
    let there = (are.placed name found.0.place).0 (ap (option_map (λ (r : RecordPlace). r.place)) found.1) in (
      (name, found.0.place, here, there.1, there.0),
      λ other h. elim (cases_lt other p) [ inl before ↦ absurd (none_repeated d p k records are other before h) | inr past ↦ past ],
    )

some_of_old : (o : Option RecordPlace) → is_none o ≡ false → is_some o ≡ true
some_of_old None e = cc
some_of_old (Some found) e = refl

pub repeated_here : (d : Trees) (p k : ℕ) (old new : Names) (found : RecordPlace) → AddsRecord old new (structure_at d p).xref found false → p < trees_count d → AreRecordsBefore d p k old → IsLowest (IsRepeated d) p
repeated_here d p k old new found adds within are = go (structure_at d p).xref refl adds
  where
    go : (xref : Option Bytes) → (structure_at d p).xref ≡ xref → AddsRecord old new xref found false → IsLowest (IsRepeated d) p
    go None here h = let e : false ≡ true = h.0 in absurd (cc)
    go (Some name) here h = first_repeated d p k old name are (some_of_old (found_in old name) (sym h.0)) (within, here)

pub none_repeated_all : (d : Trees) (p k e : ℕ) (records : Names) → e ≡ trees_count d → IsRunOfTrees d p e → trees_between d p e ≡ none → AreRecordsBefore d p k records → (place : ℕ) → IsRepeated d place → ⊥
none_repeated_all d p k e records whole run ends are place h =
    let at_end : p ≡ trees_count d = let f : p + 0 ≡ e = rw ends at run.fills in omega arith in
    none_repeated d p k records are place (omega (arith, at_end, h.2.0)) h
