-- A flat table lists a document's structures.
use Rattle.std.proofs.Common.{true, false, take, drop, [], ◌∷◌, Some, slice_get, inl, inr, ◌≡◌, ℕ, suc, zero, ◌+◌, ◌-◌, ◌^◌, ◌<◌, ◌≤◌, List, length, get_or, sym, subst, ◌∙◌, ap, refl, arith, ◌++◌, decimal, length-append}
use Rattle.std.specs.Option.{option_map}
use Rattle.std.specs.List.{AllByRecursion}
use Rattle.std.proofs.lemmas.List.{length-map, get_or_default, length-take, length-drop, get_or-take, get_or-drop}
use Rattle.std.proofs.lemmas.Option.{slice_get-get_or, slice_get-map}
use Rattle.std.proofs.Math.Nat.{min-le_left, min-le_right}
use Rattle.ged_line.specs.Bytes.{Bytes}
use Rattle.ged_line.specs.Lines.{LineParts, xref_part, is_value, Value, Empty, Void, Pointer, Text}
use Rattle.ged_line.specs.Spelling.{LineText, value_part}
use Rattle.ged_line.proofs.CallerLemmas.{in_parts}
use Rattle.ged_tree.proofs.theory.LineParts.{line_is, bool_cases}
use Rattle.std.proofs.lemmas.Bool.Decides.{nat_tests}
use Rattle.std.specs.Prelude.{nat_lt, nat_le}
use Rattle.std.proofs.lemmas.Bool.{true≢false, cases_lt, ltb-false}
use Rattle.ged_tree.specs.Trees.{Trees, none, tree, trees_count, further_lines, line_count, lines_count}
use Rattle.ged_tree.specs.Places.{structure_at, below_at, place_after, level_at, line_at}
use Rattle.ged_tree.specs.Views.{payload_of, is_pointer}
use Rattle.ged_tree.specs.Spelled.{payload_from}
use Rattle.ged_tree.specs.DocumentLines.{line_value, first_value, rest_of_line}
use Rattle.ged_tree.specs.inner.Tables.{own_value}
use Rattle.ged_tree.specs.Rows.{TableRow, row_of, rows_from, texts_of, places_of, further_before, further_at, flat_trees, Further, further_of, IsListed, IsFlat, IsSpelled, line_shown, Shown, shown_from, shown_with, text_at, kept_level, kept_levels, kept_further, kept_tag_length, kept_points, names_record, HasSlice, deeper}
use Rattle.ged_tree.specs.inner.Rows.{rest_of}
use Rattle.ged_tree.specs.declared.forest.payload.PayloadView.{PayloadView}
use Rattle.ged_tree.specs.declared.forest.payload.PayloadView.TheVariants as views
use Rattle.ged_tree.specs.declared.payload.Payload.TheVariants.{Text as Texts}
use Rattle.ged_tree.specs.declared.forest.continuations.FurtherTable.{FurtherTable}
use Rattle.ged_tree.specs.declared.table.closing.Sizes.{Sizes}
use Rattle.ged_tree.specs.declared.table.packed.KeptStructure.{KeptStructure}
use Rattle.ged_tree.specs.declared.table.packed.TextApart.{TextApart}
use Rattle.ged_tree.proofs.theory.Walks.{line_first, line_below, line_next, few_of_document}
use Rattle.ged_tree.proofs.theory.RowsAtPlaces.{length-rows_of, rows_at, row_at}
use Rattle.ged_tree.proofs.table.PackedStructures.{length-shown, levels_behind, shown_here, slice_at}

-- the payload as seen, with its own further lines
pub view_again : (v : PayloadView) (value : Value) (further : List Bytes) → own_value v ≡ value
    → payload_of v (further_lines (payload_from value further)) ≡ payload_from value further
view_again views.Void value further e = rw (← e) refl
view_again (views.Pointer name) value further e = rw (← e) refl
view_again (views.Text first) value further e = rw (← e) (text_again first.now)
  where
    text_again : (text : Bytes) → Texts (text ∷ further_lines (payload_from (line_value text) further)) ≡ payload_from (line_value text) further
    text_again [] = refl
    text_again (b ∷ bs) = refl

-- a value is a pointer where its payload is one, and it is the payload's first
points_from : (v : Value) (further : List Bytes) → names_record v ≡ is_pointer (payload_from v further)
points_from Empty further = refl
points_from Void further = refl
points_from (Pointer name) further = refl
points_from (Text text) further = refl

first_from : (v : Value) (further : List Bytes) → is_value v ≡ true → first_value (payload_from v further) ≡ v
first_from Empty further i = refl
first_from Void further i = refl
first_from (Pointer name) further i = refl
first_from (Text []) further i = absurd (true≢false (sym i))
first_from (Text (c ∷ cs)) further i = refl

further_kept : (v : Value) (lines : List (Bytes)) (n : ℕ) → n < length (further_lines (payload_from v lines)) → further_lines (payload_from v lines) ≡ lines
further_kept Empty lines n h = refl
further_kept Void lines n h = absurd (omega arith)
further_kept (Pointer name) lines n h = absurd (omega arith)
further_kept (Text text) lines n h = refl

-- an element of a part of a list stands in the list
part_at : (xs : List (Bytes)) (start count n : ℕ) → n < length (take count (drop start xs)) → (start + n < length xs) × (slice_get (take count (drop start xs)) n ≡ slice_get xs (start + n))
part_at xs start count n h =
    let size = length-take count (drop start xs) in
    let few : n < count = omega (arith, h, size, min-le_left count (length (drop start xs))) in
    let within : start + n < length xs = omega (arith, h, size, min-le_right count (length (drop start xs)), length-drop start xs) in
    (within, slice_get-get_or _ n [] h ∙ ap Some (get_or-take count (drop start xs) n [] few ∙ get_or-drop start xs n []) ∙ sym (slice_get-get_or xs (start + n) [] within))

length-rows_from : (texts : List Bytes) (afters : List ℕ) (place : ℕ) (items : List Shown) → length (rows_from texts afters place items) ≡ length items
length-rows_from texts afters place [] = refl
length-rows_from texts afters place (s ∷ rest) = ap suc (length-rows_from texts afters (place + 1) rest)

rows_from_at : (texts : List Bytes) (afters : List ℕ) (place : ℕ) (items : List Shown) (i : ℕ) (s : Shown) (d : TableRow) → i < length items → s ≡ get_or items i s
    → get_or (rows_from texts afters place items) i d ≡ row_of texts afters (place + i) s (drop (i + 1) items)
rows_from_at texts afters place [] i s d h e = absurd (omega (arith, h))
rows_from_at texts afters place (x ∷ rest) zero s d h e = (let z : place + 0 ≡ place = omega arith in rw (z, e) refl)
rows_from_at texts afters place (x ∷ rest) (suc i) s d h e =
    let z : (place + 1) + i ≡ place + suc i = omega arith in
    let y : suc i + 1 ≡ suc (i + 1) = omega arith in
    rw (rows_from_at texts afters (place + 1) rest i s d (omega (arith, h)) e, z, y) refl

pub spelled_at : (xs : List Shown) (i : ℕ) (s : Shown) → i < length xs → s ≡ get_or xs i s → AllByRecursion IsSpelled xs → IsSpelled s
spelled_at [] i s h e a = absurd (omega arith)
spelled_at (x ∷ xs) zero s h e a = subst IsSpelled (sym e) a.0
spelled_at (x ∷ xs) (suc i) s h e a = spelled_at xs i s (omega arith) e a.1

pub nothing : (lines : List Bytes) → length lines ≡ 0 → lines ≡ []
nothing [] e = refl
nothing (line ∷ lines) e = absurd (omega (arith, e))

-- further lines before a place are some of all, and some of those before the next place
pub before_within : (place : ℕ) (afters : List ℕ) → further_before place afters ≤ length afters
before_within place [] = omega arith
before_within place (after ∷ afters) = elim (bool_cases (nat_le after place)) [
  | inl t ↦ rw t (let rest = before_within place afters in omega (arith, rest))
  | inr f ↦ rw f (omega arith)
]

pub before_next : (place : ℕ) (afters : List ℕ) → further_before place afters ≤ further_before (place + 1) afters
before_next place [] = omega arith
before_next place (after ∷ afters) = elim (bool_cases (nat_le after place)) [
  | inl t ↦ (let also : nat_le after (place + 1) ≡ true = grind (arith, nat_tests) in rw (t, also) (let rest = before_next place afters in omega (arith, rest)))
  | inr f ↦ rw f (omega arith)
]

-- for places that no structure has
abbrev no_structure : Shown
no_structure = record { text = []; level = 0; tag_start = 0; tag_length = 0; points = false; has_further = false }

-- a structure begins before the lines of its trees end
line_within : (l : ℕ) (w : Trees) (p : ℕ) → p < trees_count w → line_at l w p < l + lines_count w
line_within l none p h = absurd (omega (arith, h))
line_within l (tree s b n) p h = elim (cases_lt 0 p) [
  | inr first ↦ (let e : p ≡ 0 = omega arith in rw (line_first l s b n p e) (omega arith))
  | inl later ↦ elim (cases_lt (trees_count b) p) [
    | inl past ↦ rw (line_next l s b n p past) (omega (arith, line_within (l + (line_count s.payload + lines_count b)) n (p - 1 - trees_count b) (omega (arith, h))))
    | inr near ↦ rw (line_below l s b n p later near) (omega (arith, line_within (l + line_count s.payload) b (p - 1) (omega arith)))
  ]
]

module _ (structures : List Shown) (further : List Further) (flat : IsListed structures further) where
  pub flat_count : length structures ≡ trees_count (flat_trees structures further)
  flat_count =
      sym (length-rows_from (texts_of further) (places_of further) 0 structures)
      ∙ ap (λ (es : List TableRow). length es) flat.listed
      ∙ length-rows_of 0 0 1 (flat_trees structures further)

  pub flat_at : (place : ℕ) (s : Shown) → place < length structures → s ≡ get_or structures place s
      → row_of (texts_of further) (places_of further) place s (drop (place + 1) structures) ≡ row_at 0 0 1 (flat_trees structures further) place
  flat_at place s h e =
      let texts = texts_of further in
      let afters = places_of further in
      let d : TableRow = row_of texts afters place s [] in
      let z : 0 + place ≡ place = omega arith in
      ap (λ (p : ℕ). row_of texts afters p s (drop (place + 1) structures)) (sym z)
      ∙ sym (rows_from_at texts afters 0 structures place s d h e)
      ∙ ap (λ (es : List TableRow). get_or es place d) flat.listed
      ∙ rows_at 0 0 1 (flat_trees structures further) place d (omega (arith, flat_count))

  pub flat_spelled : (place : ℕ) (s : Shown) → place < length structures → s ≡ get_or structures place s → IsSpelled s
  flat_spelled place s h e = spelled_at structures place s h e flat.spelled

  -- a structure's line is one of the document's
  pub flat_line : (place : ℕ) → place < length structures → line_at 1 (flat_trees structures further) place < 2 ^ 63
  flat_line place h =
      let w = flat_trees structures further in
      omega (arith, line_within 1 w place (omega (arith, h, flat_count)), (few_of_document w flat.document).1)

  pub flat_further : (place n : ℕ) → place < length structures → n < length (further_lines (structure_at (flat_trees structures further) place).payload)
      → (further_before place (places_of further) + n < length further) × (slice_get (further_lines (structure_at (flat_trees structures further) place).payload) n ≡ option_map (λ line. line.text) (slice_get further (further_before place (places_of further) + n)))
  unfolding structure_at
  flat_further place n h k =
      let texts = texts_of further in
      let afters = places_of further in
      let start = further_before place afters in
      let count = further_at place afters in
      let s = get_or structures place no_structure in
      let is : s ≡ get_or structures place s = get_or_default structures place no_structure s h in
      let part = take count (drop start texts) in
      let same : further_lines (payload_from (line_shown s).value part) ≡ further_lines (structure_at (flat_trees structures further) place).payload = ap (λ (x : TableRow). further_lines x.structure.payload) (flat_at place s h is) in
      let inside : n < length (further_lines (payload_from (line_shown s).value part)) = rw (← same) at k in
      let kept : further_lines (payload_from (line_shown s).value part) ≡ part = further_kept (line_shown s).value part n inside in
      let at = part_at texts start count n (rw kept at inside) in
      (omega (arith, at.0, length-map further (λ (line : Further). line.text)), ap (λ (xs : List (Bytes)). slice_get xs n) (sym same ∙ kept) ∙ at.1 ∙ slice_get-map (λ (line : Further). line.text) further (start + n))

  -- the further lines of a structure stand side by side
  pub flat_lines : (place : ℕ) → place < length structures
      → take (further_at place (places_of further)) (drop (further_before place (places_of further)) (texts_of further)) ≡ further_lines (structure_at (flat_trees structures further) place).payload
  unfolding structure_at
  flat_lines place h =
      let texts = texts_of further in
      let afters = places_of further in
      let start = further_before place afters in
      let count = further_at place afters in
      let s = get_or structures place no_structure in
      let part = take count (drop start texts) in
      let row = flat_at place s h (get_or_default structures place no_structure s h) in
      let same : further_lines (payload_from (line_shown s).value part) ≡ further_lines (structure_at (flat_trees structures further) place).payload = ap (λ (x : TableRow). further_lines x.structure.payload) row in
      let many : count ≡ length (further_lines (payload_from (line_shown s).value part)) = ap (λ (x : TableRow). x.further) row ∙ ap (λ (xs : List Bytes). length xs) (sym same) in
      elim (cases_lt 0 count) [
        | inl some ↦ sym (further_kept (line_shown s).value part 0 (omega (arith, some, many))) ∙ same
        | inr few ↦ (let zero : count ≡ 0 = omega (arith, few) in rw zero (sym (nothing (further_lines (structure_at (flat_trees structures further) place).payload) (omega (arith, zero, many, ap (λ (xs : List Bytes). length xs) same)))))
      ]

  pub flat_goes_on : (place : ℕ) (s : Shown) → place < length structures → s ≡ get_or structures place s → s.has_further ≡ nat_lt 0 (length (further_lines (structure_at (flat_trees structures further) place).payload))
  unfolding structure_at
  flat_goes_on place s h e = ap (λ (x : TableRow). x.goes_on) (flat_at place s h e)

  pub flat_alone : (place : ℕ) (s : Shown) → place < length structures → s ≡ get_or structures place s → s.has_further ≡ false → length (further_lines (structure_at (flat_trees structures further) place).payload) ≡ 0
  flat_alone place s h e alone =
      let few = ltb-false 0 (length (further_lines (structure_at (flat_trees structures further) place).payload)) (sym (flat_goes_on place s h e) ∙ alone) in
      omega (arith, few)

  pub flat_number : (place : ℕ) → place < length structures → place + further_before place (places_of further) + 1 ≡ line_at 1 (flat_trees structures further) place
  flat_number place h =
      let s = get_or structures place no_structure in
      ap (λ (x : TableRow). x.line) (flat_at place s h (get_or_default structures place no_structure s h))

-- a line has a text
some_text : (line : LineParts) (text : Bytes) → LineText line text → ¬ (text ≡ [])
some_text line text whole e =
    let t = in_parts line text whole in
    let size = ap (λ (bs : Bytes). length bs) (sym e ∙ t.spelled) in
    omega (arith, size, length-append (decimal line.level) (32 ∷ (xref_part line.xref ++ (line.tag ++ t.value_part))))

-- the structure at a place shows its parts
pub record ShowsAt (w : Trees) (place : ℕ) (s : Shown) : Type 0 where
  pub tag : (line_shown s).tag ≡ (structure_at w place).tag
  pub xref : (line_shown s).xref ≡ (structure_at w place).xref
  pub payload : (v : PayloadView) → own_value v ≡ (line_shown s).value → payload_of v (further_lines (structure_at w place).payload) ≡ (structure_at w place).payload
  pub rest : rest_of (line_shown s) ≡ rest_of_line (structure_at w place)
  pub spelled : IsSpelled s

-- a structure as it is kept
module _ (file : Bytes) (apart : List TextApart) (structures : List KeptStructure) (sizes : Sizes) (table : FurtherTable) (flat : IsFlat file apart structures sizes table) where
  abbrev all : List Shown
  all = shown_from file apart 0 structures

  abbrev further : List Further
  further = further_of file table

  size : length all ≡ length structures
  size = length-shown file apart 0 structures

  pub kept_count : length structures ≡ trees_count (flat_trees all further)
  kept_count = sym size ∙ flat_count all further flat.lists

  module _ (place : ℕ) (s : KeptStructure) (h : place < length structures) (is : s ≡ get_or structures place s) where
    abbrev here : Shown
    here = shown_with (text_at file apart place s) s

    within : place < length all
    within = omega (arith, h, size)

    stands : here ≡ get_or all place here
    stands = sym (shown_here file apart structures place s here h is)

    pub kept_row : row_of (texts_of further) (places_of further) place here (drop (place + 1) all) ≡ row_at 0 0 1 (flat_trees all further) place
    kept_row = flat_at all further flat.lists place here within stands

    pub kept_spelled : IsSpelled here
    kept_spelled = flat_spelled all further flat.lists place here within stands

    pub kept_slice : HasSlice file s
    kept_slice = slice_at file structures place s h is flat.slices

    pub kept_text : ¬ (text_at file apart place s ≡ [])
    kept_text = some_text (line_shown here) (text_at file apart place s) kept_spelled.0

    pub kept_goes_on : kept_further s ≡ nat_lt 0 (length (further_lines (structure_at (flat_trees all further) place).payload))
    kept_goes_on = flat_goes_on all further flat.lists place here within stands

    pub kept_alone : kept_further s ≡ false → length (further_lines (structure_at (flat_trees all further) place).payload) ≡ 0
    kept_alone alone = flat_alone all further flat.lists place here within stands alone

    pub kept_level_is : kept_level s ≡ level_at 0 (flat_trees all further) place
    kept_level_is = ap (λ (x : TableRow). x.level) kept_row

    pub kept_after : place + (1 + deeper (kept_level s) (kept_levels (drop (place + 1) structures))) ≡ place_after (flat_trees all further) place
    unfolding below_at place_after
    kept_after =
        let told = ap (λ (x : TableRow). x.after) kept_row in
        let same = ap (λ (ls : List ℕ). deeper (kept_level s) ls) (levels_behind file apart (place + 1) 0 structures) in
        omega (arith, told, same)

    pub kept_shows : (text : Bytes) → text ≡ text_at file apart place s → ShowsAt (flat_trees all further) place (shown_with text s)
    unfolding structure_at
    kept_shows text e = subst (λ (bs : Bytes). ShowsAt (flat_trees all further) place (shown_with bs s)) (sym e) (record {
      tag = ap (λ (x : TableRow). x.structure.tag) kept_row;
      xref = ap (λ (x : TableRow). x.structure.xref) kept_row;
      payload = λ v same. rw (← (ap (λ (x : TableRow). x.structure.payload) kept_row)) (view_again v (line_shown here).value _ same);
      rest =
          let first = first_from (line_shown here).value _ (line_is (line_shown here) kept_spelled.0.is_line).value in
          ap (λ (v : Value). (line_shown here).tag ++ value_part v) (sym first) ∙ ap (λ (x : TableRow). rest_of_line x.structure) kept_row;
      spelled = kept_spelled;
    })

    -- a structure's mark tells whether it has a pointer
    pub kept_pointer : 0 < kept_tag_length s → kept_points s ≡ is_pointer (structure_at (flat_trees all further) place).payload
    unfolding structure_at
    kept_pointer some =
        (kept_spelled.1 some).1 ∙ points_from (line_shown here).value _ ∙ ap (λ (x : TableRow). is_pointer x.structure.payload) kept_row
