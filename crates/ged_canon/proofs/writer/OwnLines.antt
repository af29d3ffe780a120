-- Lines that are written from a document, and the lines of its canonical form.
use Rattle.std.proofs.Common.{◌≡◌, ℕ, ◌+◌, ◌<◌, ◌≤◌, true, ◌&&◌, List, [], ◌∷◌, ◌++◌, Option, Some, None, length, take, get_or, slice_get, refl, sym, ap, ◌∙◌, append_assoc, arith, codes}
use Rattle.std.specs.Prelude.{false, nat_le, not, ◌==◌}
use Rattle.std.specs.List.{list_all}
use Rattle.std.specs.Str.{bytes_eq}
use Rattle.std.proofs.lemmas.Bool.{and_parts, and_from, or_parts, leb-true, le-leb, ltb-true, true≢false, true_from_ne_false}
use Rattle.std.proofs.lemmas.Bool.Decides.{nat_tests}
use Rattle.std.proofs.lemmas.List.{take_more}
use Rattle.std.proofs.lemmas.List.Folds.{list_all_at}
use Rattle.std.proofs.lemmas.Option.{slice_get-get_or}
use Rattle.ged_line.specs.Bytes.{Bytes}
use Rattle.ged_line.specs.Characters.{is_plain}
use Rattle.ged_line.specs.Lines.{LineParts, Value, Pointer as PointerValue, line_parts, is_line, is_value, may_be_xref}
use Rattle.ged_line.specs.Names.{is_tag, is_xref}
use Rattle.ged_line.specs.Spelling.{spelling, spelled_lines}
use Rattle.ged_tree.specs.declared.payload.Payload.{Payload}
use Rattle.ged_tree.specs.declared.payload.Payload.TheVariants.{Void, Pointer, Text}
use Rattle.ged_tree.specs.Trees.{Structure, further_lines}
use Rattle.ged_tree.specs.Documents.{is_payload_at, is_structure_at}
use Rattle.ged_tree.specs.inner.DocumentParts.{is_xref_at, continued}
use Rattle.ged_tree.specs.DocumentLines.{line_value, first_value}
use Rattle.ged_tree.specs.Views.{is_pointer}
use Rattle.ged_tree.specs.inner.Walks.{HasLinesAt}
use Rattle.ged_schema.specs.Rows.{Row}
use Rattle.ged_canon.specs.declared.edition.Edition.{Edition}
use Rattle.ged_canon.specs.declared.edition.Edition.TheVariants.{First, Second}
use Rattle.ged_canon.specs.Steps.{renamed_payload}
use Rattle.ged_canon.specs.inner.StepParts.{with_identifier, is_dated, is_numeric}
use Rattle.ged_canon.specs.Normal.{IsBriefPayload}
use Rattle.ged_canon.specs.inner.Working.{is_second, may_shorten, brief, brief_line}
use Rattle.ged_canon.proofs.theory.Brief.{brief_same, brief_payload_same, brief_anyway}

-- Bytes.

pub spelled_append : (xs ys : List LineParts) → spelled_lines (xs ++ ys) ≡ spelled_lines xs ++ spelled_lines ys
spelled_append [] ys = refl
spelled_append (l ∷ xs) ys = ap (λ x. spelling l ++ (10 ∷ x)) (spelled_append xs ys) ∙ sym (append_assoc (spelling l) (10 ∷ spelled_lines xs) (spelled_lines ys))

-- what is appended behind what was appended
pub appended : (before middle after x y : Bytes) → middle ≡ before ++ x → after ≡ middle ++ y → after ≡ before ++ (x ++ y)
appended before middle after x y e f = f ∙ ap (λ m. m ++ y) e ∙ append_assoc before x y

-- Payloads.

module _ (edition : Edition) where
  -- where there is no row, nothing is left out
  pub line_no_row : (line : Bytes) → brief_line edition None line ≡ line
  line_no_row line = brief_same edition None line (brief_anyway edition line)

  module _ (r : Option Row) (p : Payload) where
    pub brief_void : Void ≡ p → brief edition r p ≡ Void
    brief_void e = ap (brief edition r) (sym e)

    pub brief_pointer : (name : Bytes) → Pointer name ≡ p → brief edition r p ≡ Pointer name
    brief_pointer name e = ap (brief edition r) (sym e)

    pub brief_alone : (line : Bytes) (further : List Bytes) → Text (line ∷ further) ≡ p → length further ≡ 0 → brief edition r p ≡ Text (brief_line edition r line ∷ [])
    brief_alone line [] e few = ap (brief edition r) (sym e)
    brief_alone line (next ∷ lines) e few = absurd (omega (arith, few))

    pub brief_many : (line : Bytes) (further : List Bytes) → Text (line ∷ further) ≡ p → 0 < length further → brief edition r p ≡ Text (line ∷ further)
    brief_many line [] e some = absurd (omega (arith, some))
    brief_many line (next ∷ lines) e some = ap (brief edition r) (sym e)

-- where the edition leaves nothing out, a payload is its own
pub unshortened : (edition : Edition) (r : Option Row) (p : Payload) → may_shorten edition r ≡ false → brief edition r p ≡ p
unshortened edition r p h = brief_payload_same edition r p (nothing p)
  where
    nothing : (q : Payload) → IsBriefPayload edition r q
    nothing Void = tt
    nothing (Pointer name) = tt
    nothing (Text []) = tt
    nothing (Text (line ∷ [])) =
        let parts = or_parts (is_dated r) (is_second edition && is_numeric r) h in
        record {
          no_calendar = λ e. absurd (true≢false (sym e ∙ parts.0));
          no_leading_zero = λ second numeric. absurd (true≢false (sym (and_from (is_second edition) (is_numeric r) (ap is_second second) numeric) ∙ parts.1));
        }
    nothing (Text (line ∷ next ∷ lines)) = tt

-- nor is a line of one
pub line_unshortened : (edition : Edition) (r : Option Row) (line : Bytes) → may_shorten edition r ≡ false → brief_line edition r line ≡ line
line_unshortened edition r line h = (let same : Text (brief_line edition r line ∷ []) ≡ Text (line ∷ []) = unshortened edition r (Text (line ∷ [])) h in cc)

pub no_row_kept : (edition : Edition) (p : Payload) → brief edition None p ≡ p
no_row_kept First p = unshortened First None p refl
no_row_kept Second p = unshortened Second None p refl

-- a pointer is not shortened
pub pointer_kept : (edition : Edition) (r : Option Row) (p : Payload) → is_pointer p ≡ true → brief edition r p ≡ p
pointer_kept edition r Void h = refl
pointer_kept edition r (Pointer name) h = refl
pointer_kept edition r (Text lines) h = absurd (true≢false (sym h))

-- any other payload has no name that is renamed
pub value_kept : (new : Bytes → Bytes) (p : Payload) → is_pointer p ≡ false → renamed_payload new p ≡ p
value_kept new Void h = refl
value_kept new (Pointer name) h = absurd (true≢false h)
value_kept new (Text lines) h = refl

-- Pieces of a line.

-- a line that is appended in three pieces
pub in_pieces : (out front rest end : Bytes) → ((out ++ front) ++ rest) ++ end ≡ out ++ ((front ++ rest) ++ end)
in_pieces out front rest end = ap (λ x. x ++ end) (append_assoc out front rest) ∙ append_assoc out (front ++ rest) end

pub further_kept : (new : Bytes → Bytes) (edition : Edition) (r : Option Row) (p : Payload) → further_lines (renamed_payload new (brief edition r p)) ≡ further_lines p
further_kept new edition r Void = refl
further_kept new edition r (Pointer name) = refl
further_kept new edition r (Text []) = refl
further_kept new edition r (Text (line ∷ [])) = refl
further_kept new edition r (Text (line ∷ next ∷ lines)) = refl

pub brief_further : (edition : Edition) (r : Option Row) (p : Payload) → further_lines (brief edition r p) ≡ further_lines p
brief_further edition r Void = refl
brief_further edition r (Pointer name) = refl
brief_further edition r (Text []) = refl
brief_further edition r (Text (line ∷ [])) = refl
brief_further edition r (Text (line ∷ next ∷ lines)) = refl

-- Lines.

-- a line with a pointer, where another name may stand
pub other_pointer : (level : ℕ) (xref : Option Bytes) (tag name other : Bytes) → is_line (line_parts level xref tag (PointerValue name)) ≡ true → is_xref other ≡ true → is_line (line_parts level xref tag (PointerValue other)) ≡ true
other_pointer level xref tag name other h k =
    let front = and_parts (nat_le level 99 && may_be_xref xref && is_tag tag) (is_xref name) h in
    and_from (nat_le level 99 && may_be_xref xref && is_tag tag) (is_xref other) front.0 k

line_shown : (line : Bytes) → is_plain line ≡ true → is_value (line_value line) ≡ true
line_shown [] h = refl
line_shown (b ∷ bs) h = and_from (not (length (b ∷ bs) == 0)) (is_plain (b ∷ bs)) (grind (arith, nat_tests)) h

-- the line of a further line of a payload
pub cont_line : (level : ℕ) (line : Bytes) → level < 99 → is_plain line ≡ true → is_line (line_parts (level + 1) None (codes "CONT") (line_value line)) ≡ true
cont_line level line low plain =
    let most : level + 1 ≤ 99 = omega arith in
    and_from (nat_le (level + 1) 99 && true && true) (is_value (line_value line))
    (and_from (nat_le (level + 1) 99 && true) true (and_from (nat_le (level + 1) 99) true (le-leb (level + 1) 99 most) refl) refl) (line_shown line plain)

continued_append : (level : ℕ) (xs ys : List Bytes) → continued level (xs ++ ys) ≡ continued level xs ++ continued level ys
continued_append level [] ys = refl
continued_append level (x ∷ xs) ys = ap (λ ls. line_parts level None (codes "CONT") (line_value x) ∷ ls) (continued_append level xs ys)

-- A structure whose tests hold has lines, whatever its identifier.

first_shown : (level : ℕ) (p : Payload) → is_payload_at level p ≡ true → is_value (first_value p) ≡ true
first_shown level Void h = refl
first_shown level (Pointer name) h = h
first_shown level (Text []) h = refl
first_shown level (Text (line ∷ [])) h = line_shown line h
first_shown level (Text (line ∷ next ∷ lines)) h =
    line_shown line ((and_parts (is_plain line) (list_all is_plain (next ∷ lines)) ((and_parts _ (list_all is_plain (line ∷ next ∷ lines)) h).1)).0)

room_below : (level : ℕ) (p : Payload) → is_payload_at level p ≡ true → 0 < length (further_lines p) → level < 99
room_below level Void h k = absurd (omega (arith, k))
room_below level (Pointer name) h k = absurd (omega (arith, k))
room_below level (Text []) h k = absurd (omega (arith, k))
room_below level (Text (line ∷ [])) h k = absurd (omega (arith, k))
room_below level (Text (line ∷ next ∷ lines)) h k = ltb-true level 99 ((and_parts _ (list_all is_plain (line ∷ next ∷ lines)) h).0)

further_plain : (level : ℕ) (p : Payload) → is_payload_at level p ≡ true → list_all is_plain (further_lines p) ≡ true
further_plain level Void h = refl
further_plain level (Pointer name) h = refl
further_plain level (Text []) h = refl
further_plain level (Text (line ∷ [])) h = refl
further_plain level (Text (line ∷ next ∷ lines)) h =
    (and_parts (is_plain line) (list_all is_plain (next ∷ lines)) ((and_parts _ (list_all is_plain (line ∷ next ∷ lines)) h).1)).1

-- the parts of a structure's test
record StructureIs (level : ℕ) (s : Structure) : Type 0 where
  shallow : nat_le level 99 ≡ true
  tag : is_tag s.tag ≡ true
  payload : is_payload_at level s.payload ≡ true

structure_is : (level : ℕ) (s : Structure) → is_structure_at level s ≡ true → StructureIs level s
structure_is level s h =
    let other = not (bytes_eq s.tag (codes "CONT")) in
    let carried = is_xref_at level s.xref && is_payload_at level s.payload in
    let parts = and_parts (nat_le level 99 && (is_tag s.tag && other)) carried h in
    let front = and_parts (nat_le level 99) (is_tag s.tag && other) parts.0 in
    record {
      shallow = front.0;
      tag = (and_parts (is_tag s.tag) other front.1).0;
      payload = (and_parts (is_xref_at level s.xref) (is_payload_at level s.payload) parts.1).1;
    }

pub lines_with : (level : ℕ) (s : Structure) (xref : Option Bytes) → is_structure_at level s ≡ true → may_be_xref xref ≡ true → HasLinesAt level (with_identifier s xref)
lines_with level s xref h named =
    let is = structure_is level s h in
    record {
      shallow = leb-true level 99 is.shallow;
      own = and_from (nat_le level 99 && may_be_xref xref && is_tag s.tag) (is_value (first_value s.payload))
          (and_from (nat_le level 99 && may_be_xref xref) (is_tag s.tag) (and_from (nat_le level 99) (may_be_xref xref) is.shallow named) is.tag)
          (first_shown level s.payload is.payload);
      room = room_below level s.payload is.payload;
      plain = further_plain level s.payload is.payload;
    }

-- Further lines, one by one.

pub at_is : (xs : List Bytes) (k : ℕ) (x : Bytes) → k < length xs → slice_get xs k ≡ Some x → get_or xs k x ≡ x
at_is xs k x within e = let q : Some (get_or xs k x) ≡ Some x = sym (slice_get-get_or xs k x within) ∙ e in cc

pub plain_at : (xs : List Bytes) (k : ℕ) (x : Bytes) → list_all is_plain xs ≡ true → k < length xs → slice_get xs k ≡ Some x → is_plain x ≡ true
plain_at xs k x h within e =
    true_from_ne_false (is_plain x) (λ f. true≢false (sym h ∙ list_all_at is_plain xs k x within (ap is_plain (at_is xs k x within e) ∙ f)))

-- a CONT line more
pub further_more : (start out more : Bytes) (level : ℕ) (xs : List Bytes) (k : ℕ) (x : Bytes) (v : Value) → k < length xs → slice_get xs k ≡ Some x → v ≡ line_value x
    → out ≡ start ++ spelled_lines (continued level (take k xs))
    → more ≡ out ++ (spelling (line_parts level None (codes "CONT") v) ++ 10 ∷ [])
    → more ≡ start ++ spelled_lines (continued level (take (k + 1) xs))
further_more start out more level xs k x v within e is told written =
    let next : take (k + 1) xs ≡ take k xs ++ x ∷ [] = take_more xs k x within ∙ ap (λ y. take k xs ++ y ∷ []) (at_is xs k x within e) in
    let lines : spelled_lines (continued level (take (k + 1) xs)) ≡ spelled_lines (continued level (take k xs)) ++ spelled_lines (continued level (x ∷ [])) =
    ap (λ ls. spelled_lines (continued level ls)) next ∙ ap spelled_lines (continued_append level (take k xs) (x ∷ [])) ∙ spelled_append (continued level (take k xs)) (continued level (x ∷ [])) in
    appended start out more (spelled_lines (continued level (take k xs))) (spelled_lines (continued level (x ∷ []))) told (written ∙ ap (λ w. out ++ (spelling (line_parts level None (codes "CONT") w) ++ 10 ∷ [])) is)
    ∙ ap (λ y. start ++ y) (sym lines)
