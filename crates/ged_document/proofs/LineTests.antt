-- What the tests of a document say of its structures' lines.
use Rattle.std.proofs.Common.{◌≡◌, ℕ, ◌+◌, ◌<◌, Bool, true, ◌&&◌, ◌==◌, not, nat_le, nat_lt, [], ◌∷◌, Option, Some, None, length, refl, arith, codes}
use Rattle.std.specs.List.{list_all}
use Rattle.std.specs.Str.{bytes_eq}
use Rattle.std.proofs.lemmas.Bool.{ltb-true, leb-true, and_parts}
use Rattle.std.proofs.lemmas.Bool.Decides.{nat_tests}
use Rattle.ged_line.specs.Bytes.{Bytes}
use Rattle.ged_line.specs.Characters.{is_plain}
use Rattle.ged_line.specs.Lines.{is_value, may_be_xref}
use Rattle.ged_line.specs.Names.{is_tag, is_xref}
use Rattle.ged_tree.proofs.CallerLemmas.{at_of_document}
use Rattle.ged_tree.specs.Trees.{Structure, Trees, none, tree, further_lines}
use Rattle.ged_tree.specs.Documents.{is_document, is_structure_at, is_payload_at, are_at}
use Rattle.ged_tree.specs.inner.DocumentParts.{is_xref_at}
use Rattle.ged_tree.specs.DocumentLines.{first_value, line_value}
use Rattle.ged_tree.specs.inner.Walks.{are_levels, HasLinesAt, HaveLinesAt}
use Rattle.ged_tree.specs.declared.payload.Payload.{Payload}
use Rattle.ged_tree.specs.declared.payload.Payload.TheVariants.{Void, Pointer, Text}

and_left : (a b : Bool) → (a && b) ≡ true → a ≡ true
and_left a b h = (and_parts a b h).0

and_right : (a b : Bool) → (a && b) ≡ true → b ≡ true
and_right a b h = (and_parts a b h).1

and_true : (a b : Bool) → a ≡ true → b ≡ true → (a && b) ≡ true
and_true a b e f = rw (e, f) refl

-- the parts of a structure's test
pub record StructureIs (l : ℕ) (s : Structure) : Type 0 where
  pub level : nat_le l 99 ≡ true
  pub tag : is_tag s.tag ≡ true
  pub xref : is_xref_at l s.xref ≡ true
  pub payload : is_payload_at l s.payload ≡ true

pub structure_is : (l : ℕ) (s : Structure) → is_structure_at l s ≡ true → StructureIs l s
structure_is l s h =
    let other : Bool = not (bytes_eq s.tag (codes "CONT")) in
    let named : Bool = is_tag s.tag && other in
    let carried : Bool = is_xref_at l s.xref && is_payload_at l s.payload in
    let front : (nat_le l 99 && named) ≡ true = and_left (nat_le l 99 && named) carried h in
    let back : carried ≡ true = and_right (nat_le l 99 && named) carried h in
    record {
      level = and_left (nat_le l 99) named front;
      tag = and_left (is_tag s.tag) other (and_right (nat_le l 99) named front);
      xref = and_left (is_xref_at l s.xref) (is_payload_at l s.payload) back;
      payload = and_right (is_xref_at l s.xref) (is_payload_at l s.payload) back;
    }

-- what stands at its levels has levels to 99
levels_of : (l : ℕ) (w : Trees) → are_at l w ≡ true → are_levels l w ≡ true
levels_of l none h = refl
levels_of l (tree s b n) h =
    let own : is_structure_at l s ≡ true = and_left (is_structure_at l s) (are_at (l + 1) b && are_at l n) h in
    let rest : (are_at (l + 1) b && are_at l n) ≡ true = and_right (is_structure_at l s) (are_at (l + 1) b && are_at l n) h in
    and_true (nat_le l 99) (are_levels (l + 1) b && are_levels l n)
    (structure_is l s own).level
    (and_true (are_levels (l + 1) b) (are_levels l n)
    (levels_of (l + 1) b (and_left (are_at (l + 1) b) (are_at l n) rest))
    (levels_of l n (and_right (are_at (l + 1) b) (are_at l n) rest)))

-- the trees of a document stand at their levels
pub levels_of_document : (w : Trees) → is_document w ≡ true → are_levels 0 w ≡ true
levels_of_document w h = levels_of 0 w (at_of_document w h)

xref_of : (l : ℕ) (x : Option Bytes) → is_xref_at l x ≡ true → may_be_xref x ≡ true
xref_of l None h = refl
xref_of l (Some name) h = and_right (l == 0) (is_xref name) h

value_of_line : (line : Bytes) → is_plain line ≡ true → is_value (line_value line) ≡ true
value_of_line [] h = refl
value_of_line (b ∷ bs) h = and_true (not (length (b ∷ bs) == 0)) (is_plain (b ∷ bs)) (grind (arith, nat_tests)) h

value_of : (l : ℕ) (p : Payload) → is_payload_at l p ≡ true → is_value (first_value p) ≡ true
value_of l Void h = refl
value_of l (Pointer name) h = h
value_of l (Text []) h = refl
value_of l (Text (line ∷ [])) h = value_of_line line h
value_of l (Text (line ∷ next ∷ lines)) h =
    value_of_line line (and_left (is_plain line) (list_all is_plain (next ∷ lines)) (and_right (nat_lt l 99) (list_all is_plain (line ∷ next ∷ lines)) h))

room_of : (l : ℕ) (p : Payload) → is_payload_at l p ≡ true → 0 < length (further_lines p) → l < 99
room_of l Void h k = absurd (omega (arith, k))
room_of l (Pointer name) h k = absurd (omega (arith, k))
room_of l (Text []) h k = absurd (omega (arith, k))
room_of l (Text (line ∷ [])) h k = absurd (omega (arith, k))
room_of l (Text (line ∷ next ∷ lines)) h k = ltb-true l 99 (and_left (nat_lt l 99) (list_all is_plain (line ∷ next ∷ lines)) h)

plain_of : (l : ℕ) (p : Payload) → is_payload_at l p ≡ true → list_all is_plain (further_lines p) ≡ true
plain_of l Void h = refl
plain_of l (Pointer name) h = refl
plain_of l (Text []) h = refl
plain_of l (Text (line ∷ [])) h = refl
plain_of l (Text (line ∷ next ∷ lines)) h =
    and_right (is_plain line) (list_all is_plain (next ∷ lines)) (and_right (nat_lt l 99) (list_all is_plain (line ∷ next ∷ lines)) h)

has_lines : (l : ℕ) (s : Structure) → is_structure_at l s ≡ true → HasLinesAt l s
has_lines l s h =
    let is = structure_is l s h in
    let a : (nat_le l 99 && may_be_xref s.xref) ≡ true = and_true (nat_le l 99) (may_be_xref s.xref) is.level (xref_of l s.xref is.xref) in
    let b : (nat_le l 99 && may_be_xref s.xref && is_tag s.tag) ≡ true = and_true (nat_le l 99 && may_be_xref s.xref) (is_tag s.tag) a is.tag in
    record {
      shallow = leb-true l 99 is.level;
      own = and_true (nat_le l 99 && may_be_xref s.xref && is_tag s.tag) (is_value (first_value s.payload)) b (value_of l s.payload is.payload);
      room = room_of l s.payload is.payload;
      plain = plain_of l s.payload is.payload;
    }

have_lines : (l : ℕ) (w : Trees) → are_at l w ≡ true → HaveLinesAt l w
have_lines l none h = tt
have_lines l (tree s b n) h =
    let own : is_structure_at l s ≡ true = and_left (is_structure_at l s) (are_at (l + 1) b && are_at l n) h in
    let rest : (are_at (l + 1) b && are_at l n) ≡ true = and_right (is_structure_at l s) (are_at (l + 1) b && are_at l n) h in
    (has_lines l s own, have_lines (l + 1) b (and_left (are_at (l + 1) b) (are_at l n) rest), have_lines l n (and_right (are_at (l + 1) b) (are_at l n) rest))

-- the structures of a document have lines
pub lines_of_document : (w : Trees) → is_document w ≡ true → HaveLinesAt 0 w
lines_of_document w h = have_lines 0 w (at_of_document w h)
