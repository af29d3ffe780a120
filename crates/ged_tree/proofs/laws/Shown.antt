-- What a document has as its lines are lines.
use Rattle.std.proofs.Common.{◌≡◌, ℕ, ◌+◌, ◌<◌, ◌^◌, true, ◌==◌, not, List, [], ◌∷◌, ◌++◌, length, Option, Some, None, refl, sym, subst, arith, codes}
use Rattle.std.specs.Prelude.{nat_lt, nat_le}
use Rattle.std.specs.List.{list_all}
use Rattle.std.proofs.lemmas.Bool.{true≢false, le-leb, ltb-true, and_parts, and_from}
use Rattle.std.proofs.lemmas.Bool.Decides.{nat_tests}
use Rattle.ged_line.specs.Bytes.{Bytes}
use Rattle.ged_line.specs.Characters.{is_plain}
use Rattle.ged_line.specs.Names.{is_tag, is_xref}
use Rattle.ged_line.specs.Lines.{LineParts, line_parts, is_line, is_value, may_be_xref, Value}
use Rattle.ged_tree.specs.Trees.{Trees, none, tree, further_lines}
use Rattle.ged_tree.specs.Documents.{is_payload_at, are_at, is_document, HasLines}
use Rattle.ged_tree.specs.inner.DocumentParts.{is_xref_at, continued}
use Rattle.ged_tree.specs.declared.payload.Payload.{Payload}
use Rattle.ged_tree.specs.declared.payload.Payload.TheVariants.{Void, Pointer, Text}
use Rattle.ged_tree.specs.DocumentLines.{line_value, first_value, structure_lines, lines_of, document_lines}
use Rattle.ged_tree.specs.inner.Trailers.{trailer_line}
use Rattle.ged_tree.proofs.theory.LinesAgain.{tree_is, document_is}

text_shown : (text : Bytes) → is_plain text ≡ true → is_value (line_value text) ≡ true
text_shown [] h = refl
text_shown (b ∷ bs) h = and_from _ _ (some b bs) h
  where
    some : (b : ℕ) (bs : Bytes) → not (length (b ∷ bs) == 0) ≡ true
    some b bs = grind (arith, nat_tests)

value_shown : (level : ℕ) (p : Payload) → is_payload_at level p ≡ true → is_value (first_value p) ≡ true
value_shown level Void h = refl
value_shown level (Pointer name) h = h
value_shown level (Text []) h = refl
value_shown level (Text (line ∷ [])) h = text_shown line h
value_shown level (Text (line ∷ next ∷ lines)) h =
    let p = and_parts (nat_lt level 99) (list_all is_plain (line ∷ next ∷ lines)) h in
    text_shown line (and_parts (is_plain line) (list_all is_plain (next ∷ lines)) p.1).0

line_shown : (level : ℕ) (xref : Option Bytes) (tag : Bytes) (v : Value) → nat_le level 99 ≡ true → may_be_xref xref ≡ true
    → is_tag tag ≡ true → is_value v ≡ true → is_line (line_parts level xref tag v) ≡ true
line_shown level xref tag v a b c d = and_from _ _ (and_from _ _ (and_from _ _ a b) c) d

conts_shown : (level : ℕ) (texts : List Bytes) → nat_le level 99 ≡ true → list_all is_plain texts ≡ true
    → list_all is_line (continued level texts) ≡ true
conts_shown level [] a p = refl
conts_shown level (text ∷ texts) a p =
    let q = and_parts (is_plain text) (list_all is_plain texts) p in
    and_from _ _ (line_shown level None (codes "CONT") (line_value text) a refl refl (text_shown text q.0)) (conts_shown level texts a q.1)

further_shown : (level : ℕ) (p : Payload) → is_payload_at level p ≡ true → list_all is_line (continued (level + 1) (further_lines p)) ≡ true
further_shown level Void h = refl
further_shown level (Pointer name) h = refl
further_shown level (Text []) h = refl
further_shown level (Text (line ∷ [])) h = refl
further_shown level (Text (line ∷ next ∷ lines)) h =
    let p = and_parts (nat_lt level 99) (list_all is_plain (line ∷ next ∷ lines)) h in
    let low = ltb-true level 99 p.0 in
    conts_shown (level + 1) (next ∷ lines) (le-leb (level + 1) 99 (omega arith)) (and_parts (is_plain line) (list_all is_plain (next ∷ lines)) p.1).1

xref_shown : (level : ℕ) (xref : Option Bytes) → is_xref_at level xref ≡ true → may_be_xref xref ≡ true
xref_shown level None h = refl
xref_shown level (Some name) h = (and_parts (level == 0) (is_xref name) h).1

all_append : (xs ys : List LineParts) → list_all is_line xs ≡ true → list_all is_line ys ≡ true → list_all is_line (xs ++ ys) ≡ true
all_append [] ys h k = k
all_append (x ∷ xs) ys h k = let u = and_parts (is_line x) (list_all is_line xs) h in and_from _ _ u.0 (all_append xs ys u.1 k)

trees_shown : (level : ℕ) (w : Trees) → are_at level w ≡ true → list_all is_line (lines_of level w) ≡ true
trees_shown level none a = refl
trees_shown level (tree s b n) a =
    let t = tree_is level s b n a in
    let own = line_shown level s.xref s.tag (first_value s.payload) t.small (xref_shown level s.xref t.xref) t.tag (value_shown level s.payload t.payload) in
    let first : list_all is_line (structure_lines level s) ≡ true = and_from _ _ own (further_shown level s.payload t.payload) in
    let front = all_append (structure_lines level s) (lines_of (level + 1) b) first (trees_shown (level + 1) b t.below_is) in
    all_append (structure_lines level s ++ lines_of (level + 1) b) (lines_of level n) front (trees_shown level n t.next_is)

document_shown : (w : Trees) → is_document w ≡ true → (list_all is_line (document_lines w) ≡ true) × (length (document_lines w) < 2 ^ 63)
document_shown none h = absurd (true≢false (sym h))
document_shown (tree s b n) h =
    let d = document_is s b n h in
    let w = tree s b n in
    let few = ltb-true (length (document_lines w)) (2 ^ 63) d.few in
    (all_append (lines_of 0 w) (trailer_line ∷ []) (trees_shown 0 w d.placed) refl, few)

pub shown : (w : Trees) (lines : List LineParts) → HasLines w lines → (list_all is_line lines ≡ true) × (length lines < 2 ^ 63)
shown w lines h = subst (λ (ls : List LineParts). (list_all is_line ls ≡ true) × (length ls < 2 ^ 63)) (sym h.told) (document_shown w h.allowed)
