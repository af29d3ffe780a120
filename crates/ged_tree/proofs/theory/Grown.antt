-- Lines without a fault make a document.
use Rattle.std.proofs.Common.{◌≡◌, ℕ, ◌+◌, ◌<◌, ◌≤◌, ◌^◌, Bool, true, false, ◌||◌, ◌&&◌, ◌==◌, not, List, [], ◌∷◌, ◌⊎◌, length, Option, Some, None, refl, sym, ap, arith, inl, inr, length-append, codes}
use Rattle.std.specs.Prelude.{nat_lt, nat_le, is_some, is_none}
use Rattle.std.specs.List.{list_any, list_all}
use Rattle.std.specs.Str.{bytes_eq}
use Rattle.std.proofs.lemmas.Bool.{true≢false, not-false, lt-ltb, le-leb, eq-eqb, cases_lt, cases_Bool, cases_order, and_parts, or_parts, and_from, not_from_false}
use Rattle.std.proofs.lemmas.Bool.Decides.{nat_tests}
use Rattle.ged_line.specs.Bytes.{Bytes}
use Rattle.ged_line.specs.Characters.{is_plain}
use Rattle.ged_line.specs.Names.{is_tag, is_xref}
use Rattle.ged_line.specs.Lines.{LineParts, is_line, may_be_xref, Value, is_value}
use Rattle.ged_line.specs.Lines as value
use Rattle.ged_line.proofs.CallerLemmas.{nothing_plain}
use Rattle.ged_tree.proofs.theory.LineParts.{line_is}
use Rattle.ged_tree.specs.Documents.{is_payload_at, is_structure_at, are_at, are_records, is_document}
use Rattle.ged_tree.specs.inner.DocumentParts.{is_xref_at, is_record_tag, is_head}
use Rattle.ged_tree.specs.declared.payload.Payload.TheVariants.{Text}
use Rattle.ged_tree.specs.DocumentLines.{lines_of, document_lines}
use Rattle.ged_tree.specs.inner.Trailers.{trailer_line}
use Rattle.ged_tree.specs.TreeFaults.{is_cont, is_header, is_trailer, has_trailer, has_forbidden_xref}
use Rattle.ged_tree.specs.Spelled.{payload_from}
use Rattle.ged_tree.proofs.theory.Growing.{Chain, forest, forest_cont, forest_here, forest_below, forest_above, text_of, further_of, structure_from, continued_by, none_is, header_own, inner, whole}

-- at level 99 no CONT can follow
no_room : (line : LineParts) (rest : List LineParts) → is_cont line ≡ false → line.level ≡ 99 → Chain (Some line) rest
    → list_all is_line rest ≡ true → further_of rest ≡ []
no_room line [] e l c a = refl
no_room line (x ∷ xs) e l c a = elim (cases_Bool (is_cont x)) [
  | inl k ↦ (
      let p : x.level ≡ inner line = (continued_by line x c.0 k).level in
      let q : x.level ≡ line.level + 1 = rw e at p in
      let small = (line_is x (and_parts (is_line x) (list_all is_line xs) a).0).level in
      absurd (omega arith))
  | inr k ↦ rw k refl
]

pub text_plain : (v : Value) → is_value v ≡ true → is_plain (text_of v) ≡ true
text_plain value.Empty h = nothing_plain
text_plain value.Void h = nothing_plain
text_plain (value.Pointer name) h = nothing_plain
text_plain (value.Text text) h = (and_parts (not (length text == 0)) (is_plain text) h).1

further_plain : (lines : List LineParts) → list_all is_line lines ≡ true → list_all is_plain (further_of lines) ≡ true
further_plain [] a = refl
further_plain (line ∷ rest) a =
    let p = and_parts (is_line line) (list_all is_line rest) a in
    elim (cases_Bool (is_cont line)) [
      | inl e ↦ rw e (and_from (is_plain (text_of line.value)) _ (text_plain line.value (line_is line p.0).value) (further_plain rest p.1))
      | inr e ↦ rw e refl
    ]

room : (level : ℕ) (first : Bytes) (further : List Bytes) → level ≤ 99 → (level ≡ 99 → further ≡ []) → is_plain first ≡ true
    → list_all is_plain further ≡ true → is_payload_at level (Text (first ∷ further)) ≡ true
room level first [] h f p q = p
room level first (next ∷ lines) h f p q = and_from (nat_lt level 99) _ (low (cases_lt level 99)) (and_from (is_plain first) _ p q)
  where
    low : (level < 99) ⊎ (99 ≤ level) → nat_lt level 99 ≡ true
    low (inl l) = lt-ltb level 99 l
    low (inr l) = absurd (let e = f (omega arith) in cc)

xref_ok : (line : LineParts) (xref : Option Bytes) → may_be_xref xref ≡ true
    → (is_some xref && (nat_lt 0 line.level || is_header line || is_trailer line)) ≡ false → is_xref_at line.level xref ≡ true
xref_ok line None m e = refl
xref_ok line (Some name) m e =
    let a = (or_parts (nat_lt 0 line.level || is_header line) (is_trailer line) e).0 in
    let b = (or_parts (nat_lt 0 line.level) (is_header line) a).0 in
    let top : (line.level == 0) ≡ true = grind (arith, nat_tests) in
    and_from (line.level == 0) (is_xref name) top m

module _ (line : LineParts) (rest : List LineParts) (own : is_cont line ≡ false) (allowed : is_line line ≡ true) (named : has_forbidden_xref line ≡ false) (chain : Chain (Some line) rest) (all : list_all is_line rest ≡ true) where
  payload_ok : (v : Value) → is_value v ≡ true → is_payload_at line.level (payload_from v (further_of rest)) ≡ true
  payload_ok value.Empty h = room line.level [] (further_of rest) (line_is line allowed).level (λ e. no_room line rest own e chain all) nothing_plain (further_plain rest all)
  payload_ok value.Void h = refl
  payload_ok (value.Pointer name) h = h
  payload_ok (value.Text text) h = room line.level text (further_of rest) (line_is line allowed).level (λ e. no_room line rest own e chain all) (text_plain (value.Text text) h) (further_plain rest all)

  structure_ok : is_structure_at line.level (structure_from line rest) ≡ true
  structure_ok =
      let l = line_is line allowed in
      let tagged = and_from (is_tag line.tag) (not (is_cont line)) l.tag (not_from_false (is_cont line) own) in
      let borne = and_from (is_xref_at line.level line.xref) _ (xref_ok line line.xref l.xref named) (payload_ok line.value l.value) in
      and_from _ _ (and_from (nat_le line.level 99) _ (le-leb line.level 99 l.level) tagged) borne

pub at_grown : (before : Option LineParts) (lines : List LineParts) (k : ℕ) → Chain before lines → list_all is_line lines ≡ true
    → are_at k (forest k lines) ≡ true
at_grown before [] k c a = refl
at_grown before (line ∷ rest) k c a =
    let p = and_parts (is_line line) (list_all is_line rest) a in
    let after : are_at k (forest k rest) ≡ true = at_grown (Some line) rest k c.1 p.1 in
    let below : are_at (k + 1) (forest (k + 1) rest) ≡ true = at_grown (Some line) rest (k + 1) c.1 p.1 in
    elim (cases_Bool (is_cont line)) [
      | inl e ↦ rw (forest_cont k line rest e) after
      | inr e ↦ elim (cases_order line.level k) [
        | inl here ↦ (
            let ok = structure_ok line rest e p.0 c.0.named c.1 p.1 in
            rw (forest_here k line rest e here) (
            and_from (is_structure_at k (structure_from line rest)) _ (rw here at ok) (and_from (are_at (k + 1) (forest (k + 1) rest)) _ below after)))
        | inr other ↦ elim other [
          | inl high ↦ rw (forest_above k line rest e high) refl
          | inr deep ↦ rw (forest_below k line rest e deep) after
        ]
      ]
    ]

not_tag : (a b : Bool) → a ≡ true → (a && b) ≡ false → not b ≡ true
not_tag true true h e = absurd (true≢false e)
not_tag true false h e = refl
not_tag false b h e = absurd (true≢false (sym h))

records_grown : (before : LineParts) (lines : List LineParts) → Chain (Some before) lines → has_trailer lines ≡ false
    → are_records (forest 0 lines) ≡ true
records_grown before [] c t = refl
records_grown before (line ∷ rest) c t =
    let u = or_parts (is_trailer line) (list_any is_trailer rest) t in
    let after : are_records (forest 0 rest) ≡ true = records_grown line rest c.1 u.1 in
    elim (cases_Bool (is_cont line)) [
      | inl e ↦ rw (forest_cont 0 line rest e) after
      | inr e ↦ elim (cases_order line.level 0) [
        | inl here ↦ (
            let top : (line.level == 0) ≡ true = eq-eqb line.level 0 here in
            let head = not_tag (line.level == 0) (bytes_eq line.tag (codes "HEAD")) top c.0.once in
            let trailer = not_tag (line.level == 0) (bytes_eq line.tag (codes "TRLR")) top u.0 in
            rw (forest_here 0 line rest e here) (and_from (is_record_tag line.tag) _ (and_from _ _ head trailer) after))
        | inr other ↦ elim other [
          | inl high ↦ absurd (omega arith)
          | inr deep ↦ rw (forest_below 0 line rest e deep) after
        ]
      ]
    ]

unnamed_head : (line : LineParts) → is_header line ≡ true → has_forbidden_xref line ≡ false → line.xref ≡ None
unnamed_head line h e = none_is line.xref (at (is_some line.xref) (nat_lt 0 line.level) (is_header line) (is_trailer line) h e)
  where
    at : (a b c d : Bool) → c ≡ true → (a && (b || c || d)) ≡ false → a ≡ false
    at true true true d h e = e
    at true false true d h e = e
    at false b true d h e = refl
    at a b false d h e = absurd (true≢false (sym h))

pub document_grown : (line : LineParts) (rest : List LineParts) → Chain None (line ∷ rest) → list_all is_line (line ∷ rest) ≡ true
    → has_trailer (line ∷ rest) ≡ false → length (line ∷ rest) + 1 < 2 ^ 63 → is_document (forest 0 (line ∷ rest)) ≡ true
document_grown line rest c a t small =
    let u = or_parts (is_trailer line) (list_any is_trailer rest) t in
    let header : is_header line ≡ true = not-false (is_header line) c.0.begun in
    let h = header_own line header in
    let tagged : bytes_eq line.tag (codes "HEAD") ≡ true = (and_parts (line.level == 0) (bytes_eq line.tag (codes "HEAD")) header).1 in
    let unnamed : is_none line.xref ≡ true = rw (unnamed_head line header c.0.named) refl in
    let e = forest_here 0 line rest h.1 h.0 in
    let placed : are_at 0 (forest 0 (line ∷ rest)) ≡ true = at_grown None (line ∷ rest) 0 c a in
    let lined : length (line ∷ rest) ≡ length (lines_of 0 (forest 0 (line ∷ rest))) = ap (λ (ls : List LineParts). length ls) (whole (line ∷ rest) c a) in
    let all = length-append (lines_of 0 (forest 0 (line ∷ rest))) (trailer_line ∷ []) in
    let few : nat_lt (length (document_lines (forest 0 (line ∷ rest)))) (2 ^ 63) ≡ true = lt-ltb _ _ (omega (arith, lined, all, small)) in
    let top : (is_head (structure_from line rest) && are_records (forest 0 rest)) ≡ true = and_from _ _ (and_from _ _ tagged unnamed) (records_grown line rest c.1 u.1) in
    rw e (and_from _ _ top (and_from _ _ (rw e at placed) (rw e at few)))
