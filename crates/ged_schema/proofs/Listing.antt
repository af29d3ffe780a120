-- Structures with unlisted tags, from one place to the next.
use Rattle.std.proofs.Common.{sym, ◌∙◌, ap, map, ◌≡◌, ◌≢◌, ℕ, ◌+◌, ◌-◌, ◌^◌, ◌<◌, refl, arith, true, ◌&&◌, not, nat_le, List, [], ◌∷◌, ◌++◌, inl, inr, Some, None, codes}
use Rattle.std.specs.Prelude.{nat_lt, length}
use Rattle.std.specs.Str.{bytes_eq}
use Rattle.std.proofs.lemmas.List.{append_assoc, map-append}
use Rattle.std.proofs.lemmas.Bool.{cases_lt}
use Rattle.ged_line.specs.Names.{is_tag, is_standard_tag}
use Rattle.ged_schema.proofs.Decided.{and_left, and_right}
use Rattle.ged_tree.specs.DocumentLines.{document_lines}
use Rattle.ged_tree.specs.Trees.{Structure, Trees, none, tree, trees_count}
use Rattle.ged_tree.specs.Documents.{is_document, are_records, are_at, is_structure_at, is_payload_at}
use Rattle.ged_tree.specs.inner.DocumentParts.{is_head, is_xref_at}
use Rattle.ged_tree.specs.Places.{structure_at, line_at}
use Rattle.ged_tree.proofs.CallerLemmas.{from_first, from_below, from_next}
use Rattle.ged_link.specs.declared.notices.Notice.{Notice}
use Rattle.ged_link.specs.declared.notices.NoticeKind.TheVariants as kinds
use Rattle.ged_schema.specs.declared.context.Context.{Context}
use Rattle.ged_schema.specs.declared.context.Context.TheVariants.{Unchecked}
use Rattle.ged_schema.specs.Rows.{Row}
use Rattle.ged_schema.specs.Tables.{rows, row}
use Rattle.ged_schema.specs.Unlisted.{unlisted_notice}
use Rattle.ged_schema.specs.inner.Listings.{ListsUnlisted}

-- nothing is unlisted where nothing is asked
pub unlisted_unchecked : (place : ℕ) (t : Trees) → ListsUnlisted Unchecked place t []
unfolding row rows
unlisted_unchecked place none = refl
unlisted_unchecked place (tree s b n) = ([], [], [], inr (λ h. h.1 refl, refl), unlisted_unchecked (place + 1) b, unlisted_unchecked (place + 1 + trees_count b) n, refl)

module _ (c : Context) (t : Trees) (s : Structure) (b n : Trees) (is : t ≡ tree s b n) (place after : ℕ) (next : place + 1 + trees_count b ≡ after) where
  pub unlisted_row : (r : Row) (under left : List ℕ) → row c s.tag ≡ Some r → ListsUnlisted r.below (place + 1) b under → ListsUnlisted c after n left → ListsUnlisted c place t (under ++ left)
  unlisted_row r under left some below rest = rw (is, some) ([], under, left, inr (λ h. cc, refl), below, rw next rest, refl)

  pub unlisted_here : (left : List ℕ) → row c s.tag ≡ None → is_standard_tag s.tag ≡ true → c ≢ Unchecked → ListsUnlisted c after n left → ListsUnlisted c place t (place ∷ left)
  unlisted_here left nothing standard asked rest = rw (is, nothing) (place ∷ [], [], left, inl ((standard, asked, refl), refl), unlisted_unchecked (place + 1) b, rw next rest, refl)

  pub unlisted_none : (left : List ℕ) → row c s.tag ≡ None → ((is_standard_tag s.tag ≡ true) × (c ≢ Unchecked) → ⊥) → ListsUnlisted c after n left → ListsUnlisted c place t left
  unlisted_none left nothing never rest = rw (is, nothing) ([], [], left, inr (λ h. never (h.0, h.1), refl), unlisted_unchecked (place + 1) b, rw next rest, refl)

-- each structure of a document has a tag
structure_tag : (level : ℕ) (s : Structure) → is_structure_at level s ≡ true → is_tag s.tag ≡ true
structure_tag level s h =
    let first = and_left (nat_le level 99 && (is_tag s.tag && not (bytes_eq s.tag (codes "CONT")))) (is_xref_at level s.xref && is_payload_at level s.payload) h in
    and_left (is_tag s.tag) (not (bytes_eq s.tag (codes "CONT"))) (and_right (nat_le level 99) (is_tag s.tag && not (bytes_eq s.tag (codes "CONT"))) first)

tag_at : (level : ℕ) (w : Trees) (p : ℕ) → are_at level w ≡ true → p < trees_count w → is_tag (structure_at w p).tag ≡ true
unfolding structure_at
tag_at level none p h inside = absurd (omega arith)
tag_at level (tree s b n) p h inside =
    let rest : (are_at (level + 1) b && are_at level n) ≡ true = and_right (is_structure_at level s) (are_at (level + 1) b && are_at level n) h in
    elim (cases_lt 0 p) [
      | inr first ↦ (let e : p ≡ 0 = omega arith in rw (from_first s b n p e) (structure_tag level s (and_left (is_structure_at level s) (are_at (level + 1) b && are_at level n) h)))
      | inl later ↦ elim (cases_lt (trees_count b) p) [
        | inl past ↦ rw (from_next s b n p past) (tag_at level n (p - 1 - trees_count b) (and_right (are_at (level + 1) b) (are_at level n) rest) (omega arith))
        | inr within ↦ rw (from_below s b n p later within) (tag_at (level + 1) b (p - 1) (and_left (are_at (level + 1) b) (are_at level n) rest) (omega arith))
      ]
    ]

pub document_tag : (d : Trees) (p : ℕ) → is_document d ≡ true → p < trees_count d → is_tag (structure_at d p).tag ≡ true
document_tag none p h inside = absurd (omega arith)
document_tag (tree s b n) p h inside =
    tag_at 0 (tree s b n) p (and_left (are_at 0 (tree s b n)) (nat_lt (length (document_lines (tree s b n))) (2 ^ 63)) (and_right (is_head s && are_records n) (are_at 0 (tree s b n) && nat_lt (length (document_lines (tree s b n))) (2 ^ 63)) h)) inside

pub unlisted_end : (c : Context) (place : ℕ) (t : Trees) → t ≡ none → ListsUnlisted c place t []
unlisted_end c place t is = rw is refl

-- the notices told so far and those that are left, where a structure adds some
pub told_more : (f : ℕ → Notice) (items new : List Notice) (under left : List ℕ) (all : List Notice) → new ≡ items ++ map f under → items ++ map f (under ++ left) ≡ all → new ++ map f left ≡ all
told_more f items new under left all added told =
    ap (λ xs. xs ++ map f left) added ∙ append_assoc items (map f under) (map f left) ∙ ap (λ xs. items ++ xs) (sym (map-append f under left)) ∙ told

-- the same of one notice
pub told_one : (f : ℕ → Notice) (items new : List Notice) (notice : Notice) (place : ℕ) (left : List ℕ) (all : List Notice) → new ≡ items ++ notice ∷ [] → notice ≡ f place → items ++ map f (place ∷ left) ≡ all → new ++ map f left ≡ all
told_one f items new notice place left all added is told =
    ap (λ xs. xs ++ map f left) added ∙ append_assoc items (notice ∷ []) (map f left) ∙ ap (λ z. items ++ (z ∷ map f left)) is ∙ told

pub notice_same : (d : Trees) (place line : ℕ) → line ≡ line_at 1 d place → ◌≡◌ {A = Notice} (record { line = line; kind = kinds.Unlisted }) (unlisted_notice d place)
notice_same d place line e = rw e refl
