-- HEAD and the records as siblings: their names, their numbers and their lines.
use Rattle.std.proofs.Common.{◌≡◌, ℕ, ◌+◌, ◌<◌, Bool, true, false, cond, ◌&&◌, List, [], ◌∷◌, ◌++◌, Option, Some, None, drop, refl, sym, ap, ◌∙◌, subst, inl, inr, append_assoc, append-nil, arith}
use Rattle.std.specs.Prelude.{bytes_eq}
use Rattle.std.proofs.lemmas.Bool.{and_parts, and_from, false≢true}
use Rattle.ged_line.specs.Bytes.{Bytes, line_feed}
use Rattle.ged_line.specs.Lines.{may_be_xref}
use Rattle.ged_line.specs.Spelling.{spelling, spelled_lines}
use Rattle.ged_tree.specs.Trees.{Structure, Trees, tree, records_of}
use Rattle.ged_tree.specs.Documents.{is_document, is_structure_at, are_at}
use Rattle.ged_tree.specs.inner.DocumentParts.{is_xref_at}
use Rattle.ged_tree.specs.DocumentLines.{structure_lines, lines_of}
use Rattle.ged_tree.specs.inner.Trailers.{trailer_line}
use Rattle.ged_tree.specs.Places.{structure_at, below_at}
use Rattle.ged_tree.specs.Runs.{trees_between, IsRunOfTrees, IsStep}
use Rattle.ged_tree.specs.inner.Walks.{HasLinesAt}
use Rattle.ged_tree.proofs.CallerLemmas.{at_of_document}
use Rattle.ged_link.specs.Links.{IsAmong, xrefs, Resolved}
use Rattle.ged_link.specs.inner.Identifiers.{with_xref}
use Rattle.ged_schema.specs.declared.context.Context.{Context}
use Rattle.ged_schema.specs.declared.context.Context.TheVariants.{File}
use Rattle.ged_schema.specs.Tables.{row, context_below}
use Rattle.ged_schema.specs.Checked.{Checked}
use Rattle.ged_canon.specs.declared.edition.Edition.{Edition}
use Rattle.ged_canon.specs.declared.writer.rank.RankedSibling.{RankedSibling}
use Rattle.ged_canon.specs.Steps.{renamed}
use Rattle.ged_canon.specs.inner.StepParts.{renamed_structure, renamed_xref}
use Rattle.ged_canon.specs.Normal.{numbered, IsNormalForm}
use Rattle.ged_canon.specs.CanonText.{CanonText}
use Rattle.ged_canon.specs.inner.Working.{is_named, used_xref, used_structure, used_trees, used_document, brief_structure, sorted, sorted_document, number_among, number_of, canon}
use Rattle.ged_canon.specs.inner.Siblings.{own_tag, sibling_trees, sibling_names}
use Rattle.ged_canon.specs.inner.Writing.{brief_sibling, renamed_sibling, sibling_at}
use Rattle.ged_canon.specs.inner.CanonBytes.{AreNamed, number_at, numbered_siblings, spelled_siblings}
use Rattle.ged_canon.proofs.theory.Texts.{same_bytes, equal_bytes}
use Rattle.ged_canon.proofs.theory.Bare.{stands}
use Rattle.ged_canon.proofs.theory.Fixed.{canon_same}
use Rattle.ged_canon.proofs.theory.Unique.{canon_equivalent}
use Rattle.ged_canon.proofs.theory.Used.{is_named-from, sorted_xrefs, xrefs_sorted, used_xrefs, xrefs_used}
use Rattle.ged_canon.proofs.theory.Numbering.{reach_used}
use Rattle.ged_canon.proofs.theory.Chains.{kept}
use Rattle.ged_canon.proofs.theory.Keeps.{step_checked}
use Rattle.ged_canon.proofs.theory.Reach.{reach_sorted}
use Rattle.ged_canon.proofs.theory.Normality.{ends_in_document}
use Rattle.ged_canon.proofs.writer.NewNames.{given_number}
use Rattle.ged_canon.proofs.writer.SiblingTrees.{below_step}
use Rattle.ged_canon.proofs.writer.OwnLines.{spelled_append, lines_with}

-- The siblings of a document.

-- HEAD and the records behind it, in order, are the document in order
pub document_listed : (used : Bytes → Bool) (edition : Edition) (d : Trees) (end after : ℕ) (head : RankedSibling) (records : List RankedSibling) → trees_between d 0 end ≡ d → IsRunOfTrees d 0 end → IsStep d 0 end after
    → head.place ≡ 0
    → sibling_trees used edition File d records ≡ sorted edition File (used_trees used (trees_between d after end))
    → sibling_trees used edition File d (head ∷ records) ≡ sorted_document edition (used_trees used d)
document_listed used edition d end after head records all run step at e =
    let s = structure_at d 0 in
    (λ i. tree (brief_structure edition File (used_structure used (structure_at d (at i))))
    (sorted edition (context_below File (structure_at d (at i)).tag) (below_at d (at i)))
    (e i))
    ∙ ap (λ b. tree (brief_structure edition File (used_structure used s)) (sorted edition (context_below File s.tag) b) (sorted edition File (used_trees used (trees_between d after end)))) (sym (below_step d 0 end after run step))
    ∙ ap (λ t. sorted_document edition (used_trees used t)) (sym step.first ∙ all)

-- the records are those of the run behind HEAD
pub records_listed : (d : Trees) (end after : ℕ) → trees_between d 0 end ≡ d → IsStep d 0 end after → trees_between d after end ≡ records_of d
records_listed d end after all step = ap records_of (sym step.first ∙ all)

-- Names.

sibling_xrefs : (edition : Edition) (context : Context) (d : Trees) (xs : List RankedSibling) → xrefs (sibling_trees (is_named d) edition context d xs) ≡ sibling_names d xs
sibling_xrefs edition context d [] = refl
sibling_xrefs edition context d (x ∷ xs) = ap (with_xref (used_xref (is_named d) (structure_at d x.place).xref)) (sibling_xrefs edition context d xs)

-- the names of a document's siblings are the identifiers that it keeps, in order
pub names_listed : (edition : Edition) (d : Trees) (xs : List RankedSibling) → sibling_trees (is_named d) edition File d xs ≡ sorted_document edition (used_document d)
    → sibling_names d xs ≡ xrefs (sorted_document edition (used_document d))
names_listed edition d xs e = sym (sibling_xrefs edition File d xs) ∙ ap xrefs e

-- these are those that pointers have
pub sorted_named : (edition : Edition) (d : Trees) (names : List Bytes) → Resolved d → names ≡ xrefs (sorted_document edition (used_document d)) → AreNamed d names
sorted_named edition d names r e = λ name. (
  (λ named. subst (IsAmong name) (sym e) (xrefs_sorted edition name (used_document d) (xrefs_used d name (r.found name (is_named-from d name named)) named))),
  (λ among. (used_xrefs d name (sorted_xrefs edition name (used_document d) (subst (IsAmong name) e among))).1),
)

-- Numbers.

among_numbered : (name : Bytes) (n : ℕ) (names : List Bytes) → 0 < number_among n names name → IsAmong name names
among_numbered name n [] h = absurd (omega (arith, h))
among_numbered name n (first ∷ rest) h = by (bytes_eq first name) refl (among_numbered name (n + 1) rest) h
  where
    by : (t : Bool) → bytes_eq first name ≡ t → (0 < number_among (n + 1) rest name → IsAmong name rest) → 0 < cond t n (number_among (n + 1) rest name) → IsAmong name (first ∷ rest)
    by true e f k = inl (sym (equal_bytes first name e))
    by false e f k = inr (f k)

numbered_among : (name : Bytes) (n : ℕ) (names : List Bytes) → 0 < n → IsAmong name names → 0 < number_among n names name
numbered_among name n [] some h = absurd h
numbered_among name n (first ∷ rest) some h = by (bytes_eq first name) refl (numbered_among name (n + 1) rest (omega arith)) h
  where
    by : (t : Bool) → bytes_eq first name ≡ t → (IsAmong name rest → 0 < number_among (n + 1) rest name) → IsAmong name (first ∷ rest) → 0 < cond t n (number_among (n + 1) rest name)
    by true e f k = some
    by false e f (inl p) = absurd (false≢true (sym e ∙ same_bytes first name (sym p)))
    by false e f (inr k) = f k

module _ (d : Trees) (names : List Bytes) (named : AreNamed d names) where
  -- what has no number gets no identifier
  pub no_number : (x : Option Bytes) → number_at names x ≡ 0 → renamed_xref (number_of 1 names) (used_xref (is_named d) x) ≡ None
  no_number None h = refl
  no_number (Some name) h = by (is_named d name) refl
    where
      by : (t : Bool) → is_named d name ≡ t → renamed_xref (number_of 1 names) (cond t (Some name) None) ≡ None
      by true e = let some = numbered_among name 1 names (omega arith) ((named name).0 e) in absurd (omega (arith, some, h))
      by false e = refl

  -- what has a number gets the identifier with it
  pub own_identifier : (x : Option Bytes) (n : ℕ) → n ≡ number_at names x → 0 < n → renamed_xref (number_of 1 names) (used_xref (is_named d) x) ≡ Some (numbered n)
  own_identifier None n h some = absurd (omega (arith, h, some))
  own_identifier (Some name) n h some =
      let numbered_here : 0 < number_among 1 names name = omega (arith, h, some) in
      let kept = (named name).1 (among_numbered name 1 names numbered_here) in
      ap (λ t. renamed_xref (number_of 1 names) (cond t (Some name) None)) kept ∙ ap Some (sym (given_number name 1 names numbered_here) ∙ ap numbered (sym h))

-- Lines.

at_top : (x : Option Bytes) → is_xref_at 0 x ≡ true → may_be_xref x ≡ true
at_top None h = refl
at_top (Some name) h = h

module _ (used : Bytes → Bool) (edition : Edition) (d : Trees) (sibling : RankedSibling) (rest : List RankedSibling) (h : are_at 0 (sibling_trees used edition File d (sibling ∷ rest)) ≡ true) where
  abbrev own : Structure
  own = brief_structure edition File (used_structure used (structure_at d sibling.place))

  abbrev below : Trees
  below = sorted edition (context_below File (own_tag d sibling)) (below_at d sibling.place)

  abbrev others : Trees
  others = sibling_trees used edition File d rest

  -- the first of siblings has lines, with any identifier
  pub own_stands : (xref : Option Bytes) → may_be_xref xref ≡ true → HasLinesAt 0 (brief_sibling edition (row File (own_tag d sibling)) xref d (sibling_at d sibling.place))
  own_stands xref named = lines_with 0 own xref ((and_parts (is_structure_at 0 own) (are_at 1 below && are_at 0 others) h).0) named

  -- its own identifier, where that is used, is one
  pub own_named : may_be_xref (used_xref used (structure_at d sibling.place).xref) ≡ true
  own_named = at_top (used_xref used (structure_at d sibling.place).xref) (stands 0 own below others h).named

  pub below_stands : are_at 1 below ≡ true
  below_stands = (and_parts (are_at 1 below) (are_at 0 others) ((and_parts (is_structure_at 0 own) (are_at 1 below && are_at 0 others) h).1)).0

  pub others_stand : are_at 0 others ≡ true
  others_stand = (and_parts (are_at 1 below) (are_at 0 others) ((and_parts (is_structure_at 0 own) (are_at 1 below && are_at 0 others) h).1)).1

  -- and so has it without the others
  pub first_stands : are_at 0 (sibling_trees used edition File d (sibling ∷ [])) ≡ true
  first_stands =
      let parts = and_parts (is_structure_at 0 own) (are_at 1 below && are_at 0 others) h in
      and_from (is_structure_at 0 own) (are_at 1 below && true) parts.0 (and_from (are_at 1 below) true below_stands refl)

-- the document with the identifiers that it keeps, in order, is one before these are numbered
pub sorted_is_document : (edition : Edition) (d : Trees) → is_document d ≡ true → Resolved d → Checked d → is_document (sorted_document edition (used_document d)) ≡ true
sorted_is_document edition d v r k =
    let u = used_document d in
    let reached = reach_used edition d v r in
    let is = ends_in_document d u v reached in
    ends_in_document u (sorted_document edition u) is (reach_sorted edition u u is (kept Checked (step_checked edition) reached k))

-- the siblings of a document stand at level 0
pub siblings_stand : (used : Bytes → Bool) (edition : Edition) (d e : Trees) (xs : List RankedSibling) → is_document e ≡ true → sibling_trees used edition File d xs ≡ e
    → are_at 0 (sibling_trees used edition File d xs) ≡ true
siblings_stand used edition d e xs is listed = ap (are_at 0) listed ∙ at_of_document e is

-- the lines of one sibling with its new identifier
pub record_spelled : (used : Bytes → Bool) (edition : Edition) (names : List Bytes) (d : Trees) (x : RankedSibling) (xref : Option Bytes) → renamed_xref (number_of 1 names) (used_xref used (structure_at d x.place).xref) ≡ xref
    → spelled_lines (structure_lines 0 (renamed_sibling (number_of 1 names) edition (row File (own_tag d x)) xref d (sibling_at d x.place)) ++ lines_of 1 (renamed (number_of 1 names) (sorted edition (context_below File (own_tag d x)) (below_at d x.place))))
    ≡ spelled_siblings used edition names d (x ∷ [])
record_spelled used edition names d x xref e =
    let f = number_of 1 names in
    let deep = lines_of 1 (renamed f (sorted edition (context_below File (own_tag d x)) (below_at d x.place))) in
    ap (λ (y : Option Bytes). spelled_lines (structure_lines 0 (renamed_sibling f edition (row File (own_tag d x)) y d (sibling_at d x.place)) ++ deep)) (sym e)
    ∙ ap spelled_lines (sym (append-nil (structure_lines 0 (renamed_sibling f edition (row File (own_tag d x)) (renamed_xref f (used_xref used (structure_at d x.place).xref)) d (sibling_at d x.place)) ++ deep)))

-- one sibling and the others behind it
pub siblings_spelled : (used : Bytes → Bool) (edition : Edition) (names : List Bytes) (d : Trees) (x : RankedSibling) (xs : List RankedSibling)
    → spelled_siblings used edition names d (x ∷ xs) ≡ spelled_siblings used edition names d (x ∷ []) ++ spelled_siblings used edition names d xs
siblings_spelled used edition names d x xs =
    let f = number_of 1 names in
    let s = brief_structure edition File (used_structure used (structure_at d x.place)) in
    let own = structure_lines 0 (renamed_structure f s) in
    let deep = lines_of 1 (renamed f (sorted edition (context_below File (own_tag d x)) (below_at d x.place))) in
    let rest = lines_of 0 (numbered_siblings used edition names d xs) in
    spelled_append (own ++ deep) rest ∙ ap (λ ls. spelled_lines ls ++ spelled_lines rest) (sym (append-nil (own ++ deep)))

-- what is written and what is left stay the whole where one more is written
pub left_after : (used : Bytes → Bool) (edition : Edition) (names : List Bytes) (d : Trees) (xs : List RankedSibling) (at : ℕ) (x : RankedSibling) (before now after whole : Bytes) → drop at xs ≡ x ∷ drop (at + 1) xs
    → now ++ spelled_siblings used edition names d (drop at xs) ≡ before ++ whole → after ≡ now ++ spelled_siblings used edition names d (x ∷ [])
    → after ++ spelled_siblings used edition names d (drop (at + 1) xs) ≡ before ++ whole
left_after used edition names d xs at x before now after whole split told wrote =
    let rest = drop (at + 1) xs in
    ap (λ bytes. bytes ++ spelled_siblings used edition names d rest) wrote
    ∙ append_assoc now (spelled_siblings used edition names d (x ∷ [])) (spelled_siblings used edition names d rest)
    ∙ ap (λ bytes. now ++ bytes) (sym (siblings_spelled used edition names d x rest))
    ∙ ap (λ (ys : List RankedSibling). now ++ spelled_siblings used edition names d ys) (sym split)
    ∙ told

-- The whole file.

pub numbered_document_of : (edition : Edition) (d : Trees) (xs : List RankedSibling) → sibling_trees (is_named d) edition File d xs ≡ sorted_document edition (used_document d)
    → numbered_siblings (is_named d) edition (sibling_names d xs) d xs ≡ canon edition d
numbered_document_of edition d xs e =
    ap (λ ns. renamed (number_of 1 ns) (sibling_trees (is_named d) edition File d xs)) (names_listed edition d xs e)
    ∙ ap (renamed (number_of 1 (xrefs (sorted_document edition (used_document d))))) e

-- the mark, the lines of HEAD and the records, and TRLR's
pub file_spelled : (used : Bytes → Bool) (edition : Edition) (names : List Bytes) (d e : Trees) (xs : List RankedSibling) (start middle text : Bytes) → numbered_siblings used edition names d xs ≡ e
    → start ≡ 0xEF ∷ 0xBB ∷ 0xBF ∷ [] → middle ≡ start ++ spelled_siblings used edition names d xs → text ≡ middle ++ (spelling trailer_line ++ line_feed ∷ []) → CanonText e text
file_spelled used edition names d e xs start middle text is began wrote told =
    told
    ∙ ap (λ bytes. bytes ++ (spelling trailer_line ++ line_feed ∷ [])) (wrote ∙ ap (λ bytes. bytes ++ spelled_siblings used edition names d xs) began)
    ∙ ap (λ t. 0xEF ∷ 0xBB ∷ 0xBF ∷ (spelled_lines (lines_of 0 t) ++ (spelling trailer_line ++ line_feed ∷ []))) is
    ∙ ap (λ bytes. 0xEF ∷ 0xBB ∷ 0xBF ∷ bytes) (sym (spelled_append (lines_of 0 e) (trailer_line ∷ [])))

-- what spells the canonical document spells each normal form
pub only_form : (edition : Edition) (d e : Trees) (text : Bytes) → CanonText (canon edition d) text → IsNormalForm edition d e → CanonText e text
only_form edition d e text told form = subst (λ t. CanonText t text) (canon_equivalent edition d e form.equivalent ∙ canon_same edition e form.normal) told
