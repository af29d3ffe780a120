-- The lines of the structures of a run, and of what stands below them.
use Rattle.std.proofs.Common.{◌≡◌, ℕ, ◌+◌, ◌<◌, true, false, ◌&&◌, List, [], ◌∷◌, ◌++◌, Option, Some, None, length, drop, get_or, refl, sym, ap, ◌∙◌, subst, append_assoc, append-nil, arith}
use Rattle.std.specs.Prelude.{◌==◌}
use denote.Ref.{Bor}
use Rattle.std.proofs.lemmas.List.{drop_more}
use Rattle.std.proofs.lemmas.Bool.{and_parts, true≢false}
use Rattle.std.proofs.lemmas.Bool.Decides.{nat_tests}
use Rattle.ged_line.specs.Bytes.{Bytes}
use Rattle.ged_line.specs.Lines.{LineParts}
use Rattle.ged_line.specs.Names.{is_xref}
use Rattle.ged_line.specs.Spelling.{spelled_lines}
use Rattle.ged_tree.specs.Trees.{Structure, Trees, none, tree}
use Rattle.ged_tree.specs.Documents.{is_structure_at, are_at}
use Rattle.ged_tree.specs.inner.DocumentParts.{is_xref_at}
use Rattle.ged_tree.specs.DocumentLines.{structure_lines, lines_of}
use Rattle.ged_tree.specs.Places.{structure_at, below_at}
use Rattle.ged_tree.specs.Runs.{trees_between, IsRunOfTrees, IsStep}
use Rattle.ged_tree.specs.inner.Walks.{HasLinesAt}
use Rattle.ged_schema.specs.declared.context.Context.{Context}
use Rattle.ged_schema.specs.Rows.{Row}
use Rattle.ged_schema.specs.Tables.{row, below_row, context_below}
use Rattle.ged_canon.specs.Normal.{InOrder}
use Rattle.ged_canon.proofs.theory.Orders.{tags_of_order}
use Rattle.ged_canon.specs.declared.edition.Edition.{Edition}
use Rattle.ged_canon.specs.declared.writer.rank.RankedSibling.{RankedSibling}
use Rattle.ged_canon.specs.declared.writer.siblings.Sibling.{Sibling}
use Rattle.ged_canon.specs.Steps.{renamed_payload, renamed}
use Rattle.ged_canon.specs.inner.StepParts.{with_identifier}
use Rattle.ged_canon.specs.inner.Orders.{TagsInOrder, tags}
use Rattle.ged_canon.specs.inner.Working.{used_xref, used_trees, put, brief, brief_structure, sorted, each_sorted}
use Rattle.ged_canon.specs.inner.Siblings.{sibling_trees}
use Rattle.ged_canon.specs.inner.Writing.{brief_sibling, renamed_sibling, sibling_at, sibling_lines, CanWriteTree}
use Rattle.ged_canon.proofs.theory.Bare.{stands}
use Rattle.ged_canon.proofs.theory.Sorting.{put_first}
use Rattle.ged_canon.proofs.writer.SiblingTrees.{below_step}
use Rattle.ged_canon.proofs.writer.OwnLines.{spelled_append, lines_with}

-- what is written next is the front of what was left to be written
pub written_front : (whole out more : Bytes) (all front rest : List LineParts) → all ≡ front ++ rest → more ≡ out ++ spelled_lines front → out ++ spelled_lines all ≡ whole → more ++ spelled_lines rest ≡ whole
written_front whole out more all front rest cut written told =
    ap (λ x. x ++ spelled_lines rest) written
    ∙ append_assoc out (spelled_lines front) (spelled_lines rest)
    ∙ ap (λ x. out ++ x) (sym (spelled_append front rest) ∙ ap spelled_lines (sym cut))
    ∙ told

-- what stands below a structure is written behind it
pub written_below : (out middle : Bytes) (own below : List LineParts) → middle ≡ out ++ spelled_lines own → middle ++ spelled_lines below ≡ out ++ spelled_lines (own ++ below)
written_below out middle own below written =
    ap (λ x. x ++ spelled_lines below) written
    ∙ append_assoc out (spelled_lines own) (spelled_lines below)
    ∙ ap (λ x. out ++ x) (sym (spelled_append own below))

-- the lines of a structure and of what stands below it, by equal rows
pub tree_lines : (new : Bytes → Bytes) (edition : Edition) (xref : Option Bytes) (d : Trees) (sibling : Sibling) (level : ℕ) (r q : Option Row) → r ≡ q
    → spelled_lines (structure_lines level (renamed_sibling new edition r xref d sibling) ++ lines_of (level + 1) (renamed new (sorted edition (below_row r) (below_at d sibling.place))))
    ≡ spelled_lines (structure_lines level (renamed_sibling new edition q xref d sibling) ++ lines_of (level + 1) (renamed new (sorted edition (below_row q) (below_at d sibling.place))))
tree_lines new edition xref d sibling level r q e =
    ap (λ x. spelled_lines (structure_lines level (renamed_sibling new edition x xref d sibling) ++ lines_of (level + 1) (renamed new (sorted edition (below_row x) (below_at d sibling.place))))) e

-- The same, wherever the tag of the sibling was read.

pub lines_alike : (new : Bytes → Bytes) (edition : Edition) (xref : Option Bytes) (d : Trees) (tag : Bor Bytes) (place level : ℕ) (r q : Option Row) → tag.now ≡ (structure_at d place).tag → r ≡ q
    → spelled_lines (sibling_lines new edition r level xref d (record { tag = tag; place = place })) ≡ spelled_lines (sibling_lines new edition q level xref d (sibling_at d place))
lines_alike new edition xref d tag place level r q same e = λ i.
    spelled_lines (structure_lines level (record { xref = xref; tag = same i; payload = renamed_payload new (brief edition (e i) (structure_at d place).payload) })
    ++ lines_of (level + 1) (renamed new (sorted edition (below_row (e i)) (below_at d place))))

pub can_write_alike : (edition : Edition) (r : Option Row) (level : ℕ) (xref : Option Bytes) (d : Trees) (tag : Bor Bytes) (place end : ℕ) → tag.now ≡ (structure_at d place).tag
    → CanWriteTree edition r level xref d (sibling_at d place) end → CanWriteTree edition r level xref d (record { tag = tag; place = place }) end
can_write_alike edition r level xref d tag place end same can = record {
  document = can.document;
  within = (can.within.0, same);
  run = can.run;
  deeper = can.deeper;
  stands = subst (λ t. HasLinesAt level (record { xref = xref; tag = t; payload = brief edition r (structure_at d place).payload })) (sym same) can.stands;
  below = can.below;
}

-- where nothing is left, all is written
pub written_all : (whole out : Bytes) (rest : List LineParts) → rest ≡ [] → out ++ spelled_lines rest ≡ whole → out ≡ whole
written_all whole out rest e told = sym (append-nil out) ∙ ap (λ ls. out ++ spelled_lines ls) (sym e) ∙ told

-- below the records nothing has an identifier
no_identifier : (level : ℕ) (xref : Option Bytes) → 0 < level → is_xref_at level xref ≡ true → xref ≡ None
no_identifier level None h e = refl
no_identifier level (Some name) h e = absurd (let p = (and_parts (level == 0) (is_xref name) e).0 in let z : (level == 0) ≡ false = grind (arith, nat_tests) in true≢false (sym p ∙ z))

-- the trees that are left begin with a sibling's
module _ (edition : Edition) (context : Context) (d : Trees) (level : ℕ) (sibling : Sibling) (x : Option Bytes) (all rest : Trees) where
  abbrev first : Structure
  first = brief_sibling edition (row context sibling.tag.now) x d sibling

  abbrev deeper : Trees
  deeper = sorted edition (context_below context sibling.tag.now) (below_at d sibling.place)

  module _ (is : all ≡ tree first deeper rest) (deep : 0 < level) (stand : are_at level all ≡ true) where
    parted : are_at level (tree first deeper rest) ≡ true
    parted = ap (are_at level) (sym is) ∙ stand

    bare : x ≡ None
    bare = no_identifier level x deep (stands level first deeper rest parted).named

    pub first_stands : HasLinesAt level (brief_sibling edition (row context sibling.tag.now) None d sibling)
    first_stands = lines_with level first None ((and_parts (is_structure_at level first) (are_at (level + 1) deeper && are_at level rest) parted).0) refl

    pub below_stands : are_at (level + 1) deeper ≡ true
    below_stands = (stands level first deeper rest parted).below_stands

    pub rest_stands : are_at level rest ≡ true
    rest_stands = (stands level first deeper rest parted).next_stands

    pub first_lines : (new : Bytes → Bytes) → lines_of level (renamed new all)
        ≡ (structure_lines level (renamed_sibling new edition (row context sibling.tag.now) None d sibling) ++ lines_of (level + 1) (renamed new deeper)) ++ lines_of level (renamed new rest)
    first_lines new =
        ap (λ t. lines_of level (renamed new t)) is
        ∙ ap (λ y. lines_of level (renamed new (tree (brief_sibling edition (row context sibling.tag.now) y d sibling) deeper rest))) bare

    -- once the first is written, what is written and what is left are still the whole
    pub next_told : (new : Bytes → Bytes) (whole out more : Bytes)
        → more ≡ out ++ spelled_lines (structure_lines level (renamed_sibling new edition (row context sibling.tag.now) None d sibling) ++ lines_of (level + 1) (renamed new deeper))
        → out ++ spelled_lines (lines_of level (renamed new all)) ≡ whole
        → more ++ spelled_lines (lines_of level (renamed new rest)) ≡ whole
    next_told new whole out more written told =
        written_front whole out more (lines_of level (renamed new all)) (structure_lines level (renamed_sibling new edition (row context sibling.tag.now) None d sibling) ++ lines_of (level + 1) (renamed new deeper)) (lines_of level (renamed new rest)) (first_lines new) written told

-- Siblings that are listed.

pub next_left : (xs : List RankedSibling) (n : ℕ) (next : RankedSibling) → n < length xs → next ≡ get_or xs n next → drop n xs ≡ next ∷ drop (n + 1) xs
next_left xs n next h is = drop_more xs n next h ∙ ap (λ (first : RankedSibling). first ∷ drop (n + 1) xs) (sym is)

-- where all identifiers are kept
pub kept_xref : (x : Option Bytes) → used_xref (λ name. true) x ≡ x
kept_xref None = refl
kept_xref (Some name) = refl

kept_trees : (xs : Trees) → used_trees (λ name. true) xs ≡ xs
kept_trees none = refl
kept_trees (tree s below next) = λ i. tree (with_identifier s (kept_xref s.xref i)) below (kept_trees next i)

pub all_listed : (edition : Edition) (context : Context) (d run : Trees) (items : List RankedSibling) → sibling_trees (λ name. true) edition context d items ≡ sorted edition context (used_trees (λ name. true) run) → sibling_trees (λ name. true) edition context d items ≡ sorted edition context run
all_listed edition context d run items e = e ∙ ap (sorted edition context) (kept_trees run)

-- A run that is in order.

tags_sorted : (edition : Edition) (context : Context) (xs : Trees) → tags (each_sorted edition context xs) ≡ tags xs
tags_sorted edition context none = refl
tags_sorted edition context (tree s below next) = ap (λ ts. s.tag ∷ ts) (tags_sorted edition context next)

rest_in_order : (a : Bytes) (rest : List Bytes) → TagsInOrder (a ∷ rest) → TagsInOrder rest
rest_in_order a [] h = h
rest_in_order a (b ∷ rest) h = h.1

tags_in_order_sorted : (edition : Edition) (context : Context) (xs : Trees) → TagsInOrder (tags xs) → sorted edition context xs ≡ each_sorted edition context xs
tags_in_order_sorted edition context none o = refl
tags_in_order_sorted edition context (tree s below next) o =
    ap (put (brief_structure edition context s) (sorted edition (context_below context s.tag) below)) (tags_in_order_sorted edition context next (rest_in_order s.tag (tags next) o))
    ∙ put_first (brief_structure edition context s) (sorted edition (context_below context s.tag) below) (each_sorted edition context next) (subst (λ ts. TagsInOrder (s.tag ∷ ts)) (sym (tags_sorted edition context next)) o)

pub in_order_sorted : (edition : Edition) (context : Context) (xs : Trees) → InOrder xs → sorted edition context xs ≡ each_sorted edition context xs
in_order_sorted edition context xs o = tags_in_order_sorted edition context xs (tags_of_order xs o)

-- a run from a place on begins with the structure there
pub run_first : (edition : Edition) (context : Context) (d : Trees) (place end after : ℕ) (sibling : Sibling) → IsRunOfTrees d place end → IsStep d place end after → sibling.place ≡ place → sibling.tag.now ≡ (structure_at d place).tag
    → each_sorted edition context (trees_between d place end)
    ≡ tree (brief_sibling edition (row context sibling.tag.now) (structure_at d place).xref d sibling) (sorted edition (context_below context sibling.tag.now) (below_at d sibling.place)) (each_sorted edition context (trees_between d after end))
run_first edition context d place end after sibling run step at tag =
    let s = structure_at d place in
    ap (each_sorted edition context) step.first
    ∙ ap (λ b. tree (brief_structure edition context s) (sorted edition (context_below context s.tag) b) (each_sorted edition context (trees_between d after end))) (below_step d place end after run step)
    ∙ sym (λ i. tree (record { xref = s.xref; tag = tag i; payload = brief edition (row context (tag i)) (structure_at d (at i)).payload }) (sorted edition (context_below context (tag i)) (below_at d (at i))) (each_sorted edition context (trees_between d after end)))
