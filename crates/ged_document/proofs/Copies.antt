-- Trees copied from a forest, one after another.
use Rattle.std.proofs.Common.{◌≡◌, ◌≢◌, ℕ, ◌+◌, ◌<◌, true, false, ◌==◌, List, [], ◌∷◌, ◌++◌, Option, Some, None, length, take, slice_get, get_or, refl, sym, ◌∙◌, ap, arith}
use Rattle.std.proofs.lemmas.Bool.{true≢false, and_parts}
use Rattle.std.proofs.lemmas.Bool.Decides.{nat_tests}
use Rattle.std.proofs.lemmas.List.{take_more}
use Rattle.std.proofs.lemmas.Option.{slice_get-get_or}
use Rattle.ged_line.specs.Bytes.{Bytes}
use Rattle.ged_line.specs.Lines.{may_be_xref}
use Rattle.ged_line.specs.Names.{is_tag, is_xref}
use Rattle.std.specs.Prelude.{is_none}
use Rattle.ged_tree.specs.Trees.{Structure, Trees, none, tree, Tree, trees_of, structure_of}
use Rattle.ged_tree.specs.Documents.{are_at, is_payload_at, is_document}
use Rattle.ged_tree.specs.inner.DocumentParts.{is_xref_at}
use Rattle.ged_document.specs.Records.{record_trees, document_trees}
use Rattle.ged_document.specs.declared.node.RecordNode.{RecordNode}
use Rattle.ged_tree.specs.Places.{structure_at}
use Rattle.ged_tree.specs.Runs.{trees_between, IsStep}
use Rattle.ged_document.specs.inner.Copies.{StandBelow}
use Rattle.ged_tree.proofs.CallerLemmas.{beside, TreeIs, tree_is, document_is, at_of_document}

pub text_more : (items now further : List Bytes) (first x : Bytes) (n : ℕ) → items ≡ first ∷ take n further → n < length further → slice_get further n ≡ Some x → now ≡ items ++ x ∷ [] → now ≡ first ∷ take (n + 1) further
text_more items now further first x n h within found e =
    let same : get_or further n x ≡ x = (let q : Some (get_or further n x) ≡ Some x = sym (slice_get-get_or further n x within) ∙ found in cc) in
    e ∙ rw (h, take_more further n x within, same) refl

unnamed : (level : ℕ) (xref : Option Bytes) → 0 < level → is_xref_at level xref ≡ true → xref ≡ None
unnamed level None h e = refl
unnamed level (Some name) h e = absurd (let p = (and_parts (level == 0) (is_xref name) e).0 in let z : (level == 0) ≡ false = grind (arith, nat_tests) in true≢false (sym p ∙ z))

beside_more : (ts : List Tree) (t : Tree) (u : Trees) → beside (trees_of (ts ++ t ∷ [])) u ≡ beside (trees_of ts) (tree (structure_of None t) t.children u)
beside_more [] t u = refl
beside_more (x ∷ xs) t u = ap (tree (structure_of None x) x.children) (beside_more xs t u)

-- a step of copying a run
pub copied_more : (w : Trees) (place end after : ℕ) (items now : List Tree) (t : Tree) (all : Trees) → IsStep w place end after → StandBelow (trees_between w place end)
    → t.tag ≡ (structure_at w place).tag → t.payload ≡ (structure_at w place).payload → t.children ≡ trees_between w (place + 1) after
    → beside (trees_of items) (trees_between w place end) ≡ all → now ≡ items ++ t ∷ [] → beside (trees_of now) (trees_between w after end) ≡ all
copied_more w place end after items now t all step below tag payload children told e =
    let s = structure_at w place in
    let b = trees_between w (place + 1) after in
    let n = trees_between w after end in
    let parts = tree_is below.level s b n (rw step.first at below.fits) in
    let bare : s.xref ≡ None = unnamed below.level s.xref below.deep parts.xref in
    let same : structure_of None t ≡ s = rw (tag, payload, sym bare) refl in
    rw e (beside_more items t n ∙ rw (same, children, sym step.first) told)

module _ (w : Trees) (place end after level : ℕ) (step : IsStep w place end after) (fits : are_at level (trees_between w place end) ≡ true) where
  parts : TreeIs level (structure_at w place) (trees_between w (place + 1) after) (trees_between w after end)
  parts = tree_is level (structure_at w place) (trees_between w (place + 1) after) (trees_between w after end) (rw step.first at fits)

  pub tag_at : is_tag (structure_at w place).tag ≡ true
  tag_at = parts.tag

  pub payload_at : is_payload_at level (structure_at w place).payload ≡ true
  payload_at = parts.payload

  pub xref_at : is_xref_at level (structure_at w place).xref ≡ true
  xref_at = parts.xref

  pub below_first : StandBelow (trees_between w (place + 1) after)
  below_first = record { level = level + 1; deep = omega arith; fits = parts.below_is }

  pub rest_at : are_at level (trees_between w after end) ≡ true
  rest_at = parts.next_is

module _ (w : Trees) (place end after : ℕ) (step : IsStep w place end after) (below : StandBelow (trees_between w place end)) where
  pub tag_read : is_tag (structure_at w place).tag ≡ true
  tag_read = tag_at w place end after below.level step below.fits

  pub payload_read : is_payload_at below.level (structure_at w place).payload ≡ true
  payload_read = payload_at w place end after below.level step below.fits

  pub below_below : StandBelow (trees_between w (place + 1) after)
  below_below = below_first w place end after below.level step below.fits

  pub below_rest : StandBelow (trees_between w after end)
  below_rest = record { level = below.level; deep = below.deep; fits = rest_at w place end after below.level step below.fits }

pub ruleset copies = (tag_read, payload_read, below_below, below_rest)

may_be_named : (level : ℕ) (xref : Option Bytes) → is_xref_at level xref ≡ true → may_be_xref xref ≡ true
may_be_named level None e = refl
may_be_named level (Some name) e = (and_parts (level == 0) (is_xref name) e).1

module _ (w : Trees) (place end after : ℕ) (step : IsStep w place end after) (fits : are_at 0 (trees_between w place end) ≡ true) where
  pub record_tag : is_tag (structure_at w place).tag ≡ true
  record_tag = tag_at w place end after 0 step fits

  pub record_payload : is_payload_at 0 (structure_at w place).payload ≡ true
  record_payload = payload_at w place end after 0 step fits

  pub record_below : StandBelow (trees_between w (place + 1) after)
  record_below = below_first w place end after 0 step fits

  pub record_rest : are_at 0 (trees_between w after end) ≡ true
  record_rest = rest_at w place end after 0 step fits

  pub record_xref : may_be_xref (structure_at w place).xref ≡ true
  record_xref = may_be_named 0 (structure_at w place).xref (xref_at w place end after 0 step fits)

pub ruleset record_copies = (record_tag, record_payload, record_below, record_rest, record_xref)

beside_record : (rs : List RecordNode) (r : RecordNode) (u : Trees) → beside (record_trees (rs ++ r ∷ [])) u ≡ beside (record_trees rs) (tree (structure_of r.xref r.node) r.node.children u)
beside_record [] r u = refl
beside_record (x ∷ xs) r u = ap (tree (structure_of x.xref x.node) x.node.children) (beside_record xs r u)

-- a step of copying records
pub record_more : (w : Trees) (place end after : ℕ) (items now : List RecordNode) (r : RecordNode) (all : Trees) → IsStep w place end after
    → r.xref ≡ (structure_at w place).xref → r.node.tag ≡ (structure_at w place).tag → r.node.payload ≡ (structure_at w place).payload → r.node.children ≡ trees_between w (place + 1) after
    → beside (record_trees items) (trees_between w place end) ≡ all → now ≡ items ++ r ∷ [] → beside (record_trees now) (trees_between w after end) ≡ all
record_more w place end after items now r all step xref tag payload children told e =
    let n = trees_between w after end in
    let same : structure_of r.xref r.node ≡ structure_at w place = rw (xref, tag, payload) refl in
    rw e (beside_record items r n ∙ rw (same, children, sym step.first) told)

-- HEAD and the records are the document
pub document_copied : (w : Trees) (end after : ℕ) (head : Tree) (records : List RecordNode) → is_document w ≡ true → IsStep w 0 end after → trees_between w 0 end ≡ w
    → head.tag ≡ (structure_at w 0).tag → head.payload ≡ (structure_at w 0).payload → head.children ≡ trees_between w 1 after → record_trees records ≡ trees_between w after end → document_trees head records ≡ w
document_copied w end after head records d step all tag payload children rest =
    let whole : tree (structure_at w 0) (trees_between w 1 after) (trees_between w after end) ≡ w = sym step.first ∙ all in
    let bare : (structure_at w 0).xref ≡ None = head_bare (structure_at w 0) (trees_between w 1 after) (trees_between w after end) (ap is_document whole ∙ d) in
    let same : structure_of None head ≡ structure_at w 0 = rw (tag, payload, sym bare) refl in
    rw (same, children, rest) whole
  where
    none_of : (o : Option Bytes) → is_none o ≡ true → o ≡ None
    none_of None h = refl
    none_of (Some name) h = absurd (true≢false (sym h))

    head_bare : (s : Structure) (b n : Trees) → is_document (tree s b n) ≡ true → s.xref ≡ None
    head_bare s b n h = none_of s.xref (document_is s b n h).unnamed

pub some_tree : (w : Trees) (end : ℕ) → is_document w ≡ true → trees_between w 0 end ≡ w → trees_between w 0 end ≢ none
some_tree w end d all e = true≢false (sym d ∙ ap is_document (sym all ∙ e))

pub placed_all : (w : Trees) (end : ℕ) → is_document w ≡ true → trees_between w 0 end ≡ w → are_at 0 (trees_between w 0 end) ≡ true
placed_all w end d all = rw all (at_of_document w d)
