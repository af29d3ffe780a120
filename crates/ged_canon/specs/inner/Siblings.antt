-- Nothing here need be believed: only private contracts and proofs cite it.
-- The trees of structures that are listed by their places, as they are written; only private functions cite this.
use Rattle.std.specs.Prelude.{◌≡◌, ◌<◌, ◌≤◌, ◌%◌, ℕ, Bool, List, [], ◌∷◌, Option, Some, None, slice_index_or}
use Rattle.ged_line.specs.Bytes.{Bytes}
use Rattle.ged_tree.specs.Trees.{Trees, none, tree, trees_count}
use Rattle.ged_tree.specs.Places.{structure_at, below_at}
use Rattle.ged_schema.specs.declared.context.Context.{Context}
use Rattle.ged_schema.specs.Tables.{context_below}
use Rattle.ged_canon.specs.declared.edition.Edition.{Edition}
use Rattle.ged_canon.specs.declared.writer.rank.RankedSibling.{RankedSibling}
use Rattle.ged_canon.specs.declared.writer.rank.TaggedSibling.{TaggedSibling}
use Rattle.ged_canon.specs.declared.writer.siblings.Sibling.{Sibling}
use Rattle.ged_link.specs.Links.{IsRecordNumber}
use Rattle.ged_link.specs.inner.Identifiers.{with_xref}
use Rattle.ged_canon.specs.inner.Ranks.{tag_rank, rest_of_tag}
use Rattle.ged_canon.specs.inner.Working.{is_named, used_xref, used_structure, brief_structure, grouped, sorted}

-- a sibling stands at a place of the document, and has the tag of the structure there
abbrev pub StandsIn : Trees → Sibling → Type 0
StandsIn d sibling = (sibling.place < trees_count d) × (sibling.tag.now ≡ (structure_at d sibling.place).tag)

-- a sibling's tag is that of the structure at its place
abbrev pub own_tag : Trees → RankedSibling → Bytes
own_tag d sibling = (structure_at d sibling.place).tag

-- a sibling stands at a place of the document, and has the rank of the tag there, which is of bytes
pub record StandsRanked (d : Trees) (sibling : RankedSibling) : Type 0 where
  pub within : sibling.place < trees_count d
  pub ranked : sibling.rank ≡ tag_rank (own_tag d sibling)
  pub bytes : (at : ℕ) → slice_index_or (own_tag d sibling) at 0 < 256

-- a sibling's rank tells all of its tag, which has at most seven bytes
abbrev pub IsTold : RankedSibling → Type 0
IsTold sibling = sibling.rank % 256 ≤ 8

-- siblings are compared by their ranks, as if these were tags: texts stand in the order of their first numbers, and with 0 in front none
-- of them is GEDC
abbrev pub rank_key : RankedSibling → Bytes
rank_key sibling = 0 ∷ sibling.rank ∷ []

-- or by these, where some rank does not tell all of a tag
abbrev pub sibling_key : Trees → RankedSibling → Bytes
sibling_key d sibling = 0 ∷ sibling.rank ∷ rest_of_tag sibling.rank (own_tag d sibling)

-- a sibling with its tag has that of its structure
abbrev pub HasOwnTag : Trees → TaggedSibling → Type 0
HasOwnTag d tagged = tagged.tag.now ≡ own_tag d tagged.sibling

-- siblings without their tags
abbrev pub untagged : List TaggedSibling → List RankedSibling
untagged [] = []
untagged (first ∷ rest) = first.sibling ∷ untagged rest

-- siblings in a context, each with its identifier where that is used, its payload brief, and what stands below it in order
abbrev pub sibling_trees : (Bytes → Bool) → Edition → Context → Trees → List RankedSibling → Trees
sibling_trees used edition context d [] = none
sibling_trees used edition context d (first ∷ rest) =
    tree (brief_structure edition context (used_structure used (structure_at d first.place)))
    (sorted edition (context_below context (own_tag d first)) (below_at d first.place))
    (sibling_trees used edition context d rest)

-- siblings are put in the order of their tags, those with one tag in the order that they had
abbrev pub AreGrouped : Trees → List RankedSibling → List RankedSibling → Type 0
AreGrouped d before after = (used : Bytes → Bool) (edition : Edition) (context : Context) →
    sibling_trees used edition context d after ≡ grouped (sibling_trees used edition context d before)

-- the identifiers of siblings that some pointer names, in order
abbrev pub sibling_names : Trees → List RankedSibling → List Bytes
sibling_names d [] = []
sibling_names d (first ∷ rest) = with_xref (used_xref (is_named d) (structure_at d first.place).xref) (sibling_names d rest)

-- which record has this identifier, if some pointer names it: the record's number, or that there is none such
abbrev pub TellsUsed : Trees → Option Bytes → Option ℕ → Type 0
TellsUsed d xref None = used_xref (is_named d) xref ≡ None
TellsUsed d xref (Some number) = (name : Bytes) × IsRecordNumber d number name × (used_xref (is_named d) xref ≡ Some name)
