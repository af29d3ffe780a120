-- Nothing here need be believed: only private contracts and proofs cite it.
-- The normal form of a document, as it is made: unused identifiers are dropped, trees sorted, payloads respelt, identifiers
-- numbered. Only proofs and private functions cite what stands here.
use Rattle.std.specs.Prelude.{◌≡◌, ⊤, ℕ, ◌+◌, Bool, true, false, if◌then◌else◌, ◌||◌, ◌&&◌, not, List, [], ◌∷◌, map, filter, Option, Some, None, slice_get, slice_index_or}
use Rattle.std.specs.Str.{bytes_eq}
use Rattle.std.specs.Ordering.{is_gt}
use Rattle.ged_line.specs.Bytes.{Bytes}
use Rattle.ged_line.specs.Names.{tag_order}
use Rattle.ged_tree.specs.declared.payload.Payload.{Payload}
use Rattle.ged_tree.specs.declared.payload.Payload.TheVariants.{Void, Pointer, Text}
use Rattle.ged_tree.specs.Trees.{Structure, Trees, none, tree, records_of}
use Rattle.ged_value.specs.Words.{words_of, joined}
use Rattle.ged_value.specs.Default.{default_word, is_other}
use Rattle.ged_value.specs.Zeros.{has_leading_zero, trim_zeros}
use Rattle.ged_link.specs.declared.index.Index.{Index}
use Rattle.ged_link.specs.Links.{IsAmong, identifiers, xrefs, IsRecordNumber, IsUsed}
use Rattle.ged_link.specs.Indexes.{IsIndexOf}
use Rattle.ged_schema.specs.declared.context.Context.{Context}
use Rattle.ged_schema.specs.declared.context.Context.TheVariants.{File}
use Rattle.ged_schema.specs.Rows.{Row}
use Rattle.ged_schema.specs.Tables.{row, context_below}
use Rattle.ged_canon.specs.declared.edition.Edition.{Edition}
use Rattle.ged_canon.specs.declared.edition.Edition.TheVariants.{First, Second}
use Rattle.ged_canon.specs.Steps.{renamed}
use Rattle.ged_canon.specs.inner.StepParts.{with_payload, with_identifier, is_dated, is_numeric}
use Rattle.ged_canon.specs.Normal.{numbered}

-- Use, as a test.

abbrev pub names : Payload → Bytes → Bool
names Void name = false
names (Pointer target) name = bytes_eq target name
names (Text lines) name = false

abbrev pub is_named : Trees → Bytes → Bool
is_named none name = false
is_named (tree s below next) name = names s.payload name || (is_named below name || is_named next name)

-- an identifier, where it is used
abbrev pub used_xref : (Bytes → Bool) → Option Bytes → Option Bytes
used_xref used None = None
used_xref used (Some name) = if used name then Some name else None

abbrev pub used_structure : (Bytes → Bool) → Structure → Structure
used_structure used s = with_identifier s (used_xref used s.xref)

-- every identifier counts as used
abbrev pub each_used : Bytes → Bool
each_used name = true

-- trees side by side, each with its identifier where that is used
abbrev pub used_trees : (Bytes → Bool) → Trees → Trees
used_trees used none = none
used_trees used (tree s below next) = tree (used_structure used s) below (used_trees used next)

abbrev pub used_document : Trees → Trees
used_document d = used_trees (is_named d) d

-- Spelling.

-- the words without the default calendar's, where the row has dates
abbrev pub kept_words : Option Row → List Bytes → List Bytes
kept_words r words = if is_dated r then filter is_other words else words

abbrev pub is_second : Edition → Bool
is_second First = false
is_second Second = true

-- the words without leading zeros, where the edition leaves them out and the row has Integers
abbrev pub trimmed_words : Edition → Option Row → List Bytes → List Bytes
trimmed_words edition r words = if is_second edition && is_numeric r then map trim_zeros words else words

abbrev pub brief_words : Edition → Option Row → List Bytes → List Bytes
brief_words edition r words = trimmed_words edition r (kept_words r words)

-- whether the edition leaves something out in payloads at a place with this row
abbrev pub may_shorten : Edition → Option Row → Bool
may_shorten edition r = is_dated r || (is_second edition && is_numeric r)

abbrev pub brief_line : Edition → Option Row → Bytes → Bytes
brief_line edition r line = joined (brief_words edition r (words_of line))

abbrev pub brief : Edition → Option Row → Payload → Payload
brief edition r Void = Void
brief edition r (Pointer name) = Pointer name
brief edition r (Text []) = Text []
brief edition r (Text (line ∷ [])) = Text (brief_line edition r line ∷ [])
brief edition r (Text (line ∷ next ∷ lines)) = Text (line ∷ next ∷ lines)

abbrev pub brief_structure : Edition → Context → Structure → Structure
brief_structure edition context s = with_payload s (brief edition (row context s.tag) s.payload)

-- whether a word stays, where the default calendar's is left out, or leading zeros are
abbrev pub is_brief_word : Bool → Bool → Bytes → Bool
is_brief_word without_calendar without_zeros word =
    not (without_calendar && bytes_eq word default_word) && not (without_zeros && has_leading_zero word)

-- Order.

-- the first tag may not stand straight before the second
unfoldable pub falls : Bytes → Bytes → Bool
falls a b = is_gt (tag_order a b)

-- a tree, put before the first whose tag does not stand before its own
abbrev pub put : Structure → Trees → Trees → Trees
put s below none = tree s below none
put s below (tree t below_t next) =
    if falls s.tag t.tag then tree t below_t (put s below next)
    else tree s below (tree t below_t next)

-- trees put in one after the other, the last first
abbrev pub grouped : Trees → Trees
grouped none = none
grouped (tree s below next) = put s below (grouped next)

-- trees in the order of their tags, at every depth, each payload brief
abbrev pub sorted : Edition → Context → Trees → Trees
sorted edition context none = none
sorted edition context (tree s below next) =
    put (brief_structure edition context s) (sorted edition (context_below context s.tag) below) (sorted edition context next)

-- the same before these trees themselves are put in order
abbrev pub each_sorted : Edition → Context → Trees → Trees
each_sorted edition context none = none
each_sorted edition context (tree s below next) =
    tree (brief_structure edition context s) (sorted edition (context_below context s.tag) below) (each_sorted edition context next)

-- of a document, HEAD stays first
abbrev pub sorted_document : Edition → Trees → Trees
sorted_document edition none = none
sorted_document edition (tree s below next) =
    tree (brief_structure edition File s) (sorted edition (context_below File s.tag) below) (sorted edition File next)

-- Numbers.

-- the number of a name among names that are counted from n on; itself where it is none of them
abbrev pub number_of : ℕ → List Bytes → Bytes → Bytes
number_of n [] name = name
number_of n (first ∷ rest) name = if bytes_eq first name then numbered n else number_of (n + 1) rest name

-- the place of a name among names that are counted from n on; 0 where it is none of them
abbrev pub number_among : ℕ → List Bytes → Bytes → ℕ
number_among n [] name = 0
number_among n (first ∷ rest) name = if bytes_eq first name then n else number_among (n + 1) rest name

-- records of a document have these names, and the numbers, by the numbers of the document's records, are the places of the
-- records' names among them; a record without an identifier has 0
pub record AreNumbersOf (d : Trees) (names : List Bytes) (numbers : List ℕ) : Type 0 where
  pub known : (name : Bytes) → IsAmong name names → (number : ℕ) × IsRecordNumber d number name
  pub each : (number : ℕ) (name : Bytes) → IsRecordNumber d number name → slice_index_or numbers number 0 ≡ number_among 1 names name
  pub unnamed : (number : ℕ) → slice_get (identifiers (records_of d)) number ≡ Some None → slice_index_or numbers number 0 ≡ 0

-- so are they for a document that has this index
abbrev pub IsNumberingOf : Trees → List Bytes → Index → List ℕ → Type 0
IsNumberingOf d names index numbers = IsIndexOf d index × AreNumbersOf d names numbers

abbrev pub numbered_document : Trees → Trees
numbered_document d = renamed (number_of 1 (xrefs d)) d

abbrev pub canon : Edition → Trees → Trees
canon edition d = numbered_document (sorted_document edition (used_document d))

-- Numbers, as they are tested.

abbrev pub xref_count : Option Bytes → ℕ
xref_count None = 0
xref_count (Some name) = 1

-- an identifier is the one with number n, and some pointer names the record, which has this number among the document's
abbrev pub HasOwnNumber : Trees → ℕ → ℕ → Option Bytes → Type 0
HasOwnNumber d n number None = ⊤
HasOwnNumber d n number (Some name) = (name ≡ numbered n) × IsUsed d number

-- so it is of each of the trees side by side, the first of which has this number
abbrev pub HaveOwnNumbers : Trees → ℕ → ℕ → Trees → Type 0
HaveOwnNumbers d n number none = ⊤
HaveOwnNumbers d n number (tree s below next) = HasOwnNumber d n number s.xref × HaveOwnNumbers d (n + xref_count s.xref) (number + 1) next
