-- The normal form of a document: substructures and records in the order of their tags, identifiers numbered, and payloads
-- without what has no meaning (FamilySearch GEDCOM 7.0, "Structures", "Lines", "Date" and "Integer").
use Rattle.std.specs.Prelude.{◌≡◌, ◌≢◌, ℕ, ◌+◌, true, false, List, [], ◌∷◌, ◌++◌, map, Option, ⊤, codes}
use Rattle.std.specs.List.{AllByRecursion}
use Rattle.std.specs.Int.Digits.{digits_of}
use Rattle.std.specs.declared.cmp.Ordering.TheVariants.{Greater}
use Rattle.ged_line.specs.Bytes.{Bytes}
use Rattle.ged_line.specs.Names.{tag_order}
use Rattle.ged_tree.specs.declared.payload.Payload.{Payload}
use Rattle.ged_tree.specs.declared.payload.Payload.TheVariants.{Text}
use Rattle.ged_tree.specs.Trees.{Trees, none, tree, records_of}
use Rattle.ged_value.specs.Words.{words_of}
use Rattle.ged_value.specs.Default.{default_word}
use Rattle.ged_value.specs.Zeros.{has_leading_zero}
use Rattle.ged_value.specs.ZeroKinds.{has_integers}
use Rattle.ged_link.specs.Links.{IsAmong, xrefs, IsNamed}
use Rattle.ged_schema.specs.declared.context.Context.{Context}
use Rattle.ged_schema.specs.declared.context.Context.TheVariants.{File}
use Rattle.ged_schema.specs.Rows.{Row}
use Rattle.ged_schema.specs.Tables.{row, context_below}
use Rattle.ged_canon.specs.declared.edition.Edition.{Edition}
use Rattle.ged_canon.specs.declared.edition.Edition.TheVariants.{Second}
use Rattle.ged_canon.specs.Steps.{has_calendar, has_kind, Equivalent}

-- a line in which nothing can be left out at a place with this row
pub record IsBrief (edition : Edition) (r : Option Row) (line : Bytes) : Type 0 where
  pub no_calendar : has_kind has_calendar r ≡ true → AllByRecursion (λ word. word ≢ default_word) (words_of line)
  pub no_leading_zero : edition ≡ Second → has_kind has_integers r ≡ true → AllByRecursion (λ word. has_leading_zero word ≡ false) (words_of line)

-- a text of several lines, the void pointer and a pointer are always brief
abbrev pub IsBriefPayload : Edition → Option Row → Payload → Type 0
IsBriefPayload edition r (Text (line ∷ [])) = IsBrief edition r line
IsBriefPayload edition r payload = ⊤

-- no structure of trees side by side is followed by one whose tag stands before its own in the order of tags
abbrev pub InOrder : Trees → Type 0
InOrder (tree s below (tree t under next)) = (tag_order s.tag t.tag ≢ Greater) × InOrder (tree t under next)
InOrder _ = ⊤

-- each payload is brief, and what stands below each structure is in the order of tags
abbrev pub AreNormal : Edition → Context → Trees → Type 0
AreNormal edition context none = ⊤
AreNormal edition context (tree s below next) =
    IsBriefPayload edition (row context s.tag) s.payload
    × InOrder below
    × AreNormal edition (context_below context s.tag) below
    × AreNormal edition context next

-- the name X1, X2, and so on
abbrev pub numbered : ℕ → Bytes
numbered n = codes "X" ++ map (λ digit. 0x30 + digit) (digits_of 10 n)

-- the names, in order, are numbered from n on
abbrev pub AreNumbered : ℕ → List Bytes → Type 0
AreNumbered n [] = ⊤
AreNumbered n (name ∷ names) = (name ≡ numbered n) × AreNumbered (n + 1) names

-- the document is normal
pub record Normal (edition : Edition) (d : Trees) : Type 0 where
  pub places : AreNormal edition File d
  pub records_in_order : InOrder (records_of d)
  -- the records with an identifier are X1, X2, and so on, and a pointer names each
  pub xrefs_numbered : AreNumbered 1 (xrefs d)
  pub xrefs_used : (name : Bytes) → IsAmong name (xrefs d) → IsNamed d name

-- the second document is normal, and the first becomes it by steps
pub record IsNormalForm (edition : Edition) (d e : Trees) : Type 0 where
  pub equivalent : Equivalent edition d e
  pub normal : Normal edition e
