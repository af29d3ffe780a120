-- What may be done to a document without changing what it says, one small step at a time
-- (FamilySearch GEDCOM 7.0, "Structures", "Lines", "Date" and "Integer").
use Rattle.std.specs.Prelude.{◌≡◌, ◌≢◌, Bool, true, false, cond, List, [], ◌∷◌, map, Option, Some, None}
use Rattle.std.specs.Option.{option_map, option_map_or}
use Rattle.std.specs.Str.{bytes_eq}
use Rattle.ged_line.specs.Bytes.{Bytes}
use Rattle.ged_tree.specs.declared.payload.Payload.{Payload}
use Rattle.ged_tree.specs.declared.payload.Payload.TheVariants.{Pointer, Text}
use Rattle.ged_tree.specs.Trees.{Structure, Trees, none, tree}
use Rattle.ged_tree.specs.Documents.{is_document}
use Rattle.ged_value.specs.declared.kind.Kind.{Kind}
use Rattle.ged_value.specs.declared.kind.Kind.TheVariants.{DateValue, DatePeriod}
use Rattle.ged_value.specs.Words.{words_of}
use Rattle.ged_value.specs.Default.{LeavesOut}
use Rattle.ged_value.specs.Zeros.{LeavesOutZero}
use Rattle.ged_value.specs.ZeroKinds.{has_integers}
use Rattle.ged_link.specs.Links.{IsAmong, AreDistinct, xrefs, IsNamed}
use Rattle.ged_schema.specs.declared.context.Context.{Context}
use Rattle.ged_schema.specs.declared.context.Context.TheVariants.{File}
use Rattle.ged_schema.specs.Rows.{Row}
use Rattle.ged_schema.specs.Tables.{row, context_below}
use Rattle.ged_schema.specs.Payloads.{FitsRow}
use Rattle.ged_canon.specs.declared.edition.Edition.{Edition}
use Rattle.ged_canon.specs.declared.edition.Edition.TheVariants.{Second}

-- Spelling.

-- the kinds of dates that may name a calendar
abbrev pub has_calendar : Kind → Bool
has_calendar DateValue = true
has_calendar DatePeriod = true
has_calendar _ = false

-- there is a row, and its kind passes the test
abbrev pub has_kind : (Kind → Bool) → Option Row → Bool
has_kind test r = option_map_or (λ some. test some.kind) r false

-- the second line is the first without something that has no meaning at a place with this row: one word GREGORIAN, the default
-- calendar's, or, in the second edition, one leading zero
pub data Shortened (edition : Edition) (r : Option Row) (longer shorter : Bytes) : Type 0 where
  calendar : has_kind has_calendar r ≡ true → LeavesOut (words_of longer) (words_of shorter) → Shortened edition r longer shorter
  leading_zero : edition ≡ Second → has_kind has_integers r ≡ true → LeavesOutZero (words_of longer) (words_of shorter)
      → Shortened edition r longer shorter

-- a payload of one line is shortened, and both lines are of the row's kind
pub data Respelt (edition : Edition) (r : Option Row) : Payload → Payload → Type 0 where
  respelt : (longer shorter : Bytes) → Shortened edition r longer shorter → FitsRow r (Text (longer ∷ [])) → FitsRow r (Text (shorter ∷ []))
      → Respelt edition r (Text (longer ∷ [])) (Text (shorter ∷ []))

-- Changes at one place.

-- trees that stand side by side in a context become others by a change of the first of them
pub data Change (edition : Edition) (context : Context) : Trees → Trees → Type 0 where
  -- two neighbours with different tags change places
  exchange : (s t : Structure) (below_s below_t next : Trees) → s.tag ≢ t.tag
      → Change edition context (tree s below_s (tree t below_t next)) (tree t below_t (tree s below_s next))
  -- a payload is respelt, in either direction
  leave_out : (s : Structure) (longer shorter : Payload) (below next : Trees) → Respelt edition (row context s.tag) longer shorter
      → Change edition context (tree (record s { payload = longer }) below next) (tree (record s { payload = shorter }) below next)
  put_in : (s : Structure) (longer shorter : Payload) (below next : Trees) → Respelt edition (row context s.tag) longer shorter
      → Change edition context (tree (record s { payload = shorter }) below next) (tree (record s { payload = longer }) below next)

-- trees in a context become others by a change at one place, among them or deeper
pub data Somewhere (Changes : Context → Trees → Trees → Type 0) : Context → Trees → Trees → Type 0 where
  here : {context : Context} {t u : Trees} → Changes context t u → Somewhere Changes context t u
  under : {context : Context} {t u : Trees} (s : Structure) (next : Trees) → Somewhere Changes (context_below context s.tag) t u
      → Somewhere Changes context (tree s t next) (tree s u next)
  later : {context : Context} {t u : Trees} (s : Structure) (below : Trees) → Somewhere Changes context t u
      → Somewhere Changes context (tree s below t) (tree s below u)

-- New identifiers.

-- the new name of a name, which is itself where the pairs of old and new names have none
abbrev pub new_name : List (Bytes × Bytes) → Bytes → Bytes
new_name [] name = name
new_name (pair ∷ pairs) name = cond (bytes_eq pair.0 name) pair.1 (new_name pairs name)

abbrev pub renamed_payload : (Bytes → Bytes) → Payload → Payload
renamed_payload new (Pointer name) = Pointer (new name)
renamed_payload new payload = payload

-- each identifier and each pointer gets its new name
abbrev pub renamed : (Bytes → Bytes) → Trees → Trees
renamed new none = none
renamed new (tree s below next) =
    tree (record s { xref = option_map new s.xref; payload = renamed_payload new s.payload }) (renamed new below) (renamed new next)

-- the records get new identifiers, and the pointers with them, all at once; each pair has a record's old name and its new one
pub record Renamed (d e : Trees) : Type 0 where
  pub pairs : List (Bytes × Bytes)
  pub olds_are_xrefs : map (λ pair. pair.0) pairs ≡ xrefs d
  pub olds_distinct : AreDistinct (xrefs d)
  pub news_distinct : AreDistinct (map (λ pair. pair.1) pairs)
  -- a pointer that names no record names no new name either
  pub no_other_names_a_new : (name : Bytes) → IsNamed d name → IsAmong name (map (λ pair. pair.1) pairs) → IsAmong name (xrefs d)
  pub all_at_once : e ≡ renamed (new_name pairs) d

-- one of the trees side by side gains an identifier
pub data Gains (name : Bytes) : Trees → Trees → Type 0 where
  gains : (s : Structure) (below next : Trees)
      → Gains name (tree (record s { xref = None }) below next) (tree (record s { xref = Some name }) below next)
  after : {t u : Trees} (s : Structure) (below : Trees) → Gains name t u → Gains name (tree s below t) (tree s below u)

-- a record gains an identifier that no record has and no pointer names
pub record GainsIdentifier (d e : Trees) : Type 0 where
  pub name : Bytes
  pub no_record_has_it : IsAmong name (xrefs d) → ⊥
  pub no_pointer_names_it : IsNamed d name → ⊥
  pub gained : Gains name d e

-- Steps.

-- what a step does: a change at one place, a renaming of all identifiers, or a name gained or lost
pub data Move (edition : Edition) (d e : Trees) : Type 0 where
  change : Somewhere (Change edition) File d e → Move edition d e
  rename : Renamed d e → Move edition d e
  gain : GainsIdentifier d e → Move edition d e
  lose : GainsIdentifier e d → Move edition d e

-- A step leads from a document to a document: so HEAD stays first, and names stay names.
pub record Step (edition : Edition) (d e : Trees) : Type 0 where
  pub from : is_document d ≡ true
  pub to : is_document e ≡ true
  pub move : Move edition d e

-- one thing becomes another by a finite number of steps
pub data Chain {A : Type 0} (R : A → A → Type 0) : A → A → Type 0 where
  done : {a : A} → Chain R a a
  then : {a b c : A} → R a b → Chain R b c → Chain R a c

-- a document becomes another by steps
abbrev pub Equivalent : Edition → Trees → Trees → Type 0
Equivalent edition = Chain (Step edition)
