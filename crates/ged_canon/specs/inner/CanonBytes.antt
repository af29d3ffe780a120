-- Nothing here need be believed: only private contracts and proofs cite it.
-- The canonical spelling of HEAD and the records, as it is written; only private functions cite this.
use Rattle.std.specs.Prelude.{◌≡◌, ◌↔◌, ℕ, Bool, true, IsTrue, List, [], Option, Some, None, Result, OnOk}
use Rattle.std.specs.List.{AllByRecursion}
use Rattle.ged_line.specs.Bytes.{Bytes}
use Rattle.ged_line.specs.Spelling.{spelled_lines}
use Rattle.ged_tree.specs.Trees.{Trees}
use Rattle.ged_tree.specs.Documents.{is_document, are_at}
use Rattle.ged_tree.specs.DocumentLines.{lines_of}
use Rattle.ged_link.specs.Links.{IsAmong}
use Rattle.ged_schema.specs.declared.context.Context.TheVariants.{File}
use Rattle.ged_canon.specs.declared.edition.Edition.{Edition}
use Rattle.ged_canon.specs.declared.writer.answer.Answer.{Answer}
use Rattle.ged_canon.specs.declared.writer.plan.Plan.{Plan}
use Rattle.ged_canon.specs.declared.writer.rank.RankedSibling.{RankedSibling}
use Rattle.ged_canon.specs.Steps.{renamed}
use Rattle.ged_canon.specs.inner.Working.{is_named, each_used, number_among, number_of, IsNumberingOf}
use Rattle.ged_canon.specs.inner.Siblings.{StandsRanked, sibling_trees}
use Rattle.ged_canon.specs.inner.Written.{Appends}

-- the names are those that some pointer of the document has
abbrev pub AreNamed : Trees → List Bytes → Type 0
AreNamed d names = (name : Bytes) → (is_named d name ≡ true) ↔ IsAmong name names

-- the number of an identifier among names that are counted from 1 on; 0 where there is none
abbrev pub number_at : List Bytes → Option Bytes → ℕ
number_at names None = 0
number_at names (Some name) = number_among 1 names name

-- HEAD and records, those whose identifiers are used with these, and with their numbers where they have some
abbrev pub numbered_siblings : (Bytes → Bool) → Edition → List Bytes → Trees → List RankedSibling → Trees
numbered_siblings used edition names d siblings = renamed (number_of 1 names) (sibling_trees used edition File d siblings)

-- the lines of these
abbrev pub spelled_siblings : (Bytes → Bool) → Edition → List Bytes → Trees → List RankedSibling → Bytes
spelled_siblings used edition names d siblings = spelled_lines (lines_of 0 (numbered_siblings used edition names d siblings))

-- HEAD and records can be written, each with its identifier where that is used
pub record CanWriteRecords (used : Bytes → Bool) (edition : Edition) (d : Trees) (siblings : List RankedSibling) : Type 0 where
  pub document : is_document d ≡ true
  pub within : AllByRecursion (StandsRanked d) siblings
  pub stand : are_at 0 (sibling_trees used edition File d siblings) ≡ true

-- their lines are appended to an answer, by the names to which the plan's numbers belong
abbrev pub WritesRecords : {T E : Type 0} → Trees → Plan → Result T E → Answer → Answer → List RankedSibling → Type 0
WritesRecords d plan result old new siblings =
    (names : List Bytes) → IsNumberingOf d names plan.index.now plan.numbers.now → AreNamed d names → OnOk result (Appends plan.file.now old new (spelled_siblings (is_named d) plan.edition names d siblings))

-- where no record has a new number, their lines are appended with all identifiers as they are
abbrev pub WritesKept : {T E : Type 0} → Trees → Plan → Result T E → Answer → Answer → List RankedSibling → Type 0
WritesKept d plan result old new siblings =
    IsNumberingOf d [] plan.index.now plan.numbers.now → OnOk result (Appends plan.file.now old new (spelled_siblings each_used plan.edition [] d siblings))

-- HEAD and records of two documents are told to be the same only where their lines are, and wherever they are, by the names to which the
-- plans' numbers belong
abbrev pub TellsSame : Trees → Plan → List RankedSibling → Trees → Plan → List RankedSibling → Bool → Type 0
TellsSame d plan siblings e other_plan others same =
    (names other_names : List Bytes) → IsNumberingOf d names plan.index.now plan.numbers.now → AreNamed d names
    → IsNumberingOf e other_names other_plan.index.now other_plan.numbers.now → AreNamed e other_names
    → (IsTrue same → spelled_siblings (is_named d) plan.edition names d siblings ≡ spelled_siblings (is_named e) other_plan.edition other_names e others)
    × (numbered_siblings (is_named d) plan.edition names d siblings ≡ numbered_siblings (is_named e) other_plan.edition other_names e others → IsTrue same)
