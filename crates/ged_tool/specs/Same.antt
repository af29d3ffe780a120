-- Whether two files are the same, and what is wrong with the one that cannot be compared.
use Rattle.std.specs.Prelude.{◌↔◌, Bool, IsTrue}
use Rattle.ged_line.specs.Bytes.{Bytes}
use Rattle.ged_tree.specs.Trees.{Trees}
use Rattle.ged_schema.specs.declared.profile.Profile.{Profile}
use Rattle.ged_canon.specs.declared.edition.Edition.{Edition}
use Rattle.ged_canon.specs.Steps.{Equivalent}
use Rattle.ged_canon.specs.Tidy.{EquivalentInPlace}
use Rattle.ged_accept.specs.Accepted.{IsAccepted, FileFaultAt, IsRefusal}
use Rattle.ged_tool.specs.Canon.{IsCanon}
use Rattle.ged_tool.specs.Tidied.{IsTidied}
use Rattle.ged_tool.specs.declared.comparison.Form.{Form}
use Rattle.ged_tool.specs.declared.comparison.Form.TheVariants.{Canonical, Tidy}
use Rattle.ged_faults.specs.declared.faults.Which.{Which}
use Rattle.ged_faults.specs.declared.faults.Which.TheVariants.{First, Second}
use Rattle.ged_faults.specs.declared.faults.Fault.{Fault}

-- both files are accepted, and they are the same exactly where one's document becomes the other's in this way
pub record AreComparedBy (profile : Profile) (Becomes : Trees → Trees → Type 0) (first second : Bytes) (same : Bool) : Type 0 where
  pub document : Trees
  pub other : Trees
  pub first_accepted : IsAccepted profile first document
  pub second_accepted : IsAccepted profile second other
  pub same_exactly_when : IsTrue same ↔ Becomes document other

-- the same by steps, as in the canonical form
abbrev pub AreCompared : Profile → Edition → (first second : Bytes) → Bool → Type 0
AreCompared profile edition = AreComparedBy profile (Equivalent edition)

-- How a document becomes one that is the same in a form: by steps; or by those at places, so that each identifier stays as it is.
abbrev pub relation_of : Form → Edition → Trees → Trees → Type 0
relation_of Canonical edition = Equivalent edition
relation_of Tidy edition = EquivalentInPlace edition

-- the bytes of a file in a form
abbrev pub IsInForm : Form → Profile → Edition → (file bytes : Bytes) → Type 0
IsInForm Canonical profile edition file bytes = IsCanon profile edition file bytes
IsInForm Tidy profile edition file bytes = IsTidied profile edition file bytes

-- Why the files are not compared: what is wrong with the first; else, where that one is accepted, what is wrong with the
-- second.
abbrev pub IsSameRefusal : Profile → Bytes → Bytes → Which → Fault → Type 0
IsSameRefusal profile first second First fault = IsRefusal (FileFaultAt profile first) fault
IsSameRefusal profile first second Second fault =
    ((document : Trees) × IsAccepted profile first document) × IsRefusal (FileFaultAt profile second) fault
