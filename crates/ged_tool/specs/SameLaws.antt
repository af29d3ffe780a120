-- Laws of comparing files and of what `lines` writes, each the contract of a public function.
use Rattle.std.specs.Prelude.{◌≡◌, ◌↔◌, ℕ, Bool, true}
use Rattle.ged_line.specs.Bytes.{Bytes}
use Rattle.ged_line.specs.Files.{IsRespelling}
use Rattle.ged_tree.specs.Trees.{Trees}
use Rattle.ged_schema.specs.declared.profile.Profile.{Profile}
use Rattle.ged_canon.specs.declared.edition.Edition.{Edition}
use Rattle.ged_faults.specs.declared.faults.FileFault.{FileFault}
use Rattle.ged_accept.specs.Accepted.{IsAccepted, FileFaultAt}
use Rattle.ged_tool.specs.Canon.{IsCanon}
use Rattle.ged_tool.specs.Same.{AreCompared, AreComparedBy, IsInForm, relation_of}
use Rattle.ged_tool.specs.declared.comparison.Form.{Form}
use Rattle.ged_tool.specs.declared.comparison.Form.TheVariants.{Tidy}

-- Comparing two files has at most one answer: so what `same_as` answers is what the laws below say.
abbrev pub OneComparison : Type 0
OneComparison = (profile : Profile) (edition : Edition) (first second : Bytes) (same other : Bool)
    → AreCompared profile edition first second same → AreCompared profile edition first second other → same ≡ other

-- a file that is accepted is the same as itself
abbrev pub SameAsItself : Type 0
SameAsItself = (profile : Profile) (edition : Edition) (file : Bytes) (document : Trees) → IsAccepted profile file document
    → AreCompared profile edition file file true

-- files are compared with one answer in both orders
abbrev pub SameBothWays : Type 0
SameBothWays = (profile : Profile) (edition : Edition) (first second : Bytes) (same : Bool)
    → AreCompared profile edition first second same → AreCompared profile edition second first same

-- a file that is the same as one that is the same as a third is the same as that
abbrev pub SameOnward : Type 0
SameOnward = (profile : Profile) (edition : Edition) (first second third : Bytes) → AreCompared profile edition first second true
    → AreCompared profile edition second third true → AreCompared profile edition first third true

-- files are the same exactly where their canonical bytes are equal
abbrev pub SameByCanon : Type 0
SameByCanon = (profile : Profile) (edition : Edition) (first second first_canonical second_canonical : Bytes)
    → IsCanon profile edition first first_canonical → IsCanon profile edition second second_canonical
    → AreCompared profile edition first second true ↔ (first_canonical ≡ second_canonical)

-- files are the same in a form exactly where their bytes in that form are equal
abbrev pub SameByBytes : Type 0
SameByBytes = (form : Form) (profile : Profile) (edition : Edition) (first second first_bytes second_bytes : Bytes)
    → IsInForm form profile edition first first_bytes → IsInForm form profile edition second second_bytes
    → AreComparedBy profile (relation_of form edition) first second true ↔ (first_bytes ≡ second_bytes)

-- files that are the same in the tidy form are the same in the canonical form
abbrev pub TidySameIsSame : Type 0
TidySameIsSame = (profile : Profile) (edition : Edition) (first second : Bytes) → AreComparedBy profile (relation_of Tidy edition) first second true
    → AreCompared profile edition first second true

-- what `lines` writes is accepted exactly where the file is, with the same document
abbrev pub LinesKeepAcceptance : Type 0
LinesKeepAcceptance = (profile : Profile) (file text : Bytes) (document : Trees) → IsRespelling file text
    → IsAccepted profile file document ↔ IsAccepted profile text document

-- it has the file's fault, at the same line
abbrev pub LinesKeepFault : Type 0
LinesKeepFault = (profile : Profile) (file text : Bytes) (line : ℕ) (kind : FileFault) → IsRespelling file text
    → FileFaultAt profile file line kind ↔ FileFaultAt profile text line kind

-- and the file's canonical bytes
abbrev pub LinesKeepCanon : Type 0
LinesKeepCanon = (profile : Profile) (edition : Edition) (file text canonical : Bytes) → IsRespelling file text
    → IsCanon profile edition file canonical ↔ IsCanon profile edition text canonical
