-- Laws of files that are accepted, and of their faults and notices, each the contract of a public function.
use Rattle.std.specs.Prelude.{◌≡◌, ◌↔◌, ◌⊎◌, ℕ, ◌≤◌, List, []}
use Rattle.ged_line.specs.Bytes.{Bytes}
use Rattle.ged_tree.specs.Trees.{Trees}
use Rattle.ged_link.specs.declared.notices.Notice.{Notice}
use Rattle.ged_schema.specs.declared.profile.Profile.{Profile}
use Rattle.ged_schema.specs.declared.profile.Profile.TheVariants.{Lenient, Strict}
use Rattle.ged_faults.specs.declared.faults.FileFault.{FileFault}
use Rattle.ged_accept.specs.Accepted.{IsAccepted, FileFaultAt}
use Rattle.ged_accept.specs.Notices.{AreNotices, IsVerdict}

-- a file is accepted with one document at most
abbrev pub OneAccepted : Type 0
OneAccepted = (profile other_profile : Profile) (file : Bytes) (document other : Trees) → IsAccepted profile file document
    → IsAccepted other_profile file other → document ≡ other

-- a file that is accepted has no fault
abbrev pub AcceptedIsFaultless : Type 0
AcceptedIsFaultless = (profile : Profile) (file : Bytes) (document : Trees) → IsAccepted profile file document
    → (line : ℕ) (kind : FileFault) → ¬ (FileFaultAt profile file line kind)

-- the file is accepted under the profile or has a fault
abbrev pub IsAcceptedOrFaulty : Profile → Bytes → Type 0
IsAcceptedOrFaulty profile file =
    ((document : Trees) × IsAccepted profile file document)
    ⊎ ((line : ℕ) × (kind : FileFault) × FileFaultAt profile file line kind)

-- a file has one fault at most, at one line
abbrev pub OneFileFault : Type 0
OneFileFault = (profile : Profile) (file : Bytes) (line other_line : ℕ) (kind other : FileFault) → FileFaultAt profile file line kind
    → FileFaultAt profile file other_line other → (line ≡ other_line) × (kind ≡ other)

-- the strict profile accepts a file exactly where the lenient one does and its document has no notices
abbrev pub StrictRefusesNotices : Type 0
StrictRefusesNotices = (file : Bytes) (document : Trees) → IsAccepted Strict file document
    ↔ (IsAccepted Lenient file document × AreNotices document [])

-- a fault of a file has a line from 1 on
abbrev pub LinesFromOne : Type 0
LinesFromOne = (profile : Profile) (file : Bytes) (line : ℕ) (kind : FileFault) → FileFaultAt profile file line kind → 1 ≤ line

-- a document has one list of notices
abbrev pub OneListOfNotices : Type 0
OneListOfNotices = (document : Trees) (notices others : List Notice) → AreNotices document notices → AreNotices document others → notices ≡ others

-- a document that is accepted has one text that tells so
abbrev pub OneVerdict : Type 0
OneVerdict = (document : Trees) (text other : Bytes) → IsVerdict document text → IsVerdict document other → text ≡ other
