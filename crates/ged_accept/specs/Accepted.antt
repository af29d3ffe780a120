-- Which files are accepted, and what is wrong with each of the others.
use Rattle.std.specs.Prelude.{◌≡◌, ℕ, ◌⊎◌, ⊤}
use Rattle.ged_line.specs.Bytes.{Bytes}
use Rattle.ged_tree.specs.Trees.{Trees}
use Rattle.ged_tree.specs.Building.{HasFile}
use Rattle.ged_tree.specs.FileFaults.{FirstFaultIn}
use Rattle.ged_tree.specs.declared.fault.TreeFault.{TreeFault}
use Rattle.ged_link.specs.Links.{Resolved}
use Rattle.ged_link.specs.LinkFaults.{HasLinkFault}
use Rattle.ged_link.specs.declared.fault.LinkFault.TheVariants.{Duplicate, Dangling}
use Rattle.ged_schema.specs.declared.fault.SchemaAt.{SchemaAt}
use Rattle.ged_schema.specs.declared.profile.Profile.{Profile}
use Rattle.ged_schema.specs.Profiles.{CheckedAs, IsFirstFaultAs}
use Rattle.ged_faults.specs.Faults.{file_fault_of_tree, file_fault_of_tables}
use Rattle.ged_faults.specs.declared.faults.FileFault.{FileFault}
use Rattle.ged_faults.specs.declared.faults.FileFault.TheVariants.{DuplicateXref, DanglingPointer}
use Rattle.ged_faults.specs.declared.faults.Fault.{Fault}
use Rattle.ged_faults.specs.declared.faults.Fault.TheVariants.{InFile, TooLong, ReadFailed, WriteFailed, Memory}

-- the file has the document; its cross-references are resolved, and it is as the structure tables and the profile ask
pub record IsAccepted (profile : Profile) (file : Bytes) (document : Trees) : Type 0 where
  pub read : HasFile document file
  pub resolved : Resolved document
  pub checked : CheckedAs profile document

-- the file's lines are no document's: the first of faults 1 to 16
abbrev pub LinesFaultAt : Bytes → ℕ → FileFault → Type 0
LinesFaultAt file line kind = (fault : TreeFault) × FirstFaultIn file line fault × (kind ≡ file_fault_of_tree fault)

-- the first repeated identifier of the document, or where there is none its first pointer that dangles
abbrev pub XrefFaultAt : Trees → ℕ → FileFault → Type 0
XrefFaultAt document line kind =
    (HasLinkFault document (Duplicate line) × (kind ≡ DuplicateXref))
    ⊎ (HasLinkFault document (Dangling line) × (kind ≡ DanglingPointer))

-- the first thing in which the document is not as the structure tables and the profile ask
abbrev pub TablesFaultAt : Profile → Trees → ℕ → FileFault → Type 0
TablesFaultAt profile document line kind =
    (at : SchemaAt) × IsFirstFaultAs profile document at × (line ≡ at.line) × (kind ≡ file_fault_of_tables at.fault)

-- the fault of a document under a profile, in its cross-references; or where these are resolved, in its structures
abbrev pub DocumentFaultAt : Profile → Trees → ℕ → FileFault → Type 0
DocumentFaultAt profile document line kind =
    XrefFaultAt document line kind ⊎ (Resolved document × TablesFaultAt profile document line kind)

-- the fault of a file under a profile, and its line: that of its lines; or where these are a document's, that of the document
abbrev pub FileFaultAt : Profile → Bytes → ℕ → FileFault → Type 0
FileFaultAt profile file line kind =
    LinesFaultAt file line kind
    ⊎ ((document : Trees) × HasFile document file × DocumentFaultAt profile document line kind)

-- why there is no answer: a fault of the file at a line where it stands, or want of memory
abbrev pub IsRefusal : (ℕ → FileFault → Type 0) → Fault → Type 0
IsRefusal Stands (InFile line kind) = Stands line kind
IsRefusal Stands (Memory error) = ⊤
IsRefusal Stands TooLong = ⊥
IsRefusal Stands ReadFailed = ⊥
IsRefusal Stands WriteFailed = ⊥
