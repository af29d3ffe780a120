-- A file is accepted or has a fault.
use Rattle.std.proofs.Common.{inl, inr, refl}
use Rattle.ged_line.specs.Bytes.{Bytes}
use Rattle.ged_tree.specs.Trees.{Trees}
use Rattle.ged_tree.specs.Building.{HasFile}
use Rattle.ged_tree.specs.WholeFiles.{HasDocumentOrFault}
use Rattle.ged_link.specs.declared.fault.LinkFault.{LinkFault}
use Rattle.ged_link.specs.declared.fault.LinkFault.TheVariants.{Duplicate, Dangling, Memory}
use Rattle.ged_link.specs.LinkFaults.{HasLinkFault}
use Rattle.ged_link.proofs.CallerLemmas.{resolved_or_fault}
use Rattle.ged_schema.specs.declared.profile.Profile.{Profile}
use Rattle.ged_schema.proofs.CallerLemmas.{checked_or_fault}
use Rattle.ged_faults.specs.declared.faults.FileFault.TheVariants.{DuplicateXref, DanglingPointer}
use Rattle.ged_faults.specs.Faults.{file_fault_of_tree, file_fault_of_tables}
use Rattle.ged_accept.specs.Laws.{IsAcceptedOrFaulty}

link_fault : (profile : Profile) (file : Bytes) (d : Trees) → HasFile d file → (fault : LinkFault) → HasLinkFault d fault → IsAcceptedOrFaulty profile file
link_fault profile file d read (Duplicate line) h = inr (line, DuplicateXref, inr (d, read, inl (inl (h, refl))))
link_fault profile file d read (Dangling line) h = inr (line, DanglingPointer, inr (d, read, inl (inr (h, refl))))
link_fault profile file d read (Memory error) h = absurd h

pub accepted_or_faulty : (profile : Profile) (file : Bytes) → HasDocumentOrFault file → IsAcceptedOrFaulty profile file
accepted_or_faulty profile file (inr (line, fault, first)) = inr (line, file_fault_of_tree fault, inl (fault, first, refl))
accepted_or_faulty profile file (inl (d, read)) = elim (resolved_or_fault d read.0) [
  | inr (fault, h) ↦ link_fault profile file d read fault h
  | inl resolved ↦ elim (checked_or_fault profile d) [
    | inl checked ↦ inl (d, record { read = read; resolved = resolved; checked = checked })
    | inr (at, first) ↦ inr (at.line, file_fault_of_tables at.fault, inr (d, read, inr (resolved, (at, first, refl, refl))))
  ]
]
