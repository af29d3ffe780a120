-- A file has one document or one fault.
use Rattle.std.proofs.Common.{◌≡◌, ℕ, true, ap, sym, ◌∙◌, inl, inr, refl}
use Rattle.ged_line.specs.Bytes.{Bytes}
use Rattle.ged_line.proofs.CallerLemmas.{one_reading}
use Rattle.ged_tree.specs.DocumentLines.{document_lines}
use Rattle.ged_tree.specs.Trees.{Trees}
use Rattle.ged_tree.specs.Documents.{is_document}
use Rattle.ged_tree.specs.Building.{HasFile}
use Rattle.ged_tree.proofs.CallerLemmas.{none_shared, one_fault_in_file, faulty_file_has_none}
use Rattle.ged_link.specs.Links.{Resolved}
use Rattle.ged_link.specs.declared.fault.LinkFault.TheVariants.{Duplicate, Dangling}
use Rattle.ged_link.proofs.CallerLemmas.{resolved_is_faultless, one_link_fault}
use Rattle.ged_schema.specs.declared.fault.SchemaAt.{SchemaAt}
use Rattle.ged_schema.proofs.CallerLemmas.{one_first_fault, no_fault_of_checked}
use Rattle.ged_faults.specs.declared.faults.FileFault.{FileFault}
use Rattle.ged_faults.specs.Faults.{file_fault_of_tree, file_fault_of_tables}
use Rattle.ged_accept.specs.Accepted.{XrefFaultAt}
use Rattle.ged_accept.specs.Laws.{OneAccepted, AcceptedIsFaultless, OneFileFault}

-- a file has one document
pub one_of_file : (file : Bytes) (d e : Trees) → HasFile d file → HasFile e file → d ≡ e
one_of_file file d e (allowed, text) (other_allowed, other_text) =
    let same = one_reading file (document_lines d) (document_lines e) text other_text in
    none_shared d e (document_lines d) (record { allowed = allowed; told = refl }) (record { allowed = other_allowed; told = same })

pub of_document : (file : Bytes) (d : Trees) → HasFile d file → is_document d ≡ true
of_document file d has = has.0

-- resolved cross-references have no fault
resolved_faultless : (d : Trees) (line : ℕ) (kind : FileFault) → is_document d ≡ true → Resolved d → XrefFaultAt d line kind → ⊥
resolved_faultless d line kind doc h (inl k) = (resolved_is_faultless d doc).0 h (Duplicate line) k.0
resolved_faultless d line kind doc h (inr k) = (resolved_is_faultless d doc).0 h (Dangling line) k.0

one_of_xrefs : (d : Trees) (line other_line : ℕ) (kind other : FileFault) → XrefFaultAt d line kind → XrefFaultAt d other_line other → (line ≡ other_line) × (kind ≡ other)
one_of_xrefs d line other_line kind other (inl h) (inl k) = (same_duplicate line other_line (one_link_fault d (Duplicate line) (Duplicate other_line) h.0 k.0), h.1 ∙ sym k.1)
  where
    same_duplicate : (a b : ℕ) → Duplicate a ≡ Duplicate b → a ≡ b
    same_duplicate a b e = cc
one_of_xrefs d line other_line kind other (inl h) (inr k) = absurd (apart line other_line (one_link_fault d (Duplicate line) (Dangling other_line) h.0 k.0))
  where
    apart : (a b : ℕ) → Duplicate a ≡ Dangling b → ⊥
    apart a b e = cc
one_of_xrefs d line other_line kind other (inr h) (inl k) = absurd (apart line other_line (one_link_fault d (Dangling line) (Duplicate other_line) h.0 k.0))
  where
    apart : (a b : ℕ) → Dangling a ≡ Duplicate b → ⊥
    apart a b e = cc
one_of_xrefs d line other_line kind other (inr h) (inr k) = (same_dangling line other_line (one_link_fault d (Dangling line) (Dangling other_line) h.0 k.0), h.1 ∙ sym k.1)
  where
    same_dangling : (a b : ℕ) → Dangling a ≡ Dangling b → a ≡ b
    same_dangling a b e = cc

pub one_accepted : OneAccepted
one_accepted profile other_profile file d e h k = one_of_file file d e h.read k.read

pub accepted_faultless : AcceptedIsFaultless
accepted_faultless profile file d h line kind (inl (fault, first, is)) = faulty_file_has_none file line fault first d h.read
accepted_faultless profile file d h line kind (inr (e, read, inl k)) =
    let same = one_of_file file e d read h.read in
    resolved_faultless e line kind (of_document file e read) (rw same h.resolved) k
accepted_faultless profile file d h line kind (inr (e, read, inr k)) =
    let same = one_of_file file e d read h.read in
    let (at, first, _, _) = k.1 in
    no_fault_of_checked profile e at (rw same h.checked) first

pub one_fault_of_file : OneFileFault
one_fault_of_file profile file line other_line kind other (inl (a, first, is)) (inl (b, second, equal)) =
    let e = one_fault_in_file file line other_line a b first second in
    (e.0, is ∙ ap file_fault_of_tree e.1 ∙ sym equal)
one_fault_of_file profile file line other_line kind other (inl (a, first, is)) (inr (d, read, _)) = absurd (faulty_file_has_none file line a first d read)
one_fault_of_file profile file line other_line kind other (inr (d, read, _)) (inl (b, second, equal)) = absurd (faulty_file_has_none file other_line b second d read)
one_fault_of_file profile file line other_line kind other (inr (d, read, inl h)) (inr (e, again, inl k)) =
    let same = one_of_file file e d again read in
    one_of_xrefs d line other_line kind other h (rw same at k)
one_fault_of_file profile file line other_line kind other (inr (d, read, inl h)) (inr (e, again, inr k)) =
    let same = one_of_file file e d again read in
    absurd (resolved_faultless d line kind (of_document file d read) (rw same at k.0) h)
one_fault_of_file profile file line other_line kind other (inr (d, read, inr h)) (inr (e, again, inl k)) =
    let same = one_of_file file e d again read in
    absurd (resolved_faultless d other_line other (of_document file d read) h.0 (rw same at k))
one_fault_of_file profile file line other_line kind other (inr (d, read, inr h)) (inr (e, again, inr k)) =
    let same = one_of_file file e d again read in
    let (a, first, line_is, is) = h.1 in
    let (b, second, other_is, equal) = k.1 in
    let at = one_first_fault profile d a b first (rw same at second) in
    (line_is ∙ ap (λ (x : SchemaAt). x.line) at ∙ sym other_is, is ∙ ap (λ (x : SchemaAt). file_fault_of_tables x.fault) at ∙ sym equal)
