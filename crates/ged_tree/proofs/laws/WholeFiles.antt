-- A file has a document or a first fault.
use Rattle.std.proofs.Common.{◌≡◌, ℕ, ◌+◌, ◌<◌, ◌≤◌, ◌^◌, List, [], ◌∷◌, ◌++◌, ◌⊎◌, inl, inr, length, length-append, arith, Option, Some, None, refl, sym, subst, append_assoc, append-nil}
use Rattle.ged_line.specs.Bytes.{Bytes}
use Rattle.ged_line.specs.Lines.{LineParts}
use Rattle.ged_line.specs.Files.{FileText, StopsAt}
use Rattle.ged_line.specs.declared.fault.LineAt.{LineAt}
use Rattle.ged_line.specs.declared.fault.LineFault.{LineFault}
use Rattle.ged_tree.specs.TreeFaults.{fault_after, Pass, start, more, FirstTreeFault, at_line}
use Rattle.ged_tree.specs.WholeFiles.{HasDocumentOrFault}
use Rattle.ged_tree.specs.declared.fault.TreeFault.{TreeFault}
use Rattle.ged_tree.specs.declared.fault.TreeFault.TheVariants.{Line}
use Rattle.ged_tree.proofs.laws.FileLines.{file_lines}
use Rattle.ged_tree.proofs.theory.FirstFaults.{either}
use Rattle.ged_tree.proofs.theory.Building.{file_fault, file_of_lines}

-- a first fault stands at one of the lines
abbrev HasFaultAmong : List LineParts → Type 0
HasFaultAmong lines = (line : ℕ) × (fault : TreeFault) × FirstTreeFault lines line fault × (line ≤ length lines)

-- one of the lines left has a fault, or none has
among : (before rest : List LineParts) → Pass before → Pass (before ++ rest) ⊎ HasFaultAmong (before ++ rest)
among before [] p = inl (subst (λ (ls : List LineParts). Pass ls) (sym (append-nil before)) p)
among before (line ∷ rest) p = go (fault_after before line) refl (among (before ++ line ∷ []) rest)
  where
    next : List LineParts
    next = before ++ line ∷ []

    go : (o : Option TreeFault) → fault_after before line ≡ o → (Pass next → Pass (next ++ rest) ⊎ HasFaultAmong (next ++ rest))
        → Pass (before ++ line ∷ rest) ⊎ HasFaultAmong (before ++ line ∷ rest)
    go (Some fault) e later = inr (length before + 1, fault, at_line before rest line fault p e, omega (arith, length-append before (line ∷ rest)))
    go None e later = subst (λ (ls : List LineParts). Pass ls ⊎ HasFaultAmong ls) (append_assoc before (line ∷ []) rest) (later (more before line p e))

-- a file all of whose pieces are lines
pub of_lines : (file : Bytes) (lines : List LineParts) → FileText lines file → length file < 2 ^ 63 → HasDocumentOrFault file
of_lines file lines t small =
    let f = file_lines lines file t in
    let count = f.1 in
    elim (either lines f.0 (omega (arith, count, small))) [
      | inl one ↦ inl (one.0, file_of_lines one.0 lines file t one.1)
      | inr (line, fault, first) ↦ inr (line, fault, (file_fault file lines None t line fault).1 first)
    ]

-- a file that has a piece that is no line
pub of_stop : (file : Bytes) (lines : List LineParts) (line : ℕ) (own : LineFault) → StopsAt file lines line own → HasDocumentOrFault file
of_stop file lines line own t = elim (among [] lines start) [
  | inl pass ↦ inr (line, Line own, (file_fault file lines (Some stop) t line (Line own)).1 (inr (pass, refl, refl)))
  | inr (n, fault, first, inside) ↦ inr (n, fault, (file_fault file lines (Some stop) t n fault).1 (inl (first, inside)))
]
  where
    stop : LineAt
    stop = record { line = line; fault = own }
