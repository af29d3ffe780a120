-- What `lines` writes is what the file was.
use Rattle.std.proofs.Common.{◌≡◌, ℕ, true, List, [], ◌∷◌, sym, subst, inl, inr, None}
use Rattle.std.specs.List.{AllByRecursion}
use Rattle.ged_line.specs.Bytes.{Bytes}
use Rattle.ged_line.specs.Lines.{LineParts, is_line}
use Rattle.ged_line.specs.Files.{SpellLines, FileText, IsRespelling}
use Rattle.ged_line.proofs.CallerLemmas.{one_reading, written_is_read}
use Rattle.ged_tree.specs.DocumentLines.{document_lines}
use Rattle.ged_tree.specs.Trees.{Trees}
use Rattle.ged_tree.specs.Building.{HasFile}
use Rattle.ged_tree.specs.FileFaults.{FirstFaultIn}
use Rattle.ged_tree.specs.declared.fault.TreeFault.{TreeFault}
use Rattle.ged_tree.proofs.CallerLemmas.{file_fault_is_build_fault}
use Rattle.ged_tool.specs.SameLaws.{LinesKeepAcceptance, LinesKeepFault, LinesKeepCanon}

spelled_are_lines : (lines : List LineParts) (bytes : Bytes) → SpellLines lines bytes → AllByRecursion (λ line. is_line line ≡ true) lines
spelled_are_lines [] bytes s = tt
spelled_are_lines (line ∷ lines) bytes (text, t, inl (none, e)) = (t.is_line, subst (λ (ls : List LineParts). AllByRecursion (λ line. is_line line ≡ true) ls) (sym none) tt)
spelled_are_lines (line ∷ lines) bytes (text, t, inr (end, rest, e, s, more)) = (t.is_line, spelled_are_lines lines rest more)

-- the text spells the file's lines
text_of : (file text : Bytes) (h : IsRespelling file text) → FileText h.0 text
text_of file text (lines, (bytes, m, s), e) = subst (FileText lines) (sym e) (written_is_read lines (spelled_are_lines lines bytes s))

-- two files that spell the same lines have the same document
has_other : (file text : Bytes) (lines : List LineParts) (d : Trees) → FileText lines file → FileText lines text → HasFile d file → HasFile d text
has_other file text lines d own other (allowed, t) =
    (allowed, subst (λ (ls : List LineParts). FileText ls text) (one_reading file lines (document_lines d) own t) other)

fault_other : (file text : Bytes) (lines : List LineParts) (line : ℕ) (fault : TreeFault) → FileText lines file → FileText lines text → FirstFaultIn file line fault → FirstFaultIn text line fault
fault_other file text lines line fault own other first =
    (file_fault_is_build_fault text lines None other line fault).1 ((file_fault_is_build_fault file lines None own line fault).0 first)

pub lines_keep_acceptance : LinesKeepAcceptance
lines_keep_acceptance profile file text d h = (
  λ a. record { read = has_other file text h.0 d h.1 (text_of file text h) a.read; resolved = a.resolved; checked = a.checked },
  λ a. record { read = has_other text file h.0 d (text_of file text h) h.1 a.read; resolved = a.resolved; checked = a.checked },
)

pub lines_keep_canon : LinesKeepCanon
lines_keep_canon profile edition file text canonical h = (
  λ c. record { document = c.document; normal = c.normal; accepted = (lines_keep_acceptance profile file text c.document h).0 c.accepted; normal_form = c.normal_form; spelled = c.spelled },
  λ c. record { document = c.document; normal = c.normal; accepted = (lines_keep_acceptance profile file text c.document h).1 c.accepted; normal_form = c.normal_form; spelled = c.spelled },
)

pub lines_keep_fault : LinesKeepFault
lines_keep_fault profile file text line kind h = (
  λ f. elim f [
    | inl (fault, first, is) ↦ inl (fault, fault_other file text h.0 line fault h.1 (text_of file text h) first, is)
    | inr (d, read, rest) ↦ inr (d, has_other file text h.0 d h.1 (text_of file text h) read, rest)
  ],
  λ f. elim f [
    | inl (fault, first, is) ↦ inl (fault, fault_other text file h.0 line fault (text_of file text h) h.1 first, is)
    | inr (d, read, rest) ↦ inr (d, has_other text file h.0 d (text_of file text h) h.1 read, rest)
  ],
)
