-- The whole lines of a file that is fed piece by piece, judged as they come.
use Rattle.std.proofs.Common.{◌≡◌, ◌≢◌, ℕ, ◌+◌, ◌≤◌, List, [], ◌∷◌, ◌++◌, inr, length, Some, None, refl, sym, ◌∙◌, ap, subst, arith, append_assoc, append-nil, length-append}
use Rattle.ged_line.specs.Bytes.{Bytes}
use Rattle.ged_line.specs.Lines.{LineParts}
use Rattle.ged_line.specs.Spelling.{LineText}
use Rattle.ged_line.specs.Faults.{IsFaultOf}
use Rattle.ged_line.specs.Pieces.{ArePiecesOf}
use Rattle.ged_line.specs.Files.{AreTexts}
use Rattle.ged_line.specs.declared.fault.LineFault.{LineFault}
use Rattle.ged_line.proofs.CallerLemmas.{AreTexts-more, length-AreTexts, length-ArePiecesOf, FileText-texts, FileText-from_texts}
use Rattle.ged_tree.specs.TreeFaults.{fault_after, Pass, start, more}
use Rattle.ged_tree.specs.FileFaults.{ComesAfter, FirstFaultIn, at_piece, at_text}
use Rattle.ged_tree.specs.Judging.{Facts, StandsFor}
use Rattle.ged_tree.specs.declared.fault.TreeFault.{TreeFault}
use Rattle.ged_tree.specs.declared.fault.TreeFault.TheVariants.{Line, NoTrailer}
use Rattle.ged_tree.proofs.CallerLemmas.{not_at_line}
use Rattle.ged_tool.specs.declared.calls.judged_lines.Judged.{Judged}
use Rattle.ged_tool.specs.Judged.{HasJudged}

-- the pieces of the file before those that are left spell the lines that were judged
pub record IsJudging (file : Bytes) (judged : Judged) (left : List Bytes) : Type 0 where
  pub lines : List LineParts
  pub before : List Bytes
  pub cut : ArePiecesOf file (before ++ left)
  pub texts : AreTexts lines before
  pub pass : Pass lines
  pub stands : StandsFor judged.judge lines
  pub count : judged.count ≡ length lines

abbrev pub TellsFirst : Bytes → ℕ → TreeFault → Type 0
TellsFirst file line fault = FirstFaultIn file line fault × (fault ≢ NoTrailer)

pub judging_start : (front others : Bytes) (judged : Judged) (left : List Bytes) → HasJudged judged front
    → ((pieces : List Bytes) → ArePiecesOf front pieces → ArePiecesOf (front ++ others) (pieces ++ left)) → IsJudging (front ++ others) judged left
judging_start front others judged left h further =
    let (pieces, cut, texts) = FileText-texts front h.lines h.spelled in
    record { lines = h.lines; before = pieces; cut = further pieces cut; texts = texts; pass = h.pass; stands = h.stands; count = h.count }

module _ (file : Bytes) (judged : Judged) (left rest : List Bytes) (piece : Bytes) (j : IsJudging file judged left) (next : left ≡ piece ∷ rest) where
  cut_next : ArePiecesOf file (j.before ++ piece ∷ rest)
  cut_next = subst (λ (ps : List Bytes). ArePiecesOf file (j.before ++ ps)) next j.cut

  comes_next : ComesAfter file j.lines piece
  comes_next = record { before = j.before; after = rest; pieces = cut_next; texts = j.texts; pass = j.pass }

  pub count_fits : judged.count + 1 ≤ length file
  count_fits =
      let count : judged.count ≡ length j.lines = j.count in
      let same : length j.lines ≡ length j.before = length-AreTexts j.lines j.before j.texts in
      let few = length-ArePiecesOf file (j.before ++ piece ∷ rest) cut_next in
      omega (arith, length-append j.before (piece ∷ rest))

  pub judging_more : (judge : Facts) (line : LineParts) (count : ℕ) → LineText line piece
      → ((lines : List LineParts) → StandsFor judged.judge lines → (fault_after lines line ≡ None) × StandsFor judge (lines ++ line ∷ []))
      → count ≡ judged.count + 1 → IsJudging file (record { judge = judge; count = count }) rest
  judging_more judge line count text takes is =
      let taken = takes j.lines j.stands in
      record {
        lines = j.lines ++ line ∷ [];
        before = j.before ++ piece ∷ [];
        cut = subst (λ (ps : List Bytes). ArePiecesOf file ps) (sym (append_assoc j.before (piece ∷ []) rest)) cut_next;
        texts = AreTexts-more j.lines j.before line piece j.texts text;
        pass = more j.lines line j.pass taken.0;
        stands = taken.1;
        count = is ∙ ap (λ (n : ℕ). n + 1) j.count ∙ sym (length-append j.lines (line ∷ []));
      }

  pub told_at_piece : (fault : LineFault) (line : ℕ) → IsFaultOf fault piece → line ≡ judged.count + 1 → TellsFirst file line (Line fault)
  told_at_piece fault line f is =
      let number : line ≡ length j.lines + 1 = is ∙ ap (λ (n : ℕ). n + 1) j.count in (
        subst (λ (n : ℕ). FirstFaultIn file n (Line fault)) (sym number) (at_piece file j.lines piece fault comes_next f),
        λ e. cc,
      )

  pub told_at_line : (parts : LineParts) (fault : TreeFault) (line : ℕ) → LineText parts piece
      → ((lines : List LineParts) → StandsFor judged.judge lines → fault_after lines parts ≡ Some fault) → line ≡ judged.count + 1 → TellsFirst file line fault
  told_at_line parts fault line text refuses is =
      let number : line ≡ length j.lines + 1 = is ∙ ap (λ (n : ℕ). n + 1) j.count in
      let here = refuses j.lines j.stands in (
        subst (λ (n : ℕ). FirstFaultIn file n fault) (sym number) (at_text file j.lines piece parts fault comes_next text here),
        not_at_line j.lines parts fault here,
      )

pub judging_end : (file : Bytes) (judged : Judged) (left : List Bytes) → IsJudging file judged left → left ≡ [] → HasJudged judged file
judging_end file judged left j none =
    let cut = subst (λ (ps : List Bytes). ArePiecesOf file ps) (append-nil j.before) (subst (λ (ps : List Bytes). ArePiecesOf file (j.before ++ ps)) none j.cut) in
    record { lines = j.lines; spelled = FileText-from_texts file j.lines j.before cut j.texts; pass = j.pass; stands = j.stands; count = j.count }

pub judged_none : (judge : Facts) → StandsFor judge [] → HasJudged (record { judge = judge; count = 0 }) []
judged_none judge s = record { lines = []; spelled = ([], inr (refl, λ rest e. cc), refl); pass = start; stands = s; count = refl }
