-- A file has one first fault at most, and then its lines don't all pass.
use Rattle.std.proofs.Common.{◌≡◌, ℕ, ◌+◌, ◌==◌, true, cond, List, [], ◌∷◌, ◌++◌, ◌⊎◌, ◌∙◌, inl, inr, length, Some, None, refl, sym, subst, arith, ap, length-append, append_assoc, append-nil}
use Rattle.std.specs.Prelude.{is_some}
use Rattle.std.proofs.lemmas.Bool.{true≢false, cases_order}
use Rattle.ged_line.specs.Bytes.{Bytes}
use Rattle.ged_line.specs.Lines.{LineParts}
use Rattle.ged_line.specs.Spelling.{LineText}
use Rattle.ged_line.specs.Faults.{IsFaultOf, line_fault_number}
use Rattle.ged_line.specs.Pieces.{ArePiecesOf}
use Rattle.ged_line.specs.Files.{AreTexts}
use Rattle.ged_line.specs.declared.fault.LineFault.{LineFault}
use Rattle.ged_line.specs.declared.fault.LineFault.TheVariants.{NotUtf8, BannedCharacter, EmptyLine, BadLevel, LevelTooLarge, BadXref, BadTag, BadValue}
use Rattle.ged_line.proofs.CallerLemmas.{no_fault, one_line, one_cut, texts_of_file}
use Rattle.ged_tree.specs.TreeFaults.{fault_after, Pass, start, more, has_trailer, FirstTreeFault, at_line, no_lines, past_last}
use Rattle.ged_tree.specs.FileFaults.{ComesAfter, FirstFaultIn, at_piece, at_text, at_end}
use Rattle.ged_tree.specs.TreeLaws.{OneFaultInFile, FaultyFileFails}
use Rattle.ged_tree.specs.declared.fault.TreeFault.{TreeFault}
use Rattle.ged_tree.specs.declared.fault.TreeFault.TheVariants.{Line}
use Rattle.ged_tree.proofs.theory.FirstFaults.{one_fault, passing_first, no_first}

abbrev fault_numbered : ℕ → LineFault
fault_numbered n =
    cond (n == 1) NotUtf8 (cond (n == 2) BannedCharacter (cond (n == 3) EmptyLine (cond (n == 4) BadLevel
    (cond (n == 5) LevelTooLarge (cond (n == 6) BadXref (cond (n == 7) BadTag BadValue))))))

numbered_again : (fault : LineFault) → fault_numbered (line_fault_number fault) ≡ fault
numbered_again NotUtf8 = refl
numbered_again BannedCharacter = refl
numbered_again EmptyLine = refl
numbered_again BadLevel = refl
numbered_again LevelTooLarge = refl
numbered_again BadXref = refl
numbered_again BadTag = refl
numbered_again BadValue = refl

one_line_fault : (fault other : LineFault) (piece : Bytes) → IsFaultOf fault piece → IsFaultOf other piece → fault ≡ other
one_line_fault fault other piece f g = elim (cases_order (line_fault_number fault) (line_fault_number other)) [
  | inl same ↦ sym (numbered_again fault) ∙ ap fault_numbered same ∙ numbered_again other
  | inr (inl low) ↦ absurd (g.least fault low f.stands)
  | inr (inr high) ↦ absurd (f.least other high g.stands)
]

-- the first fault at one of the pieces left, or past them
abbrev TellsPiece : List LineParts → Bytes → ℕ → TreeFault → Type 0
TellsPiece lines piece number fault = (own : LineFault) × IsFaultOf own piece × (number ≡ length lines + 1) × (fault ≡ Line own)

abbrev TellsLine : List LineParts → LineParts → ℕ → TreeFault → Type 0
TellsLine lines line number fault = (fault_after lines line ≡ Some fault) × (number ≡ length lines + 1)

abbrev Tells : List LineParts → List Bytes → ℕ → TreeFault → Type 0
Tells lines [] number fault = FirstTreeFault lines number fault × (number ≡ length lines + 1)
Tells lines (piece ∷ pieces) number fault = TellsPiece lines piece number fault
    ⊎ ((line : LineParts) × LineText line piece × (TellsLine lines line number fault
    ⊎ ((fault_after lines line ≡ None) × Tells (lines ++ line ∷ []) pieces number fault)))

some_same : {A : Type 0} (x y : A) → Some x ≡ Some y → x ≡ y
some_same x y e = cc

tells_one : (lines : List LineParts) (pieces : List Bytes) (n m : ℕ) (f g : TreeFault) → Tells lines pieces n f → Tells lines pieces m g
    → (n ≡ m) × (f ≡ g)
tells_one lines [] n m f g s t = one_fault lines n m f g s.0 t.0
tells_one lines (piece ∷ pieces) n m f g (inl (a, p, k, u)) (inl (b, q, l, v)) = (k ∙ sym l, u ∙ ap Line (one_line_fault a b piece p q) ∙ sym v)
tells_one lines (piece ∷ pieces) n m f g (inl (a, p, k, u)) (inr (line, t, r)) = absurd (no_fault line piece t a p.stands)
tells_one lines (piece ∷ pieces) n m f g (inr (line, t, r)) (inl (a, p, k, u)) = absurd (no_fault line piece t a p.stands)
tells_one lines (piece ∷ pieces) n m f g (inr (line, t, r)) (inr (other, u, s)) =
    let same : other ≡ line = one_line other line piece u t in
    let own = subst (λ (l : LineParts). TellsLine lines l m g ⊎ ((fault_after lines l ≡ None) × Tells (lines ++ l ∷ []) pieces m g)) same s in
    go r own (tells_one (lines ++ line ∷ []) pieces n m f g)
  where
    go : TellsLine lines line n f ⊎ ((fault_after lines line ≡ None) × Tells (lines ++ line ∷ []) pieces n f)
        → TellsLine lines line m g ⊎ ((fault_after lines line ≡ None) × Tells (lines ++ line ∷ []) pieces m g)
        → (Tells (lines ++ line ∷ []) pieces n f → Tells (lines ++ line ∷ []) pieces m g → (n ≡ m) × (f ≡ g)) → (n ≡ m) × (f ≡ g)
    go (inl a) (inl b) later = (a.1 ∙ sym b.1, some_same f g (sym a.0 ∙ b.0))
    go (inl a) (inr b) later = absurd (true≢false (ap is_some (sym a.0 ∙ b.0)))
    go (inr a) (inl b) later = absurd (true≢false (ap is_some (sym b.0 ∙ a.0)))
    go (inr a) (inr b) later = later a.1 b.1

tells_behind : (done lines : List LineParts) (before rest : List Bytes) (n : ℕ) (f : TreeFault) → AreTexts lines before → Pass done
    → Pass (done ++ lines)
    → Tells (done ++ lines) rest n f → Tells done (before ++ rest) n f
tells_behind done [] before rest n f a p q t =
    subst (λ (ps : List Bytes). Tells done (ps ++ rest) n f) (sym a) (subst (λ (ls : List LineParts). Tells ls rest n f) (append-nil done) t)
tells_behind done (line ∷ lines) [] rest n f a p q t = absurd a
tells_behind done (line ∷ lines) (piece ∷ before) rest n f a p q t =
    let e : fault_after done line ≡ None = passing_first done line lines p q in
    let moved = append_assoc done (line ∷ []) lines in
    let pass = subst (λ (ls : List LineParts). Pass ls) (sym moved) q in
    let later = subst (λ (ls : List LineParts). Tells ls rest n f) (sym moved) t in
    inr (line, a.0, inr (e, tells_behind (done ++ line ∷ []) lines before rest n f a.1 (more done line p e) pass later))

end_passes : (lines : List LineParts) (n : ℕ) (f : TreeFault) → FirstTreeFault lines n f → n ≡ length lines + 1 → Pass lines
end_passes _ _ _ (at_line before after line fault p e) k = absurd (omega (arith, k, length-append before (line ∷ after)))
end_passes _ _ _ no_lines k = start
end_passes _ _ _ (past_last lines p s t) k = p

-- the pieces of a file tell its first fault
record ToldBy (file : Bytes) (n : ℕ) (f : TreeFault) : Type 0 where
  pieces : List Bytes
  cut : ArePiecesOf file pieces
  tells : Tells [] pieces n f

told_at : (file : Bytes) (lines : List LineParts) (piece : Bytes) (n : ℕ) (f : TreeFault) (c : ComesAfter file lines piece)
    → Tells lines (piece ∷ c.after) n f → ToldBy file n f
told_at file lines piece n f c t = record { pieces = c.before ++ piece ∷ c.after; cut = c.pieces; tells = tells_behind [] lines c.before (piece ∷ c.after) n f c.texts start c.pass t }

told_by : (file : Bytes) (n : ℕ) (f : TreeFault) → FirstFaultIn file n f → ToldBy file n f
told_by _ _ _ (at_piece file lines piece fault c g) = told_at file lines piece (length lines + 1) (Line fault) c (inl (fault, g, refl, refl))
told_by _ _ _ (at_text file lines piece line fault c t e) = told_at file lines piece (length lines + 1) fault c (inr (line, t, inl (e, refl)))
told_by _ _ _ (at_end file lines fault t f) =
    let cut = texts_of_file file lines t in
    let whole = tells_behind [] lines cut.0 [] (length lines + 1) fault cut.2 start (end_passes lines (length lines + 1) fault f refl) (f, refl) in
    record { pieces = cut.0; cut = cut.1; tells = subst (λ (ps : List Bytes). Tells [] ps (length lines + 1) fault) (append-nil cut.0) whole }

pub one_in_file : OneFaultInFile
one_in_file file n m f g s t =
    let a = told_by file n f s in
    let b = told_by file m g t in
    tells_one [] a.pieces n m f g a.tells (subst (λ (ps : List Bytes). Tells [] ps m g) (one_cut file b.pieces a.pieces b.cut a.cut) b.tells)

passing_none : (done lines : List LineParts) (pieces : List Bytes) (n : ℕ) (f : TreeFault) → AreTexts lines pieces → Pass done → Pass (done ++ lines)
    → has_trailer (done ++ lines) ≡ true → Tells done pieces n f → ⊥
passing_none done [] pieces n f a p q e t =
    let last : Tells done [] n f = subst (λ (ps : List Bytes). Tells done ps n f) a t in
    no_first done n f last.0 p (subst (λ (ls : List LineParts). has_trailer ls ≡ true) (append-nil done) e)
passing_none done (line ∷ lines) [] n f a p q e t = absurd a
passing_none done (line ∷ lines) (piece ∷ pieces) n f a p q e (inl (own, g, k, u)) = no_fault line piece a.0 own g.stands
passing_none done (line ∷ lines) (piece ∷ pieces) n f a p q e (inr (other, t, r)) =
    let same : other ≡ line = one_line other line piece t a.0 in
    let none_here : fault_after done line ≡ None = passing_first done line lines p q in
    let moved = sym (append_assoc done (line ∷ []) lines) in
    let own = subst (λ (l : LineParts). TellsLine done l n f ⊎ ((fault_after done l ≡ None) × Tells (done ++ l ∷ []) pieces n f)) same r in
    let pass = subst (λ (ls : List LineParts). Pass ls) moved q in
    let ends = subst (λ (ls : List LineParts). has_trailer ls ≡ true) moved e in
    go own none_here (passing_none (done ++ line ∷ []) lines pieces n f a.1 (more done line p none_here) pass ends)
  where
    go : TellsLine done line n f ⊎ ((fault_after done line ≡ None) × Tells (done ++ line ∷ []) pieces n f) → fault_after done line ≡ None
        → (Tells (done ++ line ∷ []) pieces n f → ⊥) → ⊥
    go (inl b) h later = true≢false (ap is_some (sym b.0 ∙ h))
    go (inr b) h later = later b.1

pub faulty_fails : FaultyFileFails
faulty_fails file n f s (lines, t, p, e) =
    let told = told_by file n f s in
    let cut = texts_of_file file lines t in
    let texts = subst (λ (ps : List Bytes). AreTexts lines ps) (one_cut file cut.0 told.pieces cut.1 told.cut) cut.2 in
    passing_none [] lines told.pieces n f texts start p e told.tells
