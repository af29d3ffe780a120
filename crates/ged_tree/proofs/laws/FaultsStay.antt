-- The first fault of whole lines, and what comes behind them.
use Rattle.std.proofs.Common.{◌≡◌, ◌≢◌, ℕ, ◌+◌, Bool, true, false, cond, List, [], ◌∷◌, ◌++◌, ◌⊎◌, inl, inr, length, Some, refl, sym, subst, arith, append_assoc, length-append}
use Rattle.std.specs.List.{find}
use Rattle.std.proofs.lemmas.Bool.{true≢false}
use Rattle.std.proofs.lemmas.Option.{none-some, same_Some}
use Rattle.ged_line.specs.Bytes.{Bytes}
use Rattle.ged_line.specs.Lines.{LineParts}
use Rattle.ged_line.specs.Files.{FileText}
use Rattle.ged_line.specs.Pieces.{ArePiecesOf}
use Rattle.ged_line.specs.WholeLines.{EndsLine}
use Rattle.ged_line.proofs.CallerLemmas.{whole_stay, mark_no_line}
use Rattle.ged_tree.specs.TreeFaults.{stands, line_faults, fault_after, Pass, has_trailer, FirstTreeFault, at_line, no_lines, past_last}
use Rattle.ged_tree.specs.FileFaults.{ComesAfter, FirstFaultIn, at_piece, at_text, at_end}
use Rattle.ged_tree.specs.FaultsStay.{FirstFaultStays}
use Rattle.ged_tree.specs.declared.fault.TreeFault.{TreeFault}
use Rattle.ged_tree.specs.declared.fault.TreeFault.TheVariants.{NoTrailer}
use Rattle.ged_tree.proofs.laws.FileFaults.{one_in_file, faulty_fails}

-- whole lines are some lines
some_lines : (front : Bytes) (lines : List LineParts) → EndsLine front → FileText lines front → lines ≢ []
some_lines front lines e t none =
    let (bytes, m, s) = subst (λ (ls : List LineParts). FileText ls front) none t in
    mark_no_line front bytes e m s

comes_after_more : (front more : Bytes) (lines : List LineParts) (piece : Bytes) → EndsLine front → ComesAfter front lines piece → ComesAfter (front ++ more) lines piece
comes_after_more front more lines piece e c =
    let (others, cut) = whole_stay front more (c.before ++ piece ∷ c.after) e c.pieces in
    record {
      before = c.before;
      after = c.after ++ others;
      pieces = subst (λ (ps : List Bytes). ArePiecesOf (front ++ more) ps) (append_assoc c.before (piece ∷ c.after) others) cut;
      texts = c.texts;
      pass = c.pass;
    }

end_fault : (lines : List LineParts) (n : ℕ) (fault : TreeFault) → FirstTreeFault lines n fault → n ≡ length lines + 1 → (lines ≡ []) ⊎ (fault ≡ NoTrailer)
end_fault _ _ _ (at_line before after line fault p e) k = absurd (omega (arith, k, length-append before (line ∷ after)))
end_fault _ _ _ no_lines k = inl refl
end_fault _ _ _ (past_last lines p s t) k = inr refl

pub first_fault_stays : FirstFaultStays
first_fault_stays _ more _ _ e (at_piece front lines piece fault c f) n = at_piece (front ++ more) lines piece fault (comes_after_more front more lines piece e c) f
first_fault_stays _ more _ _ e (at_text front lines piece line fault c t f) n = at_text (front ++ more) lines piece line fault (comes_after_more front more lines piece e c) t f
first_fault_stays _ more _ _ e (at_end front lines fault t f) n = elim (end_fault lines (length lines + 1) fault f refl) [
  | inl none ↦ absurd (some_lines front lines e t none)
  | inr last ↦ absurd (n last)
]

-- whole lines that pass have no fault but that TRLR is missing
pub only_trailer : (front : Bytes) (lines : List LineParts) (line : ℕ) (fault : TreeFault) → EndsLine front → FileText lines front → Pass lines
    → FirstFaultIn front line fault → fault ≡ NoTrailer
only_trailer front lines line fault e t p f = go (has_trailer lines) refl
  where
    go : (b : Bool) → has_trailer lines ≡ b → fault ≡ NoTrailer
    go true h = absurd (faulty_fails front line fault f (lines, t, p, h))
    go false h =
        (one_in_file front line (length lines + 1) fault NoTrailer f
        (at_end front lines NoTrailer t (past_last lines p (some_lines front lines e t) h))).1

found_passes : (p : TreeFault → Bool) (xs : List TreeFault) (x : TreeFault) → find p xs ≡ Some x → p x ≡ true
found_passes p [] x e = absurd (none-some x e)
found_passes p (y ∷ ys) x e = go (p y) refl e (found_passes p ys x)
  where
    go : (b : Bool) → p y ≡ b → cond b (Some y) (find p ys) ≡ Some x → (find p ys ≡ Some x → p x ≡ true) → p x ≡ true
    go true is f later = subst (λ (z : TreeFault). p z ≡ true) (same_Some y x f) is
    go false is f later = later f

-- that TRLR is missing is no fault of a line
pub not_at_line : (lines : List LineParts) (line : LineParts) (fault : TreeFault) → fault_after lines line ≡ Some fault → fault ≢ NoTrailer
not_at_line lines line fault e is =
    true≢false (sym (subst (λ (z : TreeFault). stands lines line z ≡ true) is (found_passes (stands lines line) line_faults fault e)))
