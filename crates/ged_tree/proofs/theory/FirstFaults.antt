-- Lines have one document or one first fault.
use Rattle.std.proofs.Common.{◌≡◌, ◌≢◌, ℕ, ◌+◌, ◌<◌, ◌^◌, Bool, true, false, List, [], ◌∷◌, ◌++◌, ◌⊎◌, length, length-append, arith, Option, Some, None, refl, sym, subst, ◌∙◌, ap, inl, inr, append_assoc, append-nil}
use Rattle.std.specs.List.{list_all}
use Rattle.std.proofs.lemmas.Bool.{true≢false}
use Rattle.ged_line.specs.Lines.{LineParts, is_line}
use Rattle.ged_tree.specs.declared.fault.TreeFault.{TreeFault}
use Rattle.ged_tree.specs.declared.fault.TreeFault.TheVariants.{NoHeader, NoTrailer}
use Rattle.ged_tree.specs.TreeFaults.{has_trailer, fault_after, Pass, start, more, FirstTreeFault, at_line, no_lines, past_last}
use Rattle.ged_tree.specs.TreeLaws.{DocumentOrFault, FaultyHasNone, OneFirstTreeFault, HasOneDocument, HasFirstFault}
use Rattle.ged_tree.proofs.theory.LinesThatPass.{passes}
use Rattle.ged_tree.proofs.theory.OneDocument.{law}

abbrev LineAndFault : Type 0
LineAndFault = ℕ × TreeFault

-- the fault at a line, or else the answer for the lines behind it
abbrev told : Option TreeFault → ℕ → LineAndFault → LineAndFault
told (Some fault) line later = (line, fault)
told None line later = later

-- the first fault past the last line, as if TRLR were missing
abbrev at_end : List LineParts → LineAndFault
at_end [] = (1, NoHeader)
at_end (line ∷ lines) = (length (line ∷ lines) + 1, NoTrailer)

-- the first fault at one of the lines left, or past them
abbrev first_from : List LineParts → List LineParts → LineAndFault
first_from before [] = at_end before
first_from before (line ∷ rest) = told (fault_after before line) (length before + 1) (first_from (before ++ line ∷ []) rest)

passed_over : (before : List LineParts) → Pass before → (rest : List LineParts) → first_from [] (before ++ rest) ≡ first_from before rest
passed_over _ start rest = refl
passed_over _ (more lines line p e) rest =
    ap (λ (ls : List LineParts). first_from [] ls) (append_assoc lines (line ∷ []) rest)
    ∙ passed_over lines p (line ∷ rest)
    ∙ ap (λ (o : Option TreeFault). told o (length lines + 1) (first_from (lines ++ line ∷ []) rest)) e

end_of_some : (lines : List LineParts) → lines ≢ [] → at_end lines ≡ (length lines + 1, NoTrailer)
end_of_some [] n = absurd (n refl)
end_of_some (line ∷ lines) n = refl

first_is : (lines : List LineParts) (line : ℕ) (fault : TreeFault) → FirstTreeFault lines line fault → first_from [] lines ≡ (line, fault)
first_is _ _ _ (at_line before after line fault p e) = passed_over before p (line ∷ after) ∙ ap (λ (o : Option TreeFault). told o (length before + 1) (first_from (before ++ line ∷ []) after)) e
first_is _ _ _ no_lines = refl
first_is _ _ _ (past_last lines p n t) = ap (λ (ls : List LineParts). first_from [] ls) (sym (append-nil lines)) ∙ passed_over lines p [] ∙ end_of_some lines n

pub one_fault : OneFirstTreeFault
one_fault lines line other_line fault other f g =
    let same : (line, fault) ≡ (other_line, other) = sym (first_is lines line fault f) ∙ first_is lines other_line other g in
    (ap (λ (p : LineAndFault). p.0) same, ap (λ (p : LineAndFault). p.1) same)

some_lines : (before : List LineParts) (line : LineParts) (after : List LineParts) → before ++ line ∷ after ≢ []
some_lines [] line after e = cc
some_lines (x ∷ xs) line after e = cc

-- lines with a fault at one of them don't all pass
pub no_pass : (before after : List LineParts) (line : LineParts) (fault : TreeFault) → Pass before → fault_after before line ≡ Some fault
    → Pass (before ++ line ∷ after) → ⊥
no_pass before after line fault p e q =
    let all = before ++ line ∷ after in
    let here : first_from [] all ≡ (length before + 1, fault) = first_is all (length before + 1) fault (at_line before after line fault p e) in
    let past : first_from [] all ≡ at_end all = ap (λ (ls : List LineParts). first_from [] ls) (sym (append-nil all)) ∙ passed_over all q [] in
    let number : length before + 1 ≡ length all + 1 = ap (λ (f : LineAndFault). f.0) (sym here ∙ past ∙ end_of_some all (some_lines before line after)) in
    omega (arith, number, length-append before (line ∷ after))

-- no fault stands at the first of the lines that pass after others
pub passing_first : (before : List LineParts) (line : LineParts) (after : List LineParts) → Pass before → Pass (before ++ line ∷ after)
    → fault_after before line ≡ None
passing_first before line after p q = go (fault_after before line) refl
  where
    go : (o : Option TreeFault) → fault_after before line ≡ o → o ≡ None
    go None e = refl
    go (Some fault) e = absurd (no_pass before after line fault p e q)

pub no_first : (lines : List LineParts) (line : ℕ) (fault : TreeFault) → FirstTreeFault lines line fault → Pass lines → has_trailer lines ≡ true → ⊥
no_first _ _ _ (at_line before after line fault p e) q t = no_pass before after line fault p e q
no_first _ _ _ no_lines q t = true≢false (sym t)
no_first _ _ _ (past_last lines p n u) q t = true≢false (sym t ∙ u)

pub none_of_faulty : FaultyHasNone
none_of_faulty lines (line, fault, f) document h = let q = passes document lines h in no_first lines line fault f q.0 q.1

-- one of the lines left has a fault, or none has
judged : (before rest : List LineParts) → Pass before → Pass (before ++ rest) ⊎ HasFirstFault (before ++ rest)
judged before [] p = inl (subst (λ (ls : List LineParts). Pass ls) (sym (append-nil before)) p)
judged before (line ∷ rest) p = go (fault_after before line) refl (judged (before ++ line ∷ []) rest)
  where
    next : List LineParts
    next = before ++ line ∷ []

    go : (o : Option TreeFault) → fault_after before line ≡ o → (Pass next → Pass (next ++ rest) ⊎ HasFirstFault (next ++ rest))
        → Pass (before ++ line ∷ rest) ⊎ HasFirstFault (before ++ line ∷ rest)
    go (Some fault) e later = inr (length before + 1, fault, at_line before rest line fault p e)
    go None e later = subst (λ (ls : List LineParts). Pass ls ⊎ HasFirstFault ls) (append_assoc before (line ∷ []) rest) (later (more before line p e))

ending : (lines : List LineParts) → list_all is_line lines ≡ true → length lines < 2 ^ 63 → Pass lines → (b : Bool) → has_trailer lines ≡ b
    → HasOneDocument lines ⊎ HasFirstFault lines
ending lines all few p true t = inl ((law lines all few).0 (p, t))
ending [] all few p false t = inr (1, NoHeader, no_lines)
ending (line ∷ rest) all few p false t = inr (length (line ∷ rest) + 1, NoTrailer, past_last (line ∷ rest) p (λ e. cc) t)

pub either : DocumentOrFault
either lines all few = go (judged [] lines start)
  where
    go : Pass lines ⊎ HasFirstFault lines → HasOneDocument lines ⊎ HasFirstFault lines
    go (inl p) = ending lines all few p (has_trailer lines) refl
    go (inr f) = inr f
