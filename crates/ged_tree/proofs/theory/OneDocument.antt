-- Lines have no fault exactly where there is a document with them, and there is one.
use Rattle.std.proofs.Common.{◌≡◌, ◌+◌, ◌<◌, ◌^◌, Bool, true, false, ◌||◌, ◌&&◌, ◌==◌, not, List, [], ◌∷◌, ◌++◌, length, None, refl, sym, subst, ◌∙◌, ap, arith, length-append, codes}
use Rattle.std.specs.Prelude.{nat_lt, is_some}
use Rattle.std.specs.List.{list_all}
use Rattle.std.specs.Str.{bytes_eq}
use Rattle.std.proofs.lemmas.List.{append_cancel_right}
use Rattle.std.proofs.lemmas.Slice.Eq.{bytes_eq-Decides}
use Rattle.std.proofs.lemmas.Bool.{true≢false, both_ways, not-false, eqb-true, ltb-false, and_parts, or_parts}
use Rattle.std.proofs.lemmas.Bool.Decides.{nat_tests}
use Rattle.ged_line.specs.Lines.{LineParts, is_line, Value}
use Rattle.ged_line.specs.Lines as value
use Rattle.ged_tree.specs.Trees.{Trees}
use Rattle.ged_tree.specs.Documents.{is_document, HasLines}
use Rattle.ged_tree.specs.DocumentLines.{lines_of}
use Rattle.ged_tree.specs.inner.Trailers.{trailer_line}
use Rattle.ged_tree.specs.TreeFaults.{is_header, is_trailer, is_empty, has_trailer, line_before, has_forbidden_xref, fault_after, Pass, start, more}
use Rattle.ged_tree.specs.TreeLaws.{PassIsDocument}
use Rattle.ged_tree.proofs.theory.Judging.{trailer_more}
use Rattle.ged_tree.proofs.theory.Growing.{Fits, chain_from, passes_first, none_is, parts_are, forest, whole}
use Rattle.ged_tree.proofs.theory.Grown.{document_grown}
use Rattle.ged_tree.proofs.theory.LinesAgain.{read_again}
use Rattle.ged_tree.proofs.theory.LinesThatPass.{passes}

empty_is : (v : Value) → is_empty v ≡ true → v ≡ value.Empty
empty_is value.Empty h = refl
empty_is value.Void h = absurd (true≢false (sym h))
empty_is (value.Pointer name) h = absurd (true≢false (sym h))
empty_is (value.Text text) h = absurd (true≢false (sym h))

unnamed_trailer : (line : LineParts) → is_trailer line ≡ true → has_forbidden_xref line ≡ false → line.xref ≡ None
unnamed_trailer line h e = none_is line.xref (at (is_some line.xref) (nat_lt 0 line.level || is_header line) (is_trailer line) h e)
  where
    at : (a b c : Bool) → c ≡ true → (a && (b || c)) ≡ false → a ≡ false
    at true true true h e = e
    at true false true h e = e
    at false b true h e = refl
    at a b false h e = absurd (true≢false (sym h))

-- no fault stands at a line
pub record Free (lines : List LineParts) (line : LineParts) : Type 0 where
  pub fits : Fits (line_before lines) line
  pub full : ((is_trailer line && not (is_empty line.value)) || (has_trailer lines && nat_lt 0 line.level)) ≡ false
  pub past : (has_trailer lines && line.level == 0) ≡ false

pub free_after : (lines : List LineParts) (line : LineParts) → fault_after lines line ≡ None → Free lines line
free_after lines line h =
    let a = passes_first _ _ _ h in
    let b = passes_first _ _ _ a.1 in
    let c = passes_first _ _ _ b.1 in
    let d = passes_first _ _ _ c.1 in
    let e = passes_first _ _ _ d.1 in
    let f = passes_first _ _ _ e.1 in
    let g = passes_first _ _ _ f.1 in
    record { fits = record { near = a.0; named = b.0; placed = c.0; begun = d.0; once = e.0 }; full = f.0; past = g.0 }

-- lines without a fault that end: those before TRLR, and TRLR
pub record Ended (lines : List LineParts) : Type 0 where
  pub before : List LineParts
  pub cut : lines ≡ before ++ trailer_line ∷ []
  pub pass : Pass before
  pub ongoing : has_trailer before ≡ false

-- the last line of lines without a fault is the first TRLR at level 0
pub ended : (lines : List LineParts) → Pass lines → has_trailer lines ≡ true → Ended lines
ended _ start t = absurd (true≢false (sym t))
ended _ (more lines line h e) t =
    let free = free_after lines line e in
    let full = or_parts (is_trailer line && not (is_empty line.value)) (has_trailer lines && nat_lt 0 line.level) free.full in
    let ongoing : has_trailer lines ≡ false = only (has_trailer lines) (nat_lt 0 line.level) (line.level == 0) full.1 free.past (level_is line) in
    let last : is_trailer line ≡ true = (let q = sym (trailer_more lines line) ∙ t in rw ongoing at q) in
    let parts = and_parts (line.level == 0) (bytes_eq line.tag (codes "TRLR")) last in
    let void : is_empty line.value ≡ true = (let q = full.0 in not-false (is_empty line.value) (rw last at q)) in
    let is = parts_are line 0 None (codes "TRLR") value.Empty (eqb-true line.level 0 parts.0) (unnamed_trailer line last free.fits.named) ((bytes_eq-Decides line.tag (codes "TRLR")).0 parts.1) (empty_is line.value void) in
    record { before = lines; cut = ap (λ (l : LineParts). lines ++ l ∷ []) is; pass = h; ongoing = ongoing }
  where
    level_is : (line : LineParts) → nat_lt 0 line.level ≡ false → (line.level == 0) ≡ true
    level_is line h = (let small = ltb-false 0 line.level h in grind (arith, nat_tests))

    only : (t a b : Bool) → (t && a) ≡ false → (t && b) ≡ false → (a ≡ false → b ≡ true) → t ≡ false
    only true a b h k f = absurd (both_ways b k (f h))
    only false a b h k f = refl

all_before : (xs ys : List LineParts) → list_all is_line (xs ++ ys) ≡ true → list_all is_line xs ≡ true
all_before [] ys h = refl
all_before (x ∷ xs) ys h = let q = and_parts (is_line x) (list_all is_line (xs ++ ys)) h in rw q.0 (all_before xs ys q.1)

made_of : (before : List LineParts) → Pass (before ++ trailer_line ∷ []) → Pass before → list_all is_line before ≡ true
    → has_trailer before ≡ false → length before + 1 < 2 ^ 63 → is_document (forest 0 before) ≡ true
made_of [] pass earlier all ongoing few = absurd (true≢false (chain_from (trailer_line ∷ []) pass).0.begun)
made_of (line ∷ rest) pass earlier all ongoing few = document_grown line rest (chain_from (line ∷ rest) earlier) all ongoing few

-- lines without a fault are a document's
pub made : (lines : List LineParts) → Pass lines → has_trailer lines ≡ true → list_all is_line lines ≡ true → length lines < 2 ^ 63
    → (document : Trees) × HasLines document lines
made lines pass t all few =
    let e = ended lines pass t in
    let before = e.before in
    let cut : lines ≡ before ++ trailer_line ∷ [] = e.cut in
    let every : list_all is_line before ≡ true = all_before before (trailer_line ∷ []) (rw cut at all) in
    let long : length lines ≡ length before + 1 = ap (λ (ls : List LineParts). length ls) cut ∙ length-append before (trailer_line ∷ []) in
    let full : Pass (before ++ trailer_line ∷ []) = subst (λ (ls : List LineParts). Pass ls) cut pass in
    let chain = chain_from before e.pass in
    (forest 0 before, record { allowed = made_of before full e.pass every e.ongoing (omega arith); told = cut ∙ ap (λ (ls : List LineParts). ls ++ trailer_line ∷ []) (whole before chain every) })

-- no two documents have the same lines
pub one_document : (w u : Trees) (lines : List LineParts) → HasLines w lines → HasLines u lines → w ≡ u
one_document w u lines a b =
    let same : lines_of 0 w ≡ lines_of 0 u = append_cancel_right (lines_of 0 w) (lines_of 0 u) (trailer_line ∷ []) (sym a.told ∙ b.told) in
    sym (read_again w a.allowed) ∙ ap (λ (ls : List LineParts). forest 0 ls) same ∙ read_again u b.allowed

pub law : PassIsDocument
law lines all few = (λ p. let m = made lines p.0 p.1 all few in (m.0, m.1, λ u h. one_document m.0 u lines m.1 h), λ d. passes d.0 lines d.1)
