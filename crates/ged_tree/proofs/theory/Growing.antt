-- The trees that lines without a fault make.
use Rattle.std.proofs.Common.{◌≡◌, ℕ, suc, zero, ◌+◌, ◌<◌, ◌≤◌, Bool, true, false, cond, ◌||◌, ◌&&◌, ◌==◌, not, List, [], ◌∷◌, ◌++◌, Option, Some, None, refl, sym, ◌∙◌, ap, arith, inl, inr, add-one, append_assoc, append-nil, codes}
use Rattle.std.specs.Prelude.{nat_lt, is_some, is_none}
use Rattle.std.specs.List.{list_all, last_or}
use Rattle.std.specs.Str.{bytes_eq}
use Rattle.std.proofs.lemmas.Slice.Eq.{bytes_eq-Decides}
use Rattle.std.proofs.lemmas.Bool.{true≢false, not-true, not-false, ltb-false, eqb-true, eqb-false, eq-eqb, cases_lt, cases_Bool, and_parts, or_parts}
use Rattle.std.proofs.lemmas.Bool.Decides.{nat_tests}
use Rattle.ged_line.specs.Bytes.{Bytes}
use Rattle.ged_line.specs.Lines.{LineParts, line_parts, is_line, Value, is_value}
use Rattle.ged_line.specs.Lines as value
use Rattle.ged_tree.proofs.theory.LineParts.{line_is}
use Rattle.ged_tree.specs.Trees.{Structure, Trees, none, tree, further_lines}
use Rattle.ged_tree.specs.Spelled.{payload_from}
use Rattle.ged_tree.specs.DocumentLines.{line_value, first_value, lines_of}
use Rattle.ged_tree.specs.inner.DocumentParts.{continued}
use Rattle.ged_tree.specs.TreeFaults.{is_cont, is_header, is_trailer, is_reference, line_before, jumps, has_forbidden_xref, continues, is_misplaced_cont, is_below_cont, fault_after, Pass, start, more}

-- none of the faults that the line before decides stands at a line
pub record Fits (before : Option LineParts) (line : LineParts) : Type 0 where
  pub near : jumps before line ≡ false
  pub named : has_forbidden_xref line ≡ false
  pub placed : (is_misplaced_cont before line || is_below_cont before line) ≡ false
  pub begun : (is_none before && not (is_header line)) ≡ false
  pub once : (is_some before && is_header line) ≡ false

-- each line fits the one before it
abbrev pub Chain : Option LineParts → List LineParts → Type 0
Chain before [] = Unit
Chain before (line ∷ lines) = Fits before line × Chain (Some line) lines

pub passes_first : {A : Type 0} (b : Bool) (x : A) (o : Option A) → cond b (Some x) o ≡ None → (b ≡ false) × (o ≡ None)
passes_first true x o h = absurd (true≢false (ap is_some h))
passes_first false x o h = (refl, h)

pub fits_after : (lines : List LineParts) (line : LineParts) → fault_after lines line ≡ None → Fits (line_before lines) line
fits_after lines line h =
    let a = passes_first _ _ _ h in
    let b = passes_first _ _ _ a.1 in
    let c = passes_first _ _ _ b.1 in
    let d = passes_first _ _ _ c.1 in
    let e = passes_first _ _ _ d.1 in
    record { near = a.0; named = b.0; placed = c.0; begun = d.0; once = e.0 }

chain_more : (o : Option LineParts) (xs : List LineParts) (x : LineParts) → Chain o xs → Fits (last_or o xs) x → Chain o (xs ++ x ∷ [])
chain_more o [] x h f = (f, tt)
chain_more o (y ∷ ys) x h f = (h.0, chain_more (Some y) ys x h.1 f)

pub chain_from : (lines : List LineParts) → Pass lines → Chain None lines
chain_from _ start = tt
chain_from _ (more lines line h e) = chain_more None lines line (chain_from lines h) (fits_after lines line e)

abbrev pub text_of : Value → Bytes
text_of value.Empty = []
text_of value.Void = []
text_of (value.Pointer name) = []
text_of (value.Text text) = text

-- the texts of the CONT lines at the front
abbrev pub further_of : List LineParts → List Bytes
further_of [] = []
further_of (line ∷ lines) = cond (is_cont line) (text_of line.value ∷ further_of lines) []

abbrev pub structure_from : LineParts → List LineParts → Structure
structure_from line rest = record { xref = line.xref; tag = line.tag; payload = payload_from line.value (further_of rest) }

-- the trees that stand at a level at the front of lines
abbrev pub forest : ℕ → List LineParts → Trees
forest k [] = none
forest k (line ∷ rest) =
    cond (is_cont line) (forest k rest)
    (cond (line.level == k) (tree (structure_from line rest) (forest (k + 1) rest) (forest k rest))
    (cond (nat_lt k line.level) (forest k rest) none))

module _ (k : ℕ) (line : LineParts) (rest : List LineParts) where
  pub forest_cont : is_cont line ≡ true → forest k (line ∷ rest) ≡ forest k rest
  forest_cont h = rw h refl

  pub forest_here : is_cont line ≡ false → line.level ≡ k
      → forest k (line ∷ rest) ≡ tree (structure_from line rest) (forest (k + 1) rest) (forest k rest)
  forest_here h e = rw (h, eq-eqb line.level k e) refl

  pub forest_below : is_cont line ≡ false → k < line.level → forest k (line ∷ rest) ≡ forest k rest
  forest_below h e = rw h (grind (arith, nat_tests))

  pub forest_above : is_cont line ≡ false → line.level < k → forest k (line ∷ rest) ≡ none
  forest_above h e = rw h (grind (arith, nat_tests))

-- the lines of the trees at each level below k, the deepest first
abbrev pub lines_under : ℕ → List LineParts → List LineParts
lines_under zero rest = []
lines_under (suc k) rest = lines_of k (forest k rest) ++ lines_under k rest

under_cont : (k : ℕ) (line : LineParts) (rest : List LineParts) → is_cont line ≡ true → lines_under k (line ∷ rest) ≡ lines_under k rest
under_cont zero line rest h = refl
under_cont (suc k) line rest h = rw (forest_cont k line rest h, under_cont k line rest h) refl

under_below : (k : ℕ) (line : LineParts) (rest : List LineParts) → is_cont line ≡ false → k ≤ line.level
    → lines_under k (line ∷ rest) ≡ lines_under k rest
under_below zero line rest h e = refl
under_below (suc k) line rest h e = rw (forest_below k line rest h (omega arith), under_below k line rest h (omega arith)) refl

under_above : (m k : ℕ) (line : LineParts) (rest : List LineParts) → is_cont line ≡ false → line.level < k → k ≤ m
    → lines_under m (line ∷ rest) ≡ lines_under k (line ∷ rest)
under_above zero k line rest h e f = absurd (omega arith)
under_above (suc m) k line rest h e f = elim (cases_lt m k) [
  | inl same ↦ (let q : suc m ≡ k = omega arith in ap (λ (j : ℕ). lines_under j (line ∷ rest)) q)
  | inr far ↦ rw (forest_above m line rest h (omega arith)) (under_above m k line rest h e far)
]

under_none : (k : ℕ) → lines_under k [] ≡ []
under_none zero = refl
under_none (suc k) = under_none k

values_join : (v : Value) (further : List Bytes) → is_value v ≡ true → (is_reference v ≡ true → further ≡ [])
    → (first_value (payload_from v further) ≡ v) × (further_lines (payload_from v further) ≡ further)
values_join value.Empty f h r = (refl, refl)
values_join value.Void f h r = (refl, sym (r refl))
values_join (value.Pointer name) f h r = (refl, sym (r refl))
values_join (value.Text []) f h r = absurd (true≢false (sym h))
values_join (value.Text (b ∷ bs)) f h r = (refl, refl)

text_again : (v : Value) → is_value v ≡ true → is_reference v ≡ false → line_value (text_of v) ≡ v
text_again value.Empty h r = refl
text_again value.Void h r = absurd (true≢false r)
text_again (value.Pointer name) h r = absurd (true≢false r)
text_again (value.Text []) h r = absurd (true≢false (sym h))
text_again (value.Text (b ∷ bs)) h r = refl

pub none_is : {A : Type 0} (o : Option A) → is_some o ≡ false → o ≡ None
none_is None h = refl
none_is (Some x) h = absurd (true≢false h)

pub parts_are : (line : LineParts) (level : ℕ) (xref : Option Bytes) (tag : Bytes) (v : Value) → line.level ≡ level → line.xref ≡ xref
    → line.tag ≡ tag → line.value ≡ v → line ≡ line_parts level xref tag v
parts_are line level xref tag v a b c d = rw (← a, ← b, ← c, ← d) refl

-- the level of what stands below a line or goes on with it
abbrev pub inner : LineParts → ℕ
inner line = cond (is_cont line) line.level (line.level + 1)

-- lines straight after another: those that go on with its text, then those of the trees below it and after it
abbrev Grows : LineParts → List LineParts → Type 0
Grows before lines = lines ≡ continued (inner before) (further_of lines) ++ lines_under (suc (inner before)) lines

module _ (line : LineParts) (rest : List LineParts) (own : is_cont line ≡ false) (allowed : is_line line ≡ true) (alone : is_reference line.value ≡ true → further_of rest ≡ []) where
  step : rest ≡ continued (line.level + 1) (further_of rest) ++ lines_under (suc (line.level + 1)) rest
      → line ∷ rest ≡ lines_under (suc line.level) (line ∷ rest)
  step h =
      let e : lines_under (line.level + 1) rest ≡ lines_of line.level (forest line.level rest) ++ lines_under line.level rest = rw add-one refl in
      let v = values_join line.value (further_of rest) (line_is line allowed).value alone in
      let c = continued (line.level + 1) (further_of rest) in
      let below = lines_of (line.level + 1) (forest (line.level + 1) rest) in
      let next = lines_of line.level (forest line.level rest) in
      let under = lines_under line.level rest in
      let joined : rest ≡ ((c ++ below) ++ next) ++ under =
      h ∙ ap (λ (ls : List LineParts). c ++ (below ++ ls)) e ∙ sym (append_assoc (c ++ below) next under ∙ append_assoc c below (next ++ under)) in
      rw (forest_here line.level line rest own refl, under_below line.level line rest own (omega arith), v.0, v.1) (ap (λ (ls : List LineParts). line ∷ ls) joined)

abbrev pub cont_line : ℕ → Bytes → LineParts
cont_line level text = line_parts level None (codes "CONT") (line_value text)

-- a CONT without a fault goes on with the line before
pub record Continues (before line : LineParts) : Type 0 where
  pub deep : 0 < line.level
  pub text : is_reference line.value ≡ false
  pub level : line.level ≡ inner before
  pub after_text : is_cont before ≡ false → is_reference before.value ≡ false

continued_level : (before line : LineParts) → continues (Some before) line ≡ true
    → (line.level ≡ inner before) × (is_cont before ≡ false → is_reference before.value ≡ false)
continued_level before line h = at (is_cont before) h
  where
    at : (b : Bool) → cond b (before.level == line.level) ((before.level + 1 == line.level) && not (is_reference before.value)) ≡ true
        → (line.level ≡ cond b before.level (before.level + 1)) × (b ≡ false → is_reference before.value ≡ false)
    at true h = (sym (eqb-true _ _ h), λ e. absurd (true≢false e))
    at false h = let p = and_parts (before.level + 1 == line.level) (not (is_reference before.value)) h in (sym (eqb-true _ _ p.0), λ e. not-true _ p.1)

pub continued_by : (before line : LineParts) → Fits (Some before) line → is_cont line ≡ true → Continues before line
continued_by before line fits e =
    let p = or_parts (is_misplaced_cont (Some before) line) (is_below_cont (Some before) line) fits.placed in
    let q : (line.level == 0 || is_reference line.value || not (continues (Some before) line)) ≡ false = rw e at p.0 in
    let r = or_parts (line.level == 0 || is_reference line.value) (not (continues (Some before) line)) q in
    let s = or_parts (line.level == 0) (is_reference line.value) r.0 in
    let t = continued_level before line (not-false (continues (Some before) line) r.1) in
    let z = eqb-false line.level 0 s.0 in
    record { deep = omega (arith, z); text = s.1; level = t.0; after_text = t.1 }

pub named_by : (line : LineParts) → 0 < line.level → has_forbidden_xref line ≡ false → line.xref ≡ None
named_by line h e =
    let deep : nat_lt 0 line.level ≡ true = grind (arith, nat_tests) in
    none_is line.xref (at (is_some line.xref) (nat_lt 0 line.level) (is_header line) (is_trailer line) deep e)
  where
    at : (a b c d : Bool) → b ≡ true → (a && (b || c || d)) ≡ false → a ≡ false
    at true true c d h e = e
    at true false c d h e = absurd (true≢false (sym h))
    at false b c d h e = refl

module _ (before line : LineParts) (rest : List LineParts) (fits : Fits (Some before) line) (allowed : is_line line ≡ true) (ih : Grows line rest) where
  grow_cont : is_cont line ≡ true → Grows before (line ∷ rest)
  grow_cont e =
      let c = continued_by before line fits e in
      let again = text_again line.value (line_is line allowed).value c.text in
      let own = cont_line (inner before) (text_of line.value) in
      let tag = (bytes_eq-Decides line.tag (codes "CONT")).0 e in
      let is : line ≡ own = parts_are line (inner before) None (codes "CONT") (line_value (text_of line.value)) c.level (named_by line c.deep fits.named) tag (sym again) in
      let same : inner line ≡ inner before = rw e c.level in
      let more_of : further_of (line ∷ rest) ≡ text_of line.value ∷ further_of rest = rw e refl in
      rw (more_of, under_cont (suc (inner before)) line rest e) (ap (λ (l : LineParts). l ∷ rest) is ∙ ap (λ (ls : List LineParts). own ∷ ls) (rw same at ih))

  within : line.level ≤ inner before
  within = at (is_cont before) (or_parts (is_misplaced_cont (Some before) line) (is_below_cont (Some before) line) fits.placed).1
    where
      near : line.level ≤ before.level + 1
      near = ltb-false _ _ fits.near

      at : (b : Bool) → (b && nat_lt before.level line.level) ≡ false → line.level ≤ cond b before.level (before.level + 1)
      at true h = ltb-false _ _ h
      at false h = near

  grow_other : is_cont line ≡ false → (is_reference line.value ≡ true → further_of rest ≡ []) → Grows before (line ∷ rest)
  grow_other e alone =
      let none_of : further_of (line ∷ rest) ≡ [] = rw e refl in
      let deeper : inner line ≡ line.level + 1 = rw e refl in
      let far : line.level ≤ inner before = within in
      rw (none_of, under_above (suc (inner before)) (suc line.level) line rest e (omega arith) (omega arith)) (step line rest e allowed alone (rw deeper at ih))

-- no CONT follows a pointer
alone_by : (line : LineParts) (rest : List LineParts) → is_cont line ≡ false → Chain (Some line) rest → is_reference line.value ≡ true
    → further_of rest ≡ []
alone_by line [] e c r = refl
alone_by line (x ∷ xs) e c r = elim (cases_Bool (is_cont x)) [
  | inl k ↦ absurd (true≢false (sym r ∙ (continued_by line x c.0 k).after_text e))
  | inr k ↦ rw k refl
]

grow : (before : LineParts) (lines : List LineParts) → Chain (Some before) lines → list_all is_line lines ≡ true → Grows before lines
grow before [] c a = sym (under_none (suc (inner before)))
grow before (line ∷ rest) c a =
    let p = and_parts (is_line line) (list_all is_line rest) a in
    let ih = grow line rest c.1 p.1 in
    elim (cases_Bool (is_cont line)) [
      | inl e ↦ grow_cont before line rest c.0 p.0 ih e
      | inr e ↦ grow_other before line rest c.0 p.0 ih e (alone_by line rest e c.1)
    ]

pub header_own : (line : LineParts) → is_header line ≡ true → (line.level ≡ 0) × (is_cont line ≡ false)
header_own line h =
    let p = and_parts (line.level == 0) (bytes_eq line.tag (codes "HEAD")) h in
    let tag = (bytes_eq-Decides line.tag (codes "HEAD")).0 p.1 in
    (eqb-true _ _ p.0, rw tag refl)

-- lines without a fault are those of the trees at level 0
pub whole : (lines : List LineParts) → Chain None lines → list_all is_line lines ≡ true → lines ≡ lines_of 0 (forest 0 lines)
whole [] c a = refl
whole (line ∷ rest) c a =
    let p = and_parts (is_line line) (list_all is_line rest) a in
    let h = header_own line (not-false (is_header line) c.0.begun) in
    let deeper : inner line ≡ line.level + 1 = rw h.1 refl in
    let all = step line rest h.1 p.0 (alone_by line rest h.1 c.1) (rw deeper at (grow line rest c.1 p.1)) in
    let top : lines_under (suc line.level) (line ∷ rest) ≡ lines_of 0 (forest 0 (line ∷ rest)) ++ [] = rw h.0 refl in
    all ∙ top ∙ append-nil (lines_of 0 (forest 0 (line ∷ rest)))
