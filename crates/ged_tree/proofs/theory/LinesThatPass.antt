-- No fault stands at the lines of a document.
use Rattle.std.proofs.Common.{◌≡◌, ℕ, ◌+◌, ◌<◌, ◌≤◌, Bool, true, false, cond, ◌||◌, ◌&&◌, ◌==◌, not, List, [], ◌∷◌, ◌++◌, ◌⊎◌, inl, inr, Option, Some, None, refl, sym, subst, ◌∙◌, arith, append_assoc, codes}
use Rattle.std.specs.Prelude.{nat_lt, is_some, is_none}
use Rattle.std.specs.List.{list_any}
use Rattle.std.specs.Str.{bytes_eq}
use Rattle.std.proofs.lemmas.Bool.{true≢false, le-ltb, eq-eqb, and_parts, and_from, and_left, and_right, or_from, or_parts, or_right, not-true, not_from_true, not_from_false}
use Rattle.std.proofs.lemmas.Slice.Eq.{bytes_eq-Decides}
use Rattle.std.proofs.lemmas.Bool.Decides.{nat_tests}
use Rattle.ged_line.specs.Bytes.{Bytes}
use Rattle.ged_line.specs.Names.{is_xref}
use Rattle.ged_line.specs.Lines.{LineParts}
use Rattle.ged_tree.specs.Trees.{Structure, Trees, none, tree, further_lines}
use Rattle.ged_tree.specs.Documents.{are_at, are_records, is_document, HasLines}
use Rattle.ged_tree.specs.inner.DocumentParts.{is_xref_at, is_record_tag, continued}
use Rattle.ged_tree.specs.declared.payload.Payload.{Payload}
use Rattle.ged_tree.specs.declared.payload.Payload.TheVariants.{Void, Pointer, Text}
use Rattle.ged_tree.specs.DocumentLines.{line_value, first_value, structure_lines, lines_of, document_lines}
use Rattle.ged_tree.specs.inner.Trailers.{trailer_line}
use Rattle.ged_tree.specs.TreeFaults.{is_cont, is_header, is_trailer, is_reference, is_empty, line_before, has_trailer, has_forbidden_xref, continues, is_misplaced_cont, fault_after, Pass, start, more}
use Rattle.ged_tree.proofs.theory.Judging.{before_more, trailer_more}
use Rattle.ged_tree.proofs.theory.Growing.{Fits, Chain, inner, cont_line}
use Rattle.ged_tree.proofs.theory.LinesAgain.{tree_is, document_is, own_line, laid}

cond_none : {A : Type 0} (b : Bool) (x : A) (o : Option A) → b ≡ false → o ≡ None → cond b (Some x) o ≡ None
cond_none b x o h e = rw h e

free : (lines : List LineParts) (line : LineParts) → Fits (line_before lines) line
    → ((is_trailer line && not (is_empty line.value)) || (has_trailer lines && nat_lt 0 line.level)) ≡ false
    → has_trailer lines ≡ false → fault_after lines line ≡ None
free lines line f full open_yet =
    let past : (has_trailer lines && line.level == 0) ≡ false = and_left (has_trailer lines) _ open_yet in
    cond_none _ _ _ f.near (cond_none _ _ _ f.named (cond_none _ _ _ f.placed (cond_none _ _ _ f.begun (cond_none _ _ _ f.once (cond_none _ _ _ full (cond_none _ _ _ past refl))))))

-- lines and TRLR that follow on from lines without a fault and without TRLR
pass_on : (xs ys : List LineParts) → Pass xs → has_trailer xs ≡ false → Chain (line_before xs) (ys ++ trailer_line ∷ [])
    → has_trailer ys ≡ false → Pass (xs ++ (ys ++ trailer_line ∷ []))
pass_on xs [] p t c u = more xs trailer_line p (free xs trailer_line c.0 (or_from _ _ refl (and_left (has_trailer xs) _ t)) t)
pass_on xs (y ∷ ys) p t c u =
    let v = or_parts (is_trailer y) (list_any is_trailer ys) u in
    let ok = free xs y c.0 (or_from _ _ (and_left (is_trailer y) _ v.0) (and_left (has_trailer xs) _ t)) t in
    let now : Pass (xs ++ y ∷ []) = more xs y p ok in
    let none_yet : has_trailer (xs ++ y ∷ []) ≡ false = trailer_more xs y ∙ or_from _ _ t v.0 in
    let chained : Chain (line_before (xs ++ y ∷ [])) (ys ++ trailer_line ∷ []) = subst (λ (o : Option LineParts). Chain o (ys ++ trailer_line ∷ [])) (sym (before_more xs y)) c.1 in
    subst (λ (ls : List LineParts). Pass ls) (append_assoc xs (y ∷ []) (ys ++ trailer_line ∷ [])) (pass_on (xs ++ y ∷ []) ys now none_yet chained v.1)

inner_near : (p : LineParts) (k : ℕ) → k ≤ inner p → nat_lt (p.level + 1) k ≡ false
inner_near p k h = at (is_cont p) h
  where
    at : (b : Bool) → k ≤ cond b p.level (p.level + 1) → nat_lt (p.level + 1) k ≡ false
    at true h = le-ltb (p.level + 1) k (omega arith)
    at false h = le-ltb (p.level + 1) k h

inner_below : (p : LineParts) (k : ℕ) → k ≤ inner p → (is_cont p && nat_lt p.level k) ≡ false
inner_below p k h = at (is_cont p) h
  where
    at : (b : Bool) → k ≤ cond b p.level (p.level + 1) → (b && nat_lt p.level k) ≡ false
    at true h = le-ltb p.level k h
    at false h = refl

own_fits : (p line : LineParts) → line.level ≤ inner p → is_cont line ≡ false → has_forbidden_xref line ≡ false → is_header line ≡ false
    → Fits (Some p) line
own_fits p line h own named header = record {
  near = inner_near p line.level h;
  named = named;
  placed = or_from (is_misplaced_cont (Some p) line) _ (and_left (is_cont line) _ own) (inner_below p line.level h);
  begun = refl;
  once = header;
}

text_value : (text : Bytes) → is_reference (line_value text) ≡ false
text_value [] = refl
text_value (b ∷ bs) = refl

cont_fits : (p : LineParts) (m : ℕ) (text : Bytes) → inner p ≡ m → 0 < m → (is_cont p ≡ false → is_reference p.value ≡ false)
    → Fits (Some p) (cont_line m text)
cont_fits p m text e d r =
    let line = cont_line m text in
    let deep : (m == 0) ≡ false = grind (arith, nat_tests) in
    let goes_on : continues (Some p) line ≡ true = at (is_cont p) e r in
    let free : ((m == 0) || is_reference (line_value text)) ≡ false = or_from (m == 0) _ deep (text_value text) in
    record {
      near = inner_near p m (omega (arith, e));
      named = refl;
      placed = or_from (is_misplaced_cont (Some p) line) _ (or_from ((m == 0) || is_reference (line_value text)) _ free (not_from_true (continues (Some p) line) goes_on)) (inner_below p m (omega (arith, e)));
      begun = refl;
      once = and_right (m == 0) _ refl;
    }
  where
    at : (b : Bool) → cond b p.level (p.level + 1) ≡ m → (b ≡ false → is_reference p.value ≡ false)
        → cond b (p.level == m) ((p.level + 1 == m) && not (is_reference p.value)) ≡ true
    at true e r = eq-eqb p.level m e
    at false e r = and_from _ _ (eq-eqb (p.level + 1) m e) (not_from_false _ (r refl))

chain_conts : (p : LineParts) (m : ℕ) (texts : List Bytes) (rest : List LineParts) → inner p ≡ m → 0 < m
    → (is_cont p ≡ false → is_reference p.value ≡ false)
    → ((q : LineParts) → inner q ≡ m → Chain (Some q) rest) → Chain (Some p) (continued m texts ++ rest)
chain_conts p m [] rest e d r tail = tail p e
chain_conts p m (text ∷ texts) rest e d r tail =
    (cont_fits p m text e d r, chain_conts (cont_line m text) m texts rest refl d (λ x. absurd (true≢false x)) tail)

-- a structure's further lines
chain_further : (p : LineParts) (payload : Payload) (rest : List LineParts) → is_cont p ≡ false → p.value ≡ first_value payload
    → ((q : LineParts) → inner q ≡ p.level + 1 → Chain (Some q) rest) → Chain (Some p) (continued (p.level + 1) (further_lines payload) ++ rest)
chain_further p Void rest own v tail = tail p (rw own refl)
chain_further p (Pointer name) rest own v tail = tail p (rw own refl)
chain_further p (Text []) rest own v tail = tail p (rw own refl)
chain_further p (Text (first ∷ further)) rest own v tail = chain_conts p (p.level + 1) further rest (rw own refl) (omega arith) (λ _. rw v (text_value first)) tail

-- trees below a record, or records
abbrev Rank : ℕ → Trees → Type 0
Rank k w = (0 < k) ⊎ (are_records w ≡ true)

next_rank : (k : ℕ) (s : Structure) (b n : Trees) → Rank k (tree s b n) → Rank k n
next_rank k s b n (inl d) = inl d
next_rank k s b n (inr r) = inr (and_parts (is_record_tag s.tag) (are_records n) r).1

-- a structure of this rank is neither HEAD nor TRLR at level 0
no_end : (k : ℕ) (s : Structure) (b n : Trees) → Rank k (tree s b n)
    → (((k == 0) && bytes_eq s.tag (codes "HEAD")) ≡ false) × (((k == 0) && bytes_eq s.tag (codes "TRLR")) ≡ false)
no_end k s b n (inl d) =
    let deep : (k == 0) ≡ false = grind (arith, nat_tests) in
    (and_left (k == 0) _ deep, and_left (k == 0) _ deep)
no_end k s b n (inr r) =
    let p = and_parts (is_record_tag s.tag) (are_records n) r in
    let q = and_parts (not (bytes_eq s.tag (codes "HEAD"))) (not (bytes_eq s.tag (codes "TRLR"))) p.0 in
    (and_right (k == 0) _ (not-true _ q.0), and_right (k == 0) _ (not-true _ q.1))

named_well : (k : ℕ) (xref : Option Bytes) (header trailer : Bool) → is_xref_at k xref ≡ true → header ≡ false → trailer ≡ false
    → (is_some xref && (nat_lt 0 k || header || trailer)) ≡ false
named_well k None header trailer x h t = refl
named_well k (Some name) header trailer x h t =
    let top = (and_parts (k == 0) (is_xref name) x).0 in
    let low : nat_lt 0 k ≡ false = grind (arith, nat_tests) in
    or_from (nat_lt 0 k || header) trailer (or_from (nat_lt 0 k) header low h) t

chain_at : (k : ℕ) (w : Trees) (p : LineParts) (rest : List LineParts) → Rank k w → are_at k w ≡ true → k ≤ inner p
    → ((q : LineParts) → k ≤ inner q → Chain (Some q) rest) → Chain (Some p) (lines_of k w ++ rest)
chain_at k none p rest d a h tail = tail p h
chain_at k (tree s b n) p rest d a h tail =
    let t = tree_is k s b n a in
    let own = own_line k s in
    let after_n = lines_of k n ++ rest in
    let apart = no_end k s b n d in
    let fits = own_fits p own h t.own (named_well k s.xref _ _ t.xref apart.0 apart.1) apart.0 in
    let after : (q : LineParts) → k + 1 ≤ inner q → Chain (Some q) after_n = λ q m. chain_at k n q rest (next_rank k s b n d) t.next_is (omega arith) tail in
    let below : (q : LineParts) → inner q ≡ k + 1 → Chain (Some q) (lines_of (k + 1) b ++ after_n) =
    λ q e. chain_at (k + 1) b q after_n (inl (omega arith)) t.below_is (omega (arith, e)) after in
    subst (λ (ls : List LineParts). Chain (Some p) ls) (sym (laid k s b n rest)) (fits, chain_further own s.payload (lines_of (k + 1) b ++ after_n) t.own refl below)

any_append : (xs ys : List LineParts) → has_trailer xs ≡ false → has_trailer ys ≡ false → has_trailer (xs ++ ys) ≡ false
any_append [] ys h k = k
any_append (x ∷ xs) ys h k = let u = or_parts (is_trailer x) (list_any is_trailer xs) h in or_from _ _ u.0 (any_append xs ys u.1 k)

conts_open : (m : ℕ) (texts : List Bytes) → has_trailer (continued m texts) ≡ false
conts_open m [] = refl
conts_open m (text ∷ texts) = or_from _ _ (and_right (m == 0) _ refl) (conts_open m texts)

tree_open : (k : ℕ) (s : Structure) (b n : Trees) → ((k == 0) && bytes_eq s.tag (codes "TRLR")) ≡ false
    → has_trailer (lines_of (k + 1) b) ≡ false → has_trailer (lines_of k n) ≡ false → has_trailer (lines_of k (tree s b n)) ≡ false
tree_open k s b n own below next =
    let first : has_trailer (structure_lines k s) ≡ false = or_from _ _ own (conts_open (k + 1) (further_lines s.payload)) in
    any_append (structure_lines k s ++ lines_of (k + 1) b) (lines_of k n) (any_append (structure_lines k s) (lines_of (k + 1) b) first below) next

open_at : (k : ℕ) (w : Trees) → Rank k w → has_trailer (lines_of k w) ≡ false
open_at k none d = refl
open_at k (tree s b n) d = tree_open k s b n (no_end k s b n d).1 (open_at (k + 1) b (inl (omega arith))) (open_at k n (next_rank k s b n d))

trailer_fits : (q : LineParts) → Chain (Some q) (trailer_line ∷ [])
trailer_fits q = (own_fits q trailer_line (omega arith) refl refl refl, tt)

module _ (s : Structure) (b n : Trees) (a : is_document (tree s b n) ≡ true) where
  document_chain : Chain None (lines_of 0 (tree s b n) ++ trailer_line ∷ [])
  document_chain =
      let d = document_is s b n a in
      let t = tree_is 0 s b n d.placed in
      let own = own_line 0 s in
      let records = lines_of 0 n ++ trailer_line ∷ [] in
      let fits : Fits None own = record {
        near = refl;
        named = and_left (is_some s.xref) _ (unnamed s.xref d.unnamed);
        placed = or_from (is_misplaced_cont None own) _ (and_left (is_cont own) _ t.own) refl;
        begun = not_from_true (is_header own) d.header;
        once = refl;
      } in
      let after : (q : LineParts) → 1 ≤ inner q → Chain (Some q) records =
      λ q m. chain_at 0 n q (trailer_line ∷ []) (inr d.records) t.next_is (omega arith) (λ q _. trailer_fits q) in
      let below : (q : LineParts) → inner q ≡ 1 → Chain (Some q) (lines_of 1 b ++ records) =
      λ q e. chain_at 1 b q records (inl (omega arith)) t.below_is (omega (arith, e)) after in
      subst (λ (ls : List LineParts). Chain None ls) (sym (laid 0 s b n (trailer_line ∷ []))) (fits, chain_further own s.payload (lines_of 1 b ++ records) t.own refl below)
    where
      unnamed : {A : Type 0} (o : Option A) → is_none o ≡ true → is_some o ≡ false
      unnamed None h = refl
      unnamed (Some x) h = absurd (true≢false (sym h))

  document_open : has_trailer (lines_of 0 (tree s b n)) ≡ false
  document_open =
      let d = document_is s b n a in
      let tag : s.tag ≡ codes "HEAD" = (bytes_eq-Decides s.tag (codes "HEAD")).0 d.header in
      tree_open 0 s b n (rw tag refl) (open_at 1 b (inl (omega arith))) (open_at 0 n (inr d.records))

  document_passes : Pass (document_lines (tree s b n)) × (has_trailer (document_lines (tree s b n)) ≡ true)
  document_passes =
      let trees = lines_of 0 (tree s b n) in
      (pass_on [] trees start refl document_chain document_open, trailer_more trees trailer_line ∙ or_right (has_trailer trees) true refl)

-- no fault stands at the lines of a document, and TRLR is among them
pub passes : (w : Trees) (lines : List LineParts) → HasLines w lines → Pass lines × (has_trailer lines ≡ true)
passes none lines h = absurd (true≢false (sym h.allowed))
passes (tree s b n) lines h = subst (λ (ls : List LineParts). Pass ls × (has_trailer ls ≡ true)) (sym h.told) (document_passes s b n h.allowed)
