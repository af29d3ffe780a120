-- Trees of two documents that become the same once they are in order and their pointers have new names.
use Rattle.std.proofs.Common.{◌≡◌, ℕ, ◌+◌, ◌-◌, ◌<◌, Bool, true, false, ◌&&◌, Result, Ok, Err, IfOk, List, [], ◌∷◌, ◌++◌, Option, None, option_map, refl, sym, ap, ◌∙◌, subst, decimal, inl, inr, zero, suc, arith}
use Rattle.std.specs.Prelude.{nat_le}
use Rattle.std.proofs.lemmas.Bool.{and_parts, and_from, cases_lt, false≢true}
use Rattle.std.proofs.lemmas.List.{append_cancel_left, append_cancel_right}
use Rattle.ged_line.specs.Bytes.{Bytes}
use Rattle.ged_line.specs.Lines.{LineParts, Value, line_parts, is_line, is_value}
use Rattle.ged_line.specs.Names.{is_tag}
use Rattle.ged_line.specs.Spelling.{LineText, spelling}
use Rattle.ged_line.proofs.CallerLemmas.{one_line}
use Rattle.ged_tree.specs.declared.payload.Payload.{Payload}
use Rattle.ged_tree.specs.declared.payload.Payload.TheVariants.{Void, Pointer, Text}
use Rattle.ged_tree.specs.Trees.{Structure, Trees, none, tree, trees_count, further_lines}
use Rattle.ged_tree.specs.Documents.{is_document, is_payload_at, is_structure_at, are_at}
use Rattle.ged_tree.specs.DocumentLines.{line_value, first_value, rest_of_line}
use Rattle.ged_tree.specs.Places.{structure_at, below_at, place_after}
use Rattle.ged_tree.specs.Runs.{IsRunOfTrees, trees_between}
use Rattle.ged_tree.specs.Views.{is_pointer}
use Rattle.ged_tree.proofs.CallerLemmas.{from_first, from_below, from_next, at_of_document, below_run, run_below}
use Rattle.ged_schema.specs.declared.context.Context.{Context}
use Rattle.ged_schema.specs.declared.context.Context.TheVariants.{File}
use Rattle.ged_schema.specs.Tables.{row, context_below}
use Rattle.ged_canon.specs.declared.edition.Edition.{Edition}
use Rattle.ged_canon.specs.declared.edition.Edition.TheVariants.{First}
use Rattle.ged_canon.specs.declared.writer.rank.RankedSibling.{RankedSibling}
use Rattle.ged_canon.specs.Steps.{renamed_payload, renamed}
use Rattle.ged_canon.specs.inner.StepParts.{renamed_structure, renamed_xref}
use Rattle.ged_canon.specs.Normal.{numbered}
use Rattle.ged_canon.specs.inner.Working.{is_named, used_xref, put, brief, brief_structure, sorted, number_among, number_of}
use Rattle.ged_canon.specs.inner.Siblings.{sibling_trees}
use Rattle.ged_canon.specs.inner.CanonBytes.{AreNamed, number_at, numbered_siblings}
use Rattle.ged_canon.specs.inner.Paired.{Bare, AreAlike, BecomeSame, StandsAlone}
use Rattle.ged_canon.proofs.theory.Bare.{BareBelow, document_bare, stands}
use Rattle.ged_canon.proofs.theory.Renaming.{brief_renamed, sorted_renamed}
use Rattle.ged_canon.proofs.writer.NewNames.{given_number}
use Rattle.ged_canon.proofs.writer.OwnLines.{lines_with, value_kept}
use Rattle.ged_canon.proofs.writer.Records.{no_number, own_identifier}
use Rattle.ged_canon.proofs.writer.RunsWritten.{kept_xref}

-- an answer of which more is known
pub if_ok_weaker : {E : Type 0} {P Q : Bool → Type 0} (r : Result Bool E) → ((b : Bool) → P b → Q b) → IfOk r P → IfOk r Q
if_ok_weaker (Ok b) f p = f b p
if_ok_weaker (Err e) f p = tt

-- Places of a document.

-- the structure there stands at some level
at_some_level : (level : ℕ) (w : Trees) (p : ℕ) → are_at level w ≡ true → p < trees_count w → (l : ℕ) × (is_structure_at l (structure_at w p) ≡ true)
unfolding structure_at
at_some_level level none p h inside = absurd (omega arith)
at_some_level level (tree s b n) p h inside =
    let parts = and_parts (is_structure_at level s) (are_at (level + 1) b && are_at level n) h in
    let rest = and_parts (are_at (level + 1) b) (are_at level n) parts.1 in
    elim (cases_lt 0 p) [
      | inr first ↦ (let e : p ≡ 0 = omega arith in rw (from_first s b n p e) (level, parts.0))
      | inl later ↦ elim (cases_lt (trees_count b) p) [
        | inl past ↦ rw (from_next s b n p past) (at_some_level level n (p - 1 - trees_count b) rest.1 (omega arith))
        | inr within ↦ rw (from_below s b n p later within) (at_some_level (level + 1) b (p - 1) rest.0 (omega arith))
      ]
    ]

pub structure_stands : (d : Trees) (p : ℕ) → is_document d ≡ true → p < trees_count d → (l : ℕ) × (is_structure_at l (structure_at d p) ≡ true)
structure_stands d p h inside = at_some_level 0 d p (at_of_document d h) inside

-- nothing below it has an identifier
bare_within : (w : Trees) (p : ℕ) → Bare w → p < trees_count w → Bare (below_at w p)
unfolding below_at
bare_within none p h inside = absurd (omega arith)
bare_within (tree s b n) p h inside =
    elim (cases_lt 0 p) [
      | inr first ↦ (let e : p ≡ 0 = omega arith in rw (from_first s b n p e) (h.1))
      | inl later ↦ elim (cases_lt (trees_count b) p) [
        | inl past ↦ rw (from_next s b n p past) (bare_within n (p - 1 - trees_count b) h.2 (omega arith))
        | inr within ↦ rw (from_below s b n p later within) (bare_within b (p - 1) h.1 (omega arith))
      ]
    ]

bare_beneath : (w : Trees) (p : ℕ) → BareBelow w → p < trees_count w → Bare (below_at w p)
unfolding below_at
bare_beneath none p h inside = absurd (omega arith)
bare_beneath (tree s b n) p h inside =
    elim (cases_lt 0 p) [
      | inr first ↦ (let e : p ≡ 0 = omega arith in rw (from_first s b n p e) (h.0))
      | inl later ↦ elim (cases_lt (trees_count b) p) [
        | inl past ↦ rw (from_next s b n p past) (bare_beneath n (p - 1 - trees_count b) h.1 (omega arith))
        | inr within ↦ rw (from_below s b n p later within) (bare_within b (p - 1) h.0 (omega arith))
      ]
    ]

pub below_bare : (d : Trees) (p : ℕ) → is_document d ≡ true → p < trees_count d → Bare (below_at d p)
below_bare d p h inside = bare_beneath d p (document_bare d h) inside

-- so a structure stands alone up to the place after it
pub stands_alone : (d : Trees) (place end : ℕ) → is_document d ≡ true → place < trees_count d → end ≡ place_after d place → StandsAlone d place end
stands_alone d place end h inside is = record {
  document = h;
  within = inside;
  run = subst (λ q. IsRunOfTrees d (place + 1) q) (sym is) (run_below d place inside);
  bare = subst (λ t. Bare t) (sym (ap (trees_between d (place + 1)) is ∙ below_run d place inside)) (below_bare d place h inside);
}

-- Structures whose own lines are the same.

same_text : (line other : Bytes) → line_value line ≡ line_value other → line ≡ other
same_text [] [] e = refl
same_text [] (c ∷ cs) e = absurd (cc)
same_text (b ∷ bs) [] e = absurd (cc)
same_text (b ∷ bs) (c ∷ cs) e = cc

no_void : (line : Bytes) → first_value Void ≡ line_value line → ⊥
no_void [] e = cc
no_void (b ∷ bs) e = cc

no_name : (name line : Bytes) → first_value (Pointer name) ≡ line_value line → ⊥
no_name name [] e = cc
no_name name (b ∷ bs) e = cc

same_payload : (p q : Payload) (l m : ℕ) → is_payload_at l p ≡ true → is_payload_at m q ≡ true → first_value p ≡ first_value q → further_lines p ≡ further_lines q → p ≡ q
same_payload (Text []) q l m h k e f = absurd (false≢true h)
same_payload Void (Text []) l m h k e f = absurd (false≢true k)
same_payload (Pointer name) (Text []) l m h k e f = absurd (false≢true k)
same_payload (Text (line ∷ lines)) (Text []) l m h k e f = absurd (false≢true k)
same_payload Void Void l m h k e f = refl
same_payload Void (Pointer name) l m h k e f = absurd (cc)
same_payload Void (Text (line ∷ lines)) l m h k e f = absurd (no_void line e)
same_payload (Pointer name) Void l m h k e f = absurd (cc)
same_payload (Pointer name) (Pointer other) l m h k e f = cc
same_payload (Pointer name) (Text (line ∷ lines)) l m h k e f = absurd (no_name name line e)
same_payload (Text (line ∷ lines)) Void l m h k e f = absurd (no_void line (sym e))
same_payload (Text (line ∷ lines)) (Pointer name) l m h k e f = absurd (no_name name line (sym e))
same_payload (Text (line ∷ lines)) (Text (other ∷ others)) l m h k e f = λ i. Text (same_text line other e i ∷ f i)

-- a line may stand at level 0
at_zero : (l : ℕ) (tag : Bytes) (v : Value) → is_line (line_parts l None tag v) ≡ true → is_line (line_parts 0 None tag v) ≡ true
at_zero l tag v h =
    let parts = and_parts (nat_le l 99 && true && is_tag tag) (is_value v) h in
    let front = and_parts (nat_le l 99 && true) (is_tag tag) parts.0 in
    and_from (is_tag tag) (is_value v) front.1 parts.1

carried : (l : ℕ) (s : Structure) → is_structure_at l s ≡ true → is_payload_at l s.payload ≡ true
carried l s h = (stands l s none none (and_from (is_structure_at l s) true h refl)).carried

pub same_structure : (s t : Structure) (l m : ℕ) → is_structure_at l s ≡ true → is_structure_at m t ≡ true → rest_of_line s ≡ rest_of_line t → further_lines s.payload ≡ further_lines t.payload
    → (s.tag ≡ t.tag) × (s.payload ≡ t.payload)
same_structure s t l m h k e f =
    let v = first_value s.payload in
    let w = first_value t.payload in
    let text : LineText (line_parts 0 None s.tag v) (spelling (line_parts 0 None s.tag v)) = record { is_line = at_zero l s.tag v (lines_with l s None h refl).own; spelled = inl refl } in
    let other : LineText (line_parts 0 None t.tag w) (spelling (line_parts 0 None s.tag v)) = record { is_line = at_zero m t.tag w (lines_with m t None k refl).own; spelled = inl (ap (λ rest. decimal 0 ++ 32 ∷ rest) e) } in
    let one : line_parts 0 None s.tag v ≡ line_parts 0 None t.tag w = one_line (line_parts 0 None s.tag v) (line_parts 0 None t.tag w) (spelling (line_parts 0 None s.tag v)) text other in
    (ap (λ (line : LineParts). line.tag) one, same_payload s.payload t.payload l m (carried l s h) (carried m t k) (ap (λ (line : LineParts). line.value) one) f)

-- so are they if these lines, at one level, have the same bytes
pub same_rest : (level rest other line : Bytes) → line ≡ (level ++ 32 ∷ rest) ++ 10 ∷ [] → line ≡ (level ++ 32 ∷ other) ++ 10 ∷ [] → rest ≡ other
same_rest level rest other line e f =
    let q : 32 ∷ rest ≡ 32 ∷ other = append_cancel_left level (32 ∷ rest) (32 ∷ other) (append_cancel_right (level ++ 32 ∷ rest) (level ++ 32 ∷ other) (10 ∷ []) (sym e ∙ f)) in
    cc

pub alike_values : (new other : Bytes → Bytes) (s t : Structure) → (s.tag ≡ t.tag) × (s.payload ≡ t.payload) → is_pointer s.payload ≡ false → AreAlike new other s t
alike_values new other s t (tag, payload) h = record {
  tag = tag;
  payload = value_kept new s.payload h ∙ payload ∙ sym (value_kept other t.payload (ap is_pointer (sym payload) ∙ h));
}

-- Pointers.

pub pointed : (p : Payload) → is_pointer p ≡ true → (name : Bytes) × (p ≡ Pointer name)
pointed Void h = absurd (false≢true h)
pointed (Pointer name) h = (name, refl)
pointed (Text lines) h = absurd (false≢true h)

-- pointers to records with one new number
pub alike_pointers : (names others : List Bytes) (s t : Structure) (name other : Bytes) (n : ℕ) → s.tag ≡ t.tag → s.payload ≡ Pointer name → t.payload ≡ Pointer other
    → 0 < n → n ≡ number_among 1 names name → n ≡ number_among 1 others other → AreAlike (number_of 1 names) (number_of 1 others) s t
alike_pointers names others s t name other n tag p q some first second = record {
  tag = tag;
  payload = ap (renamed_payload (number_of 1 names)) p
      ∙ ap Pointer (sym (given_number name 1 names (omega (arith, some, first))) ∙ ap numbered (sym first ∙ second) ∙ given_number other 1 others (omega (arith, some, second)))
      ∙ sym (ap (renamed_payload (number_of 1 others)) q);
}

-- Trees side by side.

module _ (new other : Bytes → Bytes) where
  renamed_alike : (s t : Structure) → s.xref ≡ None → t.xref ≡ None → AreAlike new other s t → renamed_structure new s ≡ renamed_structure other t
  renamed_alike s t x y a = λ i. record { xref = (ap (option_map new) x ∙ sym (ap (option_map other) y)) i; tag = a.tag i; payload = a.payload i }

  -- what stands below structures with one tag is the same in the context of either
  deeper_same : (s t : Structure) (b c : Trees) (edition : Edition) (context : Context) → s.tag ≡ t.tag → BecomeSame new other b c
      → sorted edition (context_below context s.tag) (renamed new b) ≡ sorted edition (context_below context t.tag) (renamed other c)
  deeper_same s t b c edition context tag below = below edition (context_below context s.tag) ∙ ap (λ k. sorted edition (context_below context k) (renamed other c)) tag

  -- equal trees become the same where the others do
  pub become_as : (t t' u u' : Trees) → t ≡ t' → u ≡ u' → BecomeSame new other t u → BecomeSame new other t' u'
  become_as t t' u u' e f same = λ edition context.
      ap (λ x. sorted edition context (renamed new x)) (sym e) ∙ same edition context ∙ ap (λ x. sorted edition context (renamed other x)) f

  pub same_none : (t u : Trees) → t ≡ none → u ≡ none → BecomeSame new other t u
  same_none t u e f = become_as none t none u (sym e) (sym f) (λ edition context. refl)

  pub same_more : (s t : Structure) (b c n m : Trees) → s.xref ≡ None → t.xref ≡ None → AreAlike new other s t → BecomeSame new other b c → BecomeSame new other n m
      → BecomeSame new other (tree s b n) (tree t c m)
  same_more s t b c n m x y a below rest = λ edition context i.
      put (brief_structure edition context (renamed_alike s t x y a i)) (deeper_same s t b c edition context a.tag below i) (rest edition context i)

  -- Siblings that are listed.

  abbrev pub ListedSame : Trees → Trees → List RankedSibling → List RankedSibling → Type 0
  ListedSame d e xs ys = (edition : Edition) (context : Context) → renamed new (sibling_trees (λ name. true) edition context d xs) ≡ renamed other (sibling_trees (λ name. true) edition context e ys)

  brief_alike : (s t : Structure) (edition : Edition) (context : Context) → AreAlike new other s t
      → renamed_payload new (brief edition (row context s.tag) s.payload) ≡ renamed_payload other (brief edition (row context t.tag) t.payload)
  brief_alike s t edition context a =
      sym (brief_renamed new edition (row context s.tag) s.payload)
      ∙ (λ i. brief edition (row context (a.tag i)) (a.payload i))
      ∙ brief_renamed other edition (row context t.tag) t.payload

  below_alike : (s t : Structure) (b c : Trees) (edition : Edition) (context : Context) → s.tag ≡ t.tag → BecomeSame new other b c
      → renamed new (sorted edition (context_below context s.tag) b) ≡ renamed other (sorted edition (context_below context t.tag) c)
  below_alike s t b c edition context tag below =
      sym (sorted_renamed edition new (context_below context s.tag) b)
      ∙ deeper_same s t b c edition context tag below
      ∙ sorted_renamed edition other (context_below context t.tag) c

  pub listed_more : (d e : Trees) (x y : RankedSibling) (xs ys : List RankedSibling) → (structure_at d x.place).xref ≡ None → (structure_at e y.place).xref ≡ None
      → AreAlike new other (structure_at d x.place) (structure_at e y.place) → BecomeSame new other (below_at d x.place) (below_at e y.place) → ListedSame d e xs ys
      → ListedSame d e (x ∷ xs) (y ∷ ys)
  listed_more d e x y xs ys none_here none_there a below rest = λ edition context.
      let s = structure_at d x.place in
      let t = structure_at e y.place in
      λ i. tree
      (record {
        xref = (ap (λ z. option_map new (used_xref (λ name. true) z)) none_here ∙ sym (ap (λ z. option_map other (used_xref (λ name. true) z)) none_there)) i;
        tag = a.tag i;
        payload = brief_alike s t edition context a i;
      })
      (below_alike s t (below_at d x.place) (below_at e y.place) edition context a.tag below i)
      (rest edition context i)

  -- what stands below places up to the places after them
  pub below_as : (d e : Trees) (place end at until : ℕ) → place < trees_count d → at < trees_count e → end ≡ place_after d place → until ≡ place_after e at
      → BecomeSame new other (trees_between d (place + 1) end) (trees_between e (at + 1) until) → BecomeSame new other (below_at d place) (below_at e at)
  below_as d e place end at until inside within is is_other =
      become_as (trees_between d (place + 1) end) (below_at d place) (trees_between e (at + 1) until) (below_at e at)
      (ap (trees_between d (place + 1)) is ∙ below_run d place inside) (ap (trees_between e (at + 1)) is_other ∙ below_run e at within)

  -- siblings that are listed in order stand for their runs
  pub same_listed : (d e run other_run : Trees) (xs ys : List RankedSibling)
      → ((edition : Edition) (context : Context) → sibling_trees (λ name. true) edition context d xs ≡ sorted edition context run)
      → ((edition : Edition) (context : Context) → sibling_trees (λ name. true) edition context e ys ≡ sorted edition context other_run)
      → ListedSame d e xs ys → BecomeSame new other run other_run
  same_listed d e run other_run xs ys is is_other same = λ edition context.
      sorted_renamed edition new context run
      ∙ ap (renamed new) (sym (is edition context))
      ∙ same edition context
      ∙ ap (renamed other) (is_other edition context)
      ∙ sym (sorted_renamed edition other context other_run)

-- none of them has an identifier
pub first_unnamed : (d : Trees) (x : RankedSibling) (xs : List RankedSibling) → Bare (sibling_trees (λ name. true) First File d (x ∷ xs)) → (structure_at d x.place).xref ≡ None
first_unnamed d x xs bare = sym (kept_xref (structure_at d x.place).xref) ∙ bare.0

-- Records.

module _ (d e : Trees) (names others : List Bytes) (named : AreNamed d names) (others_named : AreNamed e others) where
  -- identifiers with one number become the same
  pub same_identifier : (x y : Option Bytes) (n : ℕ) → n ≡ number_at names x → n ≡ number_at others y
      → renamed_xref (number_of 1 names) (used_xref (is_named d) x) ≡ renamed_xref (number_of 1 others) (used_xref (is_named e) y)
  same_identifier x y zero h k = no_number d names named x (sym h) ∙ sym (no_number e others others_named y (sym k))
  same_identifier x y (suc n) h k = own_identifier d names named x (suc n) h (omega arith) ∙ sym (own_identifier e others others_named y (suc n) k (omega arith))

  pub same_record : (edition : Edition) (x y : RankedSibling) (n : ℕ) → n ≡ number_at names (structure_at d x.place).xref → n ≡ number_at others (structure_at e y.place).xref
      → AreAlike (number_of 1 names) (number_of 1 others) (structure_at d x.place) (structure_at e y.place)
      → BecomeSame (number_of 1 names) (number_of 1 others) (below_at d x.place) (below_at e y.place)
      → numbered_siblings (is_named d) edition names d (x ∷ []) ≡ numbered_siblings (is_named e) edition others e (y ∷ [])
  same_record edition x y n h k a below =
      let s = structure_at d x.place in
      let t = structure_at e y.place in
      λ i. tree
      (record {
        xref = same_identifier s.xref t.xref n h k i;
        tag = a.tag i;
        payload = brief_alike (number_of 1 names) (number_of 1 others) s t edition File a i;
      })
      (below_alike (number_of 1 names) (number_of 1 others) s t (below_at d x.place) (below_at e y.place) edition File a.tag below i)
      none
