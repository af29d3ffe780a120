-- What kept structures show.
use Rattle.std.proofs.Common.{◌≡◌, ℕ, suc, zero, ◌+◌, ◌%◌, ◌<◌, ◌≤◌, ◌==◌, true, false, List, [], ◌∷◌, ◌++◌, length, map, take, drop, get_or, slice_set, refl, sym, subst, ◌∙◌, ap, arith}
use Rattle.std.specs.List.{AllByRecursion}
use Rattle.std.specs.Prelude.{nat_lt}
use Rattle.std.proofs.Common.{mod-eq_of_lt}
use Rattle.std.proofs.Math.Seq.{map-set_same}
use Rattle.std.proofs.lemmas.Bool.{le-ltb}
use Rattle.std.proofs.lemmas.Bool.Decides.{nat_tests}
use Rattle.std.proofs.lemmas.List.{drop-map}
use Rattle.ged_line.specs.Bytes.{Bytes}
use Rattle.ged_line.specs.Lines.{LineParts, is_line}
use Rattle.ged_tree.proofs.theory.LineParts.{line_is}
use Rattle.ged_tree.specs.Rows.{Shown, shown_with, shown_from, text_at, text_apart, line_shown, IsSpelled, HasSlice, levels_of, kept_level, kept_levels, kept_further}
use Rattle.ged_tree.specs.inner.Tables.{OwnLine, own_line, go_on, TellsFurther}
use Rattle.ged_tree.specs.declared.table.packed.KeptStructure.{KeptStructure}
use Rattle.ged_tree.specs.declared.table.packed.TextApart.{TextApart}
use Rattle.ged_tree.proofs.table.Apart.{apart_other}

-- the mark of a line's level
module _ (mark : ℕ) (line : LineParts) (e : mark ≡ line.level) (is : is_line line ≡ true) where
  low : mark ≤ 99
  low = (let level = (line_is line is).level in omega (arith, e, level))

  pub level_kept : mark % 128 ≡ line.level
  level_kept = mod-eq_of_lt (omega (arith, low)) ∙ e

  pub level_alone : nat_lt 127 mark ≡ false
  level_alone = le-ltb 127 mark (omega (arith, low))

-- a text that is kept apart, and a slice of the file
pub text_of_apart : (file : Bytes) (apart : List TextApart) (place : ℕ) (s : KeptStructure) → s.length ≡ 255 → text_at file apart place s ≡ text_apart apart place
text_of_apart file apart place s h = (let e : (s.length == 255) ≡ true = grind (arith, nat_tests) in rw e refl)

pub text_of_slice : (file : Bytes) (apart : List TextApart) (place : ℕ) (s : KeptStructure) → s.length < 255 → text_at file apart place s ≡ take s.length (drop s.start file)
text_of_slice file apart place s h = (let e : (s.length == 255) ≡ false = grind (arith, nat_tests) in rw e refl)

module _ (file : Bytes) (apart : List TextApart) where
  pub length-shown : (place : ℕ) (items : List KeptStructure) → length (shown_from file apart place items) ≡ length items
  length-shown place [] = refl
  length-shown place (s ∷ rest) = ap suc (length-shown (place + 1) rest)

  pub levels_shown : (place : ℕ) (items : List KeptStructure) → levels_of (shown_from file apart place items) ≡ kept_levels items
  levels_shown place [] = refl
  levels_shown place (s ∷ rest) = ap (λ (ls : List ℕ). kept_level s ∷ ls) (levels_shown (place + 1) rest)

  pub levels_behind : (k place : ℕ) (items : List KeptStructure) → levels_of (drop k (shown_from file apart place items)) ≡ kept_levels (drop k items)
  levels_behind k place items =
      sym (drop-map (λ (s : Shown). s.level) k (shown_from file apart place items))
      ∙ ap (λ (ls : List ℕ). drop k ls) (levels_shown place items)
      ∙ drop-map kept_level k items

  pub shown_get : (place : ℕ) (items : List KeptStructure) (i : ℕ) (s : KeptStructure) (d : Shown) → i < length items → s ≡ get_or items i s
      → get_or (shown_from file apart place items) i d ≡ shown_with (text_at file apart (place + i) s) s
  shown_get place [] i s d h e = absurd (omega (arith, h))
  shown_get place (x ∷ rest) zero s d h e = (let z : place + 0 ≡ place = omega arith in rw (z, e) refl)
  shown_get place (x ∷ rest) (suc i) s d h e =
      let z : (place + 1) + i ≡ place + suc i = omega arith in
      rw (shown_get (place + 1) rest i s d (omega (arith, h)) e, z) refl

  pub shown_here : (items : List KeptStructure) (i : ℕ) (s : KeptStructure) (d : Shown) → i < length items → s ≡ get_or items i s
      → get_or (shown_from file apart 0 items) i d ≡ shown_with (text_at file apart i s) s
  shown_here items i s d h e = shown_get 0 items i s d h e ∙ (let z : 0 + i ≡ i = omega arith in ap (λ (p : ℕ). shown_with (text_at file apart p s) s) z)

  pub shown-append : (place : ℕ) (items : List KeptStructure) (s : KeptStructure)
      → shown_from file apart place (items ++ s ∷ []) ≡ shown_from file apart place items ++ shown_with (text_at file apart (place + length items) s) s ∷ []
  shown-append place [] s = (let z : place ≡ place + 0 = omega arith in ap (λ (p : ℕ). shown_with (text_at file apart p s) s ∷ []) z)
  shown-append place (x ∷ rest) s =
      let z : (place + 1) + length rest ≡ place + suc (length rest) = omega arith in
      rw (shown-append (place + 1) rest s, z) refl

  pub shown_set : (place : ℕ) (items : List KeptStructure) (i : ℕ) (y : KeptStructure)
      → shown_from file apart place (slice_set items i y) ≡ slice_set (shown_from file apart place items) i (shown_with (text_at file apart (place + i) y) y)
  shown_set place [] i y = refl
  shown_set place (x ∷ rest) zero y = (let z : place ≡ place + 0 = omega arith in ap (λ (p : ℕ). shown_with (text_at file apart p y) y ∷ shown_from file apart (place + 1) rest) z)
  shown_set place (x ∷ rest) (suc i) y =
      let z : (place + 1) + i ≡ place + suc i = omega arith in
      rw (shown_set (place + 1) rest i y, z) refl

  -- a text put apart for a later place is shown for none of the structures before it
  pub shown_apart : (place : ℕ) (items : List KeptStructure) (t : TextApart) → place + length items ≤ t.place → shown_from file (apart ++ t ∷ []) place items ≡ shown_from file apart place items
  shown_apart place [] t h = refl
  shown_apart place (s ∷ rest) t h =
      let other : ¬ (t.place ≡ place) = λ e. omega (arith, e, h) in
      rw (apart_other place apart t other, shown_apart (place + 1) rest t (omega (arith, h))) refl

pub slice_at : (file : Bytes) (items : List KeptStructure) (i : ℕ) (s : KeptStructure) → i < length items → s ≡ get_or items i s → AllByRecursion (HasSlice file) items → HasSlice file s
slice_at file [] i s h e a = absurd (omega arith)
slice_at file (x ∷ xs) zero s h e a = subst (HasSlice file) (sym e) a.0
slice_at file (x ∷ xs) (suc i) s h e a = slice_at file xs i s (omega arith) e a.1

slices_set : (file : Bytes) (items : List KeptStructure) (i : ℕ) (y : KeptStructure) → HasSlice file y → AllByRecursion (HasSlice file) items → AllByRecursion (HasSlice file) (slice_set items i y)
slices_set file [] i y e a = tt
slices_set file (x ∷ xs) zero y e a = (e, a.1)
slices_set file (x ∷ xs) (suc i) y e a = (a.0, slices_set file xs i y e a.1)

pub slices_push : (file : Bytes) (items : List KeptStructure) (s : KeptStructure) → AllByRecursion (HasSlice file) items → HasSlice file s → AllByRecursion (HasSlice file) (items ++ s ∷ [])
slices_push file [] s a h = (h, tt)
slices_push file (x ∷ xs) s a h = (a.0, slices_push file xs s a.1 h)

pub spelled_push : (xs : List Shown) (s : Shown) → AllByRecursion IsSpelled xs → IsSpelled s → AllByRecursion IsSpelled (xs ++ s ∷ [])
spelled_push [] s a h = (h, tt)
spelled_push (x ∷ xs) s a h = (a.0, spelled_push xs s a.1 h)

spelled_at : (xs : List Shown) (i : ℕ) (s : Shown) → i < length xs → get_or xs i s ≡ s → AllByRecursion IsSpelled xs → IsSpelled s
spelled_at [] i s h e a = absurd (omega arith)
spelled_at (x ∷ xs) zero s h e a = subst IsSpelled e a.0
spelled_at (x ∷ xs) (suc i) s h e a = spelled_at xs i s (omega arith) e a.1

spelled_set : (xs : List Shown) (i : ℕ) (y : Shown) → IsSpelled y → AllByRecursion IsSpelled xs → AllByRecursion IsSpelled (slice_set xs i y)
spelled_set [] i y e a = tt
spelled_set (x ∷ xs) zero y e a = (e, a.1)
spelled_set (x ∷ xs) (suc i) y e a = (a.0, spelled_set xs i y e a.1)

-- the last structure goes on
go_on_set : (items : List Shown) (i : ℕ) (s y : Shown) → get_or items i s ≡ s → i + 1 ≡ length items → own_line y ≡ record { line = line_shown s; goes_on = true }
    → map own_line (slice_set items i y) ≡ go_on (map own_line items)
go_on_set [] i s y is l e = absurd (omega arith)
go_on_set (x ∷ []) zero s y is l e = ap (λ (r : OwnLine). r ∷ []) (e ∙ ap (λ (z : Shown). record { line = line_shown z; goes_on = true }) (sym is))
go_on_set (x ∷ []) (suc i) s y is l e = absurd (omega arith)
go_on_set (x ∷ z ∷ xs) zero s y is l e = absurd (omega arith)
go_on_set (x ∷ z ∷ xs) (suc i) s y is l e = last (slice_set (z ∷ xs) i y) (go_on_set (z ∷ xs) i s y is (omega arith) e)
  where
    last : (rest : List Shown) → map own_line rest ≡ go_on (map own_line (z ∷ xs)) → own_line x ∷ map own_line rest ≡ go_on (own_line x ∷ map own_line (z ∷ xs))
    last rest h = ap (λ (rs : List OwnLine). own_line x ∷ rs) h

-- the mark tells the level as before, and that the payload goes on
abbrev remarked : KeptStructure → ℕ → KeptStructure
remarked s mark = record { start = s.start; length = s.length; mark = mark; tag_start = s.tag_start; tag_mark = s.tag_mark }

module _ (items : List KeptStructure) (i : ℕ) (s : KeptStructure) (mark : ℕ) (is : s ≡ get_or items i s) (last : i + 1 ≡ length items)
    (level : mark % 128 ≡ s.mark % 128) (further : kept_further (remarked s mark) ≡ true) where
  module _ (file : Bytes) (apart : List TextApart) where
    abbrev old_shown : Shown
    old_shown = shown_with (text_at file apart (0 + i) s) s

    abbrev new_shown : Shown
    new_shown = shown_with (text_at file apart (0 + i) s) (remarked s mark)

    stands : get_or (shown_from file apart 0 items) i old_shown ≡ old_shown
    stands = shown_get file apart 0 items i s old_shown (omega (arith, last)) is

    line_again : own_line new_shown ≡ record { line = line_shown old_shown; goes_on = true }
    line_again = rw (level, further) refl

    spelled_again : IsSpelled old_shown → IsSpelled new_shown
    spelled_again h = rw level h

    told : map own_line (shown_from file apart 0 (slice_set items i (remarked s mark))) ≡ go_on (map own_line (shown_from file apart 0 items))
    told = ap (λ (xs : List Shown). map own_line xs) (shown_set file apart 0 items i (remarked s mark))
        ∙ go_on_set (shown_from file apart 0 items) i old_shown new_shown stands (omega (arith, last, length-shown file apart 0 items)) line_again

    spelled_told : AllByRecursion IsSpelled (shown_from file apart 0 items) → AllByRecursion IsSpelled (shown_from file apart 0 (slice_set items i (remarked s mark)))
    spelled_told a = rw (shown_set file apart 0 items i (remarked s mark))
        (spelled_set (shown_from file apart 0 items) i new_shown (spelled_again (spelled_at (shown_from file apart 0 items) i old_shown (omega (arith, last, length-shown file apart 0 items)) stands a)) a)

  pub tells_further : length (slice_set items i (remarked s mark)) ≡ length items → TellsFurther items (slice_set items i (remarked s mark))
  tells_further size = record {
    count = size;
    structures = told;
    spelled = spelled_told;
    slices = λ file a. slices_set file items i (remarked s mark) (slice_at file items i s (omega (arith, last)) is a) a;
    levels = map-set_same kept_level items i (remarked s mark) s (level ∙ ap kept_level is);
  }
