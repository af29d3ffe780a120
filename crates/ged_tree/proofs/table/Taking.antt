-- One more line in a table, and its end.
use Rattle.std.proofs.Common.{◌≡◌, ℕ, suc, ◌+◌, ◌<◌, ◌^◌, Bool, true, false, ◌&&◌, ◌==◌, not, List, [], ◌∷◌, ◌++◌, length, map, None, refl, sym, subst, ◌∙◌, ap, arith, inl, inr, append-nil, length-append}
use Rattle.std.specs.Prelude.{nat_lt}
use Rattle.std.specs.List.{list_all, list_any}
use Rattle.std.proofs.lemmas.Bool.{both_ways, cases_Bool, ltb-false, or_parts, and_parts, and_from}
use Rattle.std.proofs.lemmas.Bool.Decides.{nat_tests}
use Rattle.std.proofs.lemmas.List.{length-map, append_cancel_right}
use Rattle.std.proofs.lemmas.List.Elements.{filter-append}
use Rattle.ged_line.specs.Lines.{LineParts, is_line}
use Rattle.ged_tree.specs.Trees.{Trees}
use Rattle.ged_tree.specs.DocumentLines.{lines_of}
use Rattle.ged_tree.specs.Documents.{HasLines}
use Rattle.ged_tree.specs.inner.Trailers.{trailer_line}
use Rattle.ged_tree.specs.TreeFaults.{is_cont, is_trailer, is_empty, has_trailer, fault_after, Pass, more, FirstTreeFault, no_lines, past_last}
use Rattle.ged_tree.specs.Judging.{StandsFor}
use Rattle.ged_tree.specs.Rows.{AreSizes, IsFlat, kept_levels}
use Rattle.ged_tree.specs.inner.Growing.{HasSizes, RiseByOne}
use Rattle.ged_tree.specs.inner.Tables.{OwnLine, own_line, own_lines, begins_cont, go_on, with_line, further_places, further_texts, but_trailer, table_shown, table_further, IsKept, HoldsLines, IsPut}
use Rattle.ged_tree.specs.declared.table.closing.Sizes.{Sizes}
use Rattle.ged_tree.specs.declared.table.builder.TableBuilder.{TableBuilder}
use Rattle.ged_tree.specs.declared.fault.TreeFault.TheVariants.{NoHeader, NoTrailer}
use Rattle.ged_tree.proofs.theory.OneDocument.{made, free_after, ended}
use Rattle.ged_tree.proofs.table.Assembly.{Lists, lists, rise}
use Rattle.ged_tree.proofs.table.Continuations.{further_in_order}
use Rattle.ged_tree.proofs.table.PackedStructures.{length-shown, levels_shown}

-- no line follows TRLR without a fault
ongoing : (lines : List LineParts) (line : LineParts) → fault_after lines line ≡ None → has_trailer lines ≡ false
ongoing lines line h =
    let free = free_after lines line h in
    let full = or_parts (is_trailer line && not (is_empty line.value)) (has_trailer lines && nat_lt 0 line.level) free.full in
    only (has_trailer lines) (nat_lt 0 line.level) (line.level == 0) full.1 free.past (level_is line)
  where
    level_is : (line : LineParts) → nat_lt 0 line.level ≡ false → (line.level == 0) ≡ true
    level_is line h = (let small = ltb-false 0 line.level h in grind (arith, nat_tests))

    only : (t a b : Bool) → (t && a) ≡ false → (t && b) ≡ false → (a ≡ false → b ≡ true) → t ≡ false
    only true a b h k f = absurd (both_ways b k (f h))
    only false a b h k f = refl

-- where TRLR has not come, every line is kept
kept : (lines : List LineParts) → has_trailer lines ≡ false → but_trailer lines ≡ lines
kept [] h = refl
kept (line ∷ lines) h =
    let parts = or_parts (is_trailer line) (list_any is_trailer lines) h in
    rw (parts.0, kept lines parts.1) refl

-- a CONT at the end has the last own line go on
own_lines_cont : (xs : List LineParts) (y : LineParts) → is_cont y ≡ true → own_lines (xs ++ y ∷ []) ≡ go_on (own_lines xs)
own_lines_cont [] y c = rw c refl
own_lines_cont (x ∷ xs) y c = elim (cases_Bool (is_cont x)) [
  | inl e ↦ rw (e, own_lines_cont xs y c) refl
  | inr e ↦ rw (e, own_lines_cont xs y c) (first xs)
]
  where
    -- where no own line follows, a CONT does
    none_left : (ls : List LineParts) → own_lines ls ≡ [] → begins_cont (ls ++ y ∷ []) ≡ true
    none_left [] h = c
    none_left (l ∷ ls) h = elim (cases_Bool (is_cont l)) [
      | inl e ↦ e
      | inr e ↦ absurd (let z = rw e at h in cc)
    ]

    same_begin : (ls : List LineParts) (r : OwnLine) (rs : List OwnLine) → own_lines ls ≡ r ∷ rs → begins_cont (ls ++ y ∷ []) ≡ begins_cont ls
    same_begin [] r rs h = absurd cc
    same_begin (l ∷ ls) r rs h = refl

    joined : (ls : List LineParts) (own : List OwnLine) → own_lines ls ≡ own
        → record { line = x; goes_on = begins_cont (ls ++ y ∷ []) } ∷ go_on own ≡ go_on (record { line = x; goes_on = begins_cont ls } ∷ own)
    joined ls [] h = rw (none_left ls h) refl
    joined ls (r ∷ rs) h = rw (same_begin ls r rs h) refl

    first : (ls : List LineParts) → record { line = x; goes_on = begins_cont (ls ++ y ∷ []) } ∷ go_on (own_lines ls) ≡ go_on (record { line = x; goes_on = begins_cont ls } ∷ own_lines ls)
    first ls = joined ls (own_lines ls) refl

own_lines_own : (xs : List LineParts) (y : LineParts) → is_cont y ≡ false → own_lines (xs ++ y ∷ []) ≡ own_lines xs ++ record { line = y; goes_on = false } ∷ []
own_lines_own [] y c = rw c refl
own_lines_own (x ∷ xs) y c = elim (cases_Bool (is_cont x)) [
  | inl e ↦ rw (e, own_lines_own xs y c) refl
  | inr e ↦ rw (e, own_lines_own xs y c, begin_same xs) refl
]
  where
    begin_same : (ls : List LineParts) → begins_cont (ls ++ y ∷ []) ≡ begins_cont ls
    begin_same [] = c
    begin_same (l ∷ ls) = refl

own_lines_more : (xs : List LineParts) (y : LineParts) → own_lines (xs ++ but_trailer (y ∷ [])) ≡ with_line (own_lines xs) (but_trailer (y ∷ []))
own_lines_more xs y = elim (cases_Bool (is_trailer y)) [
  | inl t ↦ rw (t, append-nil xs) refl
  | inr t ↦ elim (cases_Bool (is_cont y)) [
    | inl c ↦ rw (t, c) (own_lines_cont xs y c)
    | inr c ↦ rw (t, c) (own_lines_own xs y c)
  ]
]

further_places-append : (p : ℕ) (xs ys : List LineParts) → further_places p (xs ++ ys) ≡ further_places p xs ++ further_places (p + length (own_lines xs)) ys
further_places-append p [] ys = (let z : p ≡ p + 0 = omega arith in ap (λ (j : ℕ). further_places j ys) z)
further_places-append p (x ∷ xs) ys = elim (cases_Bool (is_cont x)) [
  | inl e ↦ rw (e, further_places-append p xs ys) refl
  | inr e ↦ (
      let z : (p + 1) + length (own_lines xs) ≡ p + suc (length (own_lines xs)) = omega arith in
      rw (e, further_places-append (p + 1) xs ys, z) refl)
]

further_texts-append : (xs ys : List LineParts) → further_texts (xs ++ ys) ≡ further_texts xs ++ further_texts ys
further_texts-append [] ys = refl
further_texts-append (x ∷ xs) ys = elim (cases_Bool (is_cont x)) [
  | inl e ↦ rw (e, further_texts-append xs ys) refl
  | inr e ↦ rw (e, further_texts-append xs ys) refl
]

all_more : (lines : List LineParts) (line : LineParts) → list_all is_line lines ≡ true → is_line line ≡ true → list_all is_line (lines ++ line ∷ []) ≡ true
all_more [] line h e = rw e refl
all_more (x ∷ xs) line h e = let p = and_parts (is_line x) (list_all is_line xs) h in and_from (is_line x) _ p.0 (all_more xs line p.1 e)

-- a table without structures
pub none_kept : (builder : TableBuilder) → builder.structures.items ≡ [] → builder.apart.items ≡ [] → builder.further.slices.items ≡ [] → HasSizes [] builder.sizes
    → IsKept builder
none_kept builder s a f sized = record {
  spelled = rw s tt;
  slices = rw s tt;
  apart_within = rw a tt;
  apart_in_order = rw a (λ i j d le lt. absurd (omega (arith, lt)));
  further_slices = rw f tt;
  sized = rw s sized;
}

-- what is kept does not change with the judge and the count
same_kept : (old mid : TableBuilder) → mid.file ≡ old.file → mid.apart ≡ old.apart → mid.structures.items ≡ old.structures.items
    → ((levels : List ℕ) → HasSizes levels old.sizes → HasSizes levels mid.sizes) → mid.further ≡ old.further → IsKept old → IsKept mid
same_kept old mid f a s sizes t k = record {
  spelled = rw (f, a, s) k.spelled;
  slices = rw (f, s) k.slices;
  apart_within = rw (a, s) k.apart_within;
  apart_in_order = rw a k.apart_in_order;
  further_slices = rw (f, t) k.further_slices;
  sized = rw s (sizes (kept_levels old.structures.items) k.sized);
}

-- room for more structures
pub roomier : (old new : TableBuilder) (lines : List LineParts) → new.judge ≡ old.judge → new.count ≡ old.count → new.file ≡ old.file → new.apart ≡ old.apart
    → new.further ≡ old.further → new.structures.items ≡ old.structures.items → ((levels : List ℕ) → HasSizes levels old.sizes → HasSizes levels new.sizes)
    → HoldsLines old lines → HoldsLines new lines
roomier old new lines judge count file apart further same sizes h = record {
  judged = rw judge h.judged;
  pass = h.pass;
  are_lines = h.are_lines;
  counted = rw count h.counted;
  structures = rw (file, apart, same) h.structures;
  places = rw (file, further) h.places;
  further = rw (file, further) h.further;
  kept = same_kept old new file apart same sizes further h.kept;
}

-- a line more
pub taken : (old mid new : TableBuilder) (lines : List LineParts) (line : LineParts) → HoldsLines old lines → fault_after lines line ≡ None → is_line line ≡ true
    → StandsFor mid.judge (lines ++ line ∷ []) → mid.count ≡ old.count + 1 → mid.file ≡ old.file → mid.apart ≡ old.apart → mid.structures ≡ old.structures → mid.sizes ≡ old.sizes
    → mid.further ≡ old.further → IsPut line mid new → HoldsLines new (lines ++ line ∷ [])
taken old mid new lines line h none is stands counted file apart same sizes also put =
    let body = but_trailer lines in
    let last = but_trailer (line ∷ []) in
    let split : but_trailer (lines ++ line ∷ []) ≡ body ++ last = filter-append (λ (l : LineParts). not (is_trailer l)) lines (line ∷ []) in
    let size = length-shown old.file.now old.apart.items 0 old.structures.items in
    let count : length old.structures.items ≡ 0 + length (own_lines body) = (let q = ap (λ (rs : List OwnLine). length rs) h.structures in omega (arith, length-map (table_shown old) own_line, q, size)) in
    let kept : IsKept mid = same_kept old mid file apart (rw same refl) (λ levels sized. rw sizes sized) also h.kept in
    record {
      judged = rw put.judge stands;
      pass = more lines line h.pass none;
      are_lines = all_more lines line h.are_lines is;
      counted = omega (arith, put.count, counted, h.counted, length-append lines (line ∷ []));
      structures = put.structures kept ∙ rw (file, apart, same, h.structures, split) (sym (own_lines_more body line));
      places = put.places ∙ rw (file, also, same, h.places, count, split) (sym (further_places-append 0 body last));
      further = put.further ∙ rw (file, also, h.further, split) (sym (further_texts-append body last));
      kept = put.kept kept;
    }

-- what stands past the last line
pub past : (lines : List LineParts) (count : ℕ) → count ≡ length lines → Pass lines → has_trailer lines ≡ false → 0 < count → FirstTreeFault lines (count + 1) NoTrailer
past lines count e p t some = subst (λ (n : ℕ). FirstTreeFault lines (n + 1) NoTrailer) (sym e) (past_last lines p (λ z. let q = ap (λ (ls : List LineParts). length ls) z in absurd (omega (arith, e, some, q))) t)

pub nothing : (lines : List LineParts) (count : ℕ) → count ≡ length lines → count ≡ 0 → FirstTreeFault lines (count + 1) NoHeader
nothing [] count e z = rw e no_lines
nothing (x ∷ xs) count e z = absurd (omega (arith, e, z))

-- the closed table of lines without a fault that end
pub record Finished (lines : List LineParts) (builder : TableBuilder) (sizes : Sizes) : Type 0 where
  pub shown : Trees
  pub has : HasLines shown lines
  pub lists : Lists (table_shown builder) (table_further builder) shown
  pub flat : IsFlat builder.file.now builder.apart.items builder.structures.items sizes builder.further

pub finished : (builder : TableBuilder) (lines : List LineParts) (sizes : Sizes) → HoldsLines builder lines → has_trailer lines ≡ true → length lines < 2 ^ 63
    → (RiseByOne 0 (kept_levels builder.structures.items) → AreSizes builder.structures.items sizes 0) → Finished lines builder sizes
finished builder lines sizes h t few sized =
    let m = made lines h.pass t h.are_lines few in
    let told : lines ≡ lines_of 0 m.0 ++ trailer_line ∷ [] = m.1.told in
    let end = ended lines h.pass t in
    let same : end.before ≡ lines_of 0 m.0 = append_cancel_right end.before (lines_of 0 m.0) (trailer_line ∷ []) (sym end.cut ∙ told) in
    let ongoing_body : has_trailer (lines_of 0 m.0) ≡ false = ap has_trailer (sym same) ∙ end.ongoing in
    let body : but_trailer lines ≡ lines_of 0 m.0 = ap but_trailer told ∙ filter-append (λ (l : LineParts). not (is_trailer l)) (lines_of 0 m.0) (trailer_line ∷ []) ∙ append-nil (but_trailer (lines_of 0 m.0)) ∙ kept (lines_of 0 m.0) ongoing_body in
    let rows : map own_line (table_shown builder) ≡ own_lines (lines_of 0 m.0) = h.structures ∙ ap own_lines body in
    let listed = lists m.0 (table_shown builder) (table_further builder) m.1.allowed rows (h.places ∙ ap (further_places 0) body) (h.further ∙ ap further_texts body) h.kept.spelled in
    let climb = rw (levels_shown builder.file.now builder.apart.items 0 builder.structures.items) at (rise (table_shown builder) (table_further builder) listed.flat) in
    record {
      shown = m.0;
      has = m.1;
      lists = listed;
      flat = record { lists = listed.flat; sized = sized climb; slices = h.kept.slices; apart_in_order = h.kept.apart_in_order; further_slices = h.kept.further_slices; further_in_order = further_in_order builder.file.now builder.further (lines_of 0 m.0) (h.places ∙ ap (further_places 0) body) };
    }
