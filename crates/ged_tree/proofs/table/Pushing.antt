-- One more structure in a table.
use Rattle.std.proofs.Common.{◌≡◌, ℕ, ◌+◌, ◌<◌, Bool, true, false, ◌&&◌, ◌==◌, eqb→eq, T, codes, List, [], ◌∷◌, ◌++◌, length, map, refl, sym, subst, ◌∙◌, ap, arith, ◌-◌, length-append}
use Rattle.std.specs.List.{AllByRecursion}
use Rattle.std.specs.Str.{bytes_eq}
use Rattle.std.proofs.lemmas.List.{map-append}
use Rattle.std.proofs.lemmas.List.Sorted.{IsNonDecreasingBy-push}
use Rattle.ged_line.specs.Bytes.{Bytes}
use Rattle.ged_line.specs.Lines.{LineParts}
use Rattle.ged_tree.specs.Rows.{Shown, shown_with, shown_from, text_at, IsSpelled, HasSlice, kept_level, kept_levels}
use Rattle.ged_tree.specs.Rows.{Further, texts_of, places_of}
use Rattle.ged_tree.specs.TreeFaults.{is_cont, is_trailer}
use Rattle.ged_tree.specs.inner.Growing.{HasSizes}
use Rattle.ged_tree.specs.inner.Tables.{OwnLine, own_line, line_text, table_shown, IsKept, IsSliceAt, Shows, HasStructure, IsFurtherPut, IsPut, TellsFurther, table_further}
use Rattle.ged_tree.specs.declared.table.packed.KeptStructure.{KeptStructure}
use Rattle.ged_tree.specs.declared.table.packed.TextApart.{TextApart}
use Rattle.ged_tree.specs.declared.table.builder.TableBuilder.{TableBuilder}
use Rattle.ged_tree.proofs.table.Apart.{apart_here, low_at, low_later, low_push}
use Rattle.ged_tree.proofs.table.PackedStructures.{text_of_apart, text_of_slice, shown-append, shown_apart, slices_push, spelled_push}

module _ (old new : TableBuilder) (line : LineParts) (text : Bytes) (s : KeptStructure) (shows : Shows line text s)
    (judge : new.judge ≡ old.judge) (count : new.count ≡ old.count) (file : new.file ≡ old.file) (further : new.further ≡ old.further)
    (items : new.structures.items ≡ old.structures.items ++ s ∷ [])
    (sizes : HasSizes (kept_levels old.structures.items) old.sizes → HasSizes (kept_levels old.structures.items ++ kept_level s ∷ []) new.sizes) where
  size : length new.structures.items ≡ length old.structures.items + 1
  size = ap (λ (xs : List KeptStructure). length xs) items ∙ length-append old.structures.items (s ∷ [])

  -- the structure's text, where the texts of the others stay
  module _ (same : shown_from new.file.now new.apart.items 0 old.structures.items ≡ table_shown old)
      (text_is : text_at new.file.now new.apart.items (0 + length old.structures.items) s ≡ text) where
    shown_more : table_shown new ≡ table_shown old ++ shown_with text s ∷ []
    shown_more =
        ap (λ (xs : List KeptStructure). shown_from new.file.now new.apart.items 0 xs) items
        ∙ shown-append new.file.now new.apart.items 0 old.structures.items s
        ∙ ap (λ (xs : List Shown). xs ++ shown_with (text_at new.file.now new.apart.items (0 + length old.structures.items) s) s ∷ []) same
        ∙ ap (λ (bs : Bytes). table_shown old ++ shown_with bs s ∷ []) text_is

    own_is : own_line (shown_with text s) ≡ record { line = line; goes_on = false }
    own_is = rw (shows.line_is, shows.alone) refl

    pub rows_more : map own_line (table_shown new) ≡ map own_line (table_shown old) ++ record { line = line; goes_on = false } ∷ []
    rows_more =
        ap (λ (xs : List Shown). map own_line xs) shown_more
        ∙ map-append own_line (table_shown old) (shown_with text s ∷ [])
        ∙ ap (λ (r : OwnLine). map own_line (table_shown old) ++ r ∷ []) own_is

    pub spelled_more : AllByRecursion IsSpelled (table_shown old) → AllByRecursion IsSpelled (table_shown new)
    spelled_more a = subst (λ (xs : List Shown). AllByRecursion IsSpelled xs) (sym shown_more) (spelled_push (table_shown old) (shown_with text s) a shows.spelled)

  slices_more : HasSlice new.file.now s → AllByRecursion (HasSlice old.file.now) old.structures.items → AllByRecursion (HasSlice new.file.now) new.structures.items
  slices_more h a = rw items (slices_push new.file.now old.structures.items s (rw file a) h)

  sized_more : HasSizes (kept_levels old.structures.items) old.sizes → HasSizes (kept_levels new.structures.items) new.sizes
  sized_more h = rw (items, map-append kept_level old.structures.items (s ∷ [])) (sizes h)

  -- a slice of the file
  module _ (apart : new.apart ≡ old.apart) (slice : IsSliceAt old.file.now s.start text) (long : s.length ≡ length text) (short : s.length < 255) where
    slice_same : shown_from new.file.now new.apart.items 0 old.structures.items ≡ table_shown old
    slice_same = rw (file, apart) refl

    slice_text : text_at new.file.now new.apart.items (0 + length old.structures.items) s ≡ text
    slice_text = text_of_slice new.file.now new.apart.items (0 + length old.structures.items) s short ∙ rw (file, long) slice.text_is

    slice_here : HasSlice new.file.now s
    slice_here few = rw (file, long) (slice.begins, slice.ends)

    pub put_slice : HasStructure line old new
    put_slice = record {
      judge = judge;
      count = count;
      file = file;
      further = further;
      structures = λ k. rows_more slice_same slice_text;
      kept = λ k. record {
        spelled = spelled_more slice_same slice_text k.spelled;
        slices = slices_more slice_here k.slices;
        apart_within = rw apart (low_later (length old.structures.items) (length new.structures.items) old.apart.items (omega (arith, size)) k.apart_within);
        apart_in_order = rw apart k.apart_in_order;
        further_slices = rw (file, further) k.further_slices;
        sized = sized_more k.sized;
      };
    }

  -- a text apart
  module _ (t : TextApart) (apart : new.apart.items ≡ old.apart.items ++ t ∷ []) (place : t.place ≡ length old.structures.items) (own : t.text.now ≡ text) (long : s.length ≡ 255) where
    apart_same : shown_from new.file.now new.apart.items 0 old.structures.items ≡ table_shown old
    apart_same = rw (file, apart) (shown_apart old.file.now old.apart.items 0 old.structures.items t (omega (arith, place)))

    apart_text : IsKept old → text_at new.file.now new.apart.items (0 + length old.structures.items) s ≡ text
    apart_text k =
        let here : t.place ≡ 0 + length old.structures.items = omega (arith, place) in
        text_of_apart new.file.now new.apart.items (0 + length old.structures.items) s long
        ∙ rw apart (apart_here (0 + length old.structures.items) old.apart.items t here (low_later (length old.structures.items) (0 + length old.structures.items) old.apart.items (omega arith) k.apart_within) ∙ own)

    apart_here_slice : HasSlice new.file.now s
    apart_here_slice few = absurd (omega (arith, few, long))

    pub put_apart : HasStructure line old new
    put_apart = record {
      judge = judge;
      count = count;
      file = file;
      further = further;
      structures = λ k. rows_more apart_same (apart_text k);
      kept = λ k. record {
        spelled = spelled_more apart_same (apart_text k) k.spelled;
        slices = slices_more apart_here_slice k.slices;
        apart_within = rw apart (low_push (length new.structures.items) old.apart.items t (low_later (length old.structures.items) (length new.structures.items) old.apart.items (omega (arith, size)) k.apart_within) (omega (arith, size, place)));
        apart_in_order = rw apart (IsNonDecreasingBy-push (λ (x : TextApart). x.place) old.apart.items t k.apart_in_order (λ d some. (let low = low_at (length old.structures.items) old.apart.items (length old.apart.items - 1) d k.apart_within (omega arith) in omega (arith, low, place))));
        further_slices = rw (file, further) k.further_slices;
        sized = sized_more k.sized;
      };
    }

-- a line above level 0 is not TRLR
pub above_is_no_trailer : (line : LineParts) → 0 < line.level → is_trailer line ≡ false
above_is_no_trailer line above = at (line.level == 0) refl
  where
    at : (b : Bool) → (line.level == 0) ≡ b → is_trailer line ≡ false
    at true is = (let top : line.level ≡ 0 = eqb→eq line.level 0 (subst T (sym is) tt) in absurd (omega (arith, top, above)))
    at false is = ap (λ (b : Bool). b && bytes_eq line.tag (codes "TRLR")) is

-- one more further line
pub put_further : (old new : TableBuilder) (line : LineParts) (after : ℕ) (text : Bytes) → is_trailer line ≡ false → is_cont line ≡ true → new.judge ≡ old.judge → new.count ≡ old.count
    → new.file ≡ old.file → new.sizes ≡ old.sizes → new.apart ≡ old.apart → TellsFurther old.structures.items new.structures.items → IsFurtherPut old.file.now old.further new.further after text
    → after ≡ length old.structures.items → text ≡ line_text line.value → IsPut line old new
put_further old new line after text trailer cont judge count file sizes apart tells put after_is text_is = record {
  judge = judge;
  count = count;
  file = file;
  structures = λ k. rw (file, apart, trailer, cont) (tells.structures old.file.now old.apart.items);
  places = rw (file, put.lines, trailer, cont) (map-append (λ (x : Further). x.after) (table_further old) (record { after = after; text = text } ∷ []) ∙ ap (λ (n : ℕ). places_of (table_further old) ++ n ∷ []) after_is);
  further = rw (file, put.lines, trailer, cont) (map-append (λ (x : Further). x.text) (table_further old) (record { after = after; text = text } ∷ []) ∙ ap (λ (bs : Bytes). texts_of (table_further old) ++ bs ∷ []) text_is);
  kept = λ k. record {
    spelled = rw (file, apart) (tells.spelled old.file.now old.apart.items k.spelled);
    slices = rw file (tells.slices old.file.now k.slices);
    apart_within = rw apart (low_later (length old.structures.items) (length new.structures.items) old.apart.items (omega (arith, tells.count)) k.apart_within);
    apart_in_order = rw apart k.apart_in_order;
    further_slices = rw file (put.slices k.further_slices);
    sized = rw (sizes, tells.levels) k.sized;
  };
}
