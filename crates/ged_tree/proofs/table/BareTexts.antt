-- Lines of a table that stand in its file as the canonical spelling has them.
use Rattle.std.proofs.Common.{◌≡◌, ℕ, suc, ◌+◌, ◌-◌, ◌<◌, ◌++◌, ◌∷◌, [], List, length, take, drop, get_or, decimal, Some, slice_get, slice_range, refl, sym, ap, ◌∙◌, arith}
use Rattle.std.proofs.Math.Seq.{take-suc}
use Rattle.std.proofs.lemmas.List.{length-take, length-drop, get_or-drop}
use Rattle.std.proofs.lemmas.Option.{slice_get_within, get_or_from_slice_get}
use Rattle.ged_line.specs.Bytes.{Bytes}
use Rattle.ged_tree.specs.Places.{structure_at}
use Rattle.ged_tree.specs.DocumentLines.{rest_of_line}
use Rattle.ged_tree.specs.BareLines.{IsBare, TellsOwnLine}
use Rattle.ged_tree.specs.Rows.{IsFlat, Shown, flat_trees, shown_from, shown_with, further_of, text_at, line_shown, kept_level, kept_tag_length}
use Rattle.ged_tree.specs.declared.forest.continuations.FurtherTable.{FurtherTable}
use Rattle.ged_tree.specs.declared.table.closing.Sizes.{Sizes}
use Rattle.ged_tree.specs.declared.table.packed.KeptStructure.{KeptStructure}
use Rattle.ged_tree.specs.declared.table.packed.TextApart.{TextApart}
use Rattle.ged_tree.proofs.table.PackedStructures.{text_of_slice}
use Rattle.ged_tree.proofs.table.Answers.{kept_alone, kept_pointer, kept_spelled, kept_shows}
use Rattle.ged_tree.proofs.table.Tags.{bare_line}

-- a slice with the byte behind it
slice_and_byte : (file : Bytes) (start size byte : ℕ) → slice_get file (start + size) ≡ Some byte
    → slice_range file start (start + size + 1) ≡ take size (drop start file) ++ byte ∷ []
slice_and_byte file start size byte stands =
    let inside = slice_get_within file (start + size) byte stands in
    let more : start + size + 1 - start ≡ suc size = omega arith in
    let here : get_or (drop start file) size 0 ≡ byte = get_or-drop start file size 0 ∙ get_or_from_slice_get file (start + size) byte 0 stands in
    ap (λ n. take n (drop start file)) more
    ∙ take-suc (drop start file) size 0 (omega (arith, inside, length-drop start file))
    ∙ ap (λ b. take size (drop start file) ++ b ∷ []) here

module _ (file : Bytes) (apart : List TextApart) (structures : List KeptStructure) (sizes : Sizes) (table : FurtherTable) (flat : IsFlat file apart structures sizes table)
    (place : ℕ) (s : KeptStructure) (h : place < length structures) (is : s ≡ get_or structures place s) (bare : IsBare file s) where
  abbrev text : Bytes
  text = text_at file apart place s

  abbrev here : Shown
  here = shown_with text s

  sliced : text ≡ take s.length (drop s.start file)
  sliced = text_of_slice file apart place s bare.kept.sliced

  long : length text ≡ s.length
  long =
      let inside = slice_get_within file (s.start + s.length) 10 bare.feed in
      let size = ap (λ (bs : Bytes). length bs) sliced in
      omega (arith, size, inside, length-take s.length (drop s.start file), length-drop s.start file)

  spelled : text ≡ decimal (kept_level s) ++ (32 ∷ rest_of_line (structure_at (flat_trees (shown_from file apart 0 structures) (further_of file table)) place))
  spelled =
      let whole = kept_spelled file apart structures sizes table flat place s h is in
      let tag = (whole.1 bare.kept.tagged).0 in
      let shows = kept_shows file apart structures sizes table flat place s h is text refl in
      bare_line (line_shown here) text whole.0 s.tag_start (kept_tag_length s) tag.0 tag.1 bare.kept.front (λ e. bare.kept.ends (omega (arith, e, long, bare.kept.front)))
      ∙ ap (λ (bs : Bytes). decimal (kept_level s) ++ (32 ∷ bs)) shows.rest

  pub bare_in_file : TellsOwnLine (flat_trees (shown_from file apart 0 structures) (further_of file table)) place file s
  bare_in_file = record {
    line = slice_and_byte file s.start s.length 10 bare.feed ∙ ap (λ (bs : Bytes). bs ++ 10 ∷ []) (sym sliced ∙ spelled);
    points = kept_pointer file apart structures sizes table flat place s h is bare.kept.tagged;
    alone = kept_alone file apart structures sizes table flat place s h is;
  }
