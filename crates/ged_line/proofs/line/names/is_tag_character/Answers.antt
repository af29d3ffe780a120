use Rattle.std.proofs.Common.{◌≡◌, ℕ, ◌<◌, ◌+◌, false, get_or, map, refl, ap, ◌∙◌, arith}
use Rattle.std.proofs.lemmas.List.{get_or-map}
use Rattle.std.proofs.lemmas.List.FromFn.{length-range_with_len, get_or-range_with_len}
use Rattle.std.specs.List.{range_with_len}
use Rattle.ged_line.specs.Characters.{is_tag_character}
use Rattle.ged_line.specs.declared.line.names.TheConstants.{TAG_CHARACTERS}
use Rattle.ged_line.proofs.line.names.is_tag_character.Goals as goal

-- the table is that of the test
table_is : TAG_CHARACTERS ≡ map is_tag_character (range_with_len 0 256)
table_is = refl

looked_up : (byte : ℕ) → byte < 256 → get_or TAG_CHARACTERS byte false ≡ is_tag_character byte
looked_up byte small =
    let from_zero : 0 + byte ≡ byte = omega arith in
    ap (λ table. get_or table byte false) table_is
    ∙ get_or-map is_tag_character (range_with_len 0 256) byte 0 false (omega (arith, length-range_with_len 0 256))
    ∙ ap is_tag_character (get_or-range_with_len 0 256 byte 0 small ∙ from_zero)

pub returns : goal.returns
returns c = ap (λ place. get_or TAG_CHARACTERS place false) c.from.ensures ∙ looked_up c.args.byte (omega (arith, c.ranges.byte.fits))
