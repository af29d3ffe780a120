-- Nothing here need be believed: only private contracts and proofs cite it.
-- Names, and other words of the command line, as standard error shows them.
use Rattle.std.specs.Prelude.{ℕ, [], ◌++◌, ◌^◌, ◌-◌, true, false, codes, chars, encode_utf8, flat_map, if◌then◌else◌}
use Rattle.std.specs.Fmt.{digits, format_spec, padded_integral}
use Rattle.std.specs.Str.{NoCharPasses}
use Rattle.clap.specs.Words.{Text}
use Rattle.ged_explain.specs.Characters.{misleads}

-- a number in hexadecimal digits, at least four of them, as the format {:04X} writes it
abbrev pub hexadecimal : ℕ → Text
hexadecimal n = padded_integral (format_spec 32 0 4 4 (2 ^ 64 - 1)) false [] (digits 16 true n)

-- a character as it is shown: by its number, such as U+000A, where it misleads, and else as it is
abbrev pub shown_character : ℕ → Text
shown_character c = if misleads c then codes "U+" ++ hexadecimal c else encode_utf8 c

-- a name as it is shown, character by character
abbrev pub shown_text : Text → Text
shown_text name = flat_map shown_character (chars name)

-- no character of the text misleads
abbrev pub IsHarmless : Text → Type 0
IsHarmless text = NoCharPasses misleads text
