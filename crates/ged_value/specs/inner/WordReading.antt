-- Nothing here need be believed: only private contracts and proofs cite it.
-- The code of src/split.rt as a definition. Only private functions speak of it; what is read is said by `Reads`.
use Rattle.std.specs.Prelude.{List, [], ◌∷◌, Option, Some, None, if◌then◌else◌}
use Rattle.std.specs.Option.{option_map}
use Rattle.std.specs.Str.{bytes_eq}
use Rattle.ged_value.specs.Words.{Bytes}

-- the words before and after the first one that is the given word
abbrev pub around : Bytes → List Bytes → Option (List Bytes × List Bytes)
around word [] = None
around word (w ∷ ws) =
    if bytes_eq w word then Some ([], ws) else option_map (λ parts. (w ∷ parts.0, parts.1)) (around word ws)
