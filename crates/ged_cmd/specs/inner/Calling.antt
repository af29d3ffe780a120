-- Nothing here need be believed: only private contracts and proofs cite it.
use Rattle.std.specs.Prelude.{List, filter, map, not}
use Rattle.clap.specs.Words.{Text}
use Rattle.ged_cmd.specs.Shelves.{ShelfCall, opening}
use Rattle.ged_cmd.specs.Tasks.{is_input}

-- each file that has a name is opened
abbrev pub opening_all : List Text → List ShelfCall
opening_all names = map opening (filter (λ name. not (is_input name)) names)
