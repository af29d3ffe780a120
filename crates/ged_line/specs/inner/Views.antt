-- Nothing here need be believed: only private contracts and proofs cite it.
use Rattle.ged_line.specs.Lines.{Value, Empty, Void, Pointer, Text}
use Rattle.ged_line.specs.declared.owned.line.LineValue.{LineValue}
use Rattle.ged_line.specs.declared.owned.line.LineValue.TheVariants as owned

-- what holds a value
abbrev pub holder_of : Value → LineValue
holder_of Empty = owned.Empty
holder_of Void = owned.Void
holder_of (Pointer name) = owned.Pointer name
holder_of (Text text) = owned.Text text
