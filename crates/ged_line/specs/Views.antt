-- The value of a line, apart from how it is stored.
use Rattle.ged_line.specs.Lines.{Value, Empty, Void, Pointer, Text}
use Rattle.ged_line.specs.declared.line.view.ValueView.{ValueView}
use Rattle.ged_line.specs.declared.line.view.ValueView.TheVariants as views
use Rattle.ged_line.specs.declared.owned.line.LineValue.{LineValue}
use Rattle.ged_line.specs.declared.owned.line.LineValue.TheVariants as owned

-- the value that slices of a file show
abbrev pub viewed_value : ValueView → Value
viewed_value views.Empty = Empty
viewed_value views.Void = Void
viewed_value (views.Pointer name) = Pointer name.now
viewed_value (views.Text text) = Text text.now

-- the value that a line holds
abbrev pub held_value : LineValue → Value
held_value owned.Empty = Empty
held_value owned.Void = Void
held_value (owned.Pointer name) = Pointer name
held_value (owned.Text text) = Text text
