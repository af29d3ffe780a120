-- What a judge keeps of the lines so far. Only the contracts of `Judge` cite this.
use Rattle.std.specs.Prelude.{◌≡◌, ◌<◌, ◌-◌, ℕ, Bool, true, false, List, Option, Some, None, option_map}
use Rattle.ged_line.specs.Lines.{LineParts}
use Rattle.ged_tree.specs.TreeFaults.{is_cont, is_reference, line_before, has_trailer}
use Rattle.ged_tree.specs.declared.judge.Before.{Before}
use Rattle.ged_tree.specs.declared.judge.Before.TheVariants.{Empty, Void, Pointer, Text, Continuation, Nothing}

-- what a line tells about the faults of the next: its level, whether it is a CONT, and whether it has a pointer or void
pub record Seen : Type 0 where
  pub level : ℕ
  pub cont : Bool
  pub reference : Bool

-- what the lines so far tell: of the last line, if there is one, and whether TRLR has come
pub record Facts : Type 0 where
  pub before : Option Seen
  pub ended : Bool

abbrev pub seen : LineParts → Seen
seen line = record { level = line.level; cont = is_cont line; reference = is_reference line.value }

abbrev pub facts_of : List LineParts → Facts
facts_of lines = record { before = option_map seen (line_before lines); ended = has_trailer lines }

-- a judge of these facts stands for these lines
abbrev pub StandsFor : Facts → List LineParts → Type 0
StandsFor facts lines = facts ≡ facts_of lines

-- a line that is no CONT, behind which a structure may have this level at most
abbrev pub before_deepest : ℕ → Bool → Option Seen
before_deepest deepest reference = Some (record { level = deepest - 1; cont = false; reference = reference })

-- what is told of the last line by what it is to the next one, and by the greatest level that this may have if it is no CONT
abbrev pub seen_before : Before → ℕ → Option Seen
seen_before Empty deepest = before_deepest deepest false
seen_before Void deepest = before_deepest deepest true
seen_before Pointer deepest = before_deepest deepest true
seen_before Text deepest = before_deepest deepest false
seen_before Continuation deepest = Some (record { level = deepest; cont = true; reference = false })
seen_before Nothing deepest = None

-- the first line may have level 0 at most, and one behind a line that is no CONT a level above 0
abbrev pub Reaches : Before → ℕ → Type 0
Reaches Nothing deepest = deepest ≡ 0
Reaches Continuation deepest = Unit {0}
Reaches other deepest = 0 < deepest
