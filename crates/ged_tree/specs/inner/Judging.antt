-- Nothing here need be believed: only private contracts and proofs cite it.
use Rattle.std.specs.Prelude.{◌≡◌, ◌<◌, true, false, List, [], ◌∷◌}
use Rattle.ged_line.specs.Lines.{LineParts}
use Rattle.ged_tree.specs.TreeFaults.{is_cont, is_header, is_reference, is_trailer}
use Rattle.ged_tree.specs.declared.fault.TreeFault.{TreeFault}
use Rattle.ged_tree.specs.declared.fault.TreeFault.TheVariants.{NoHeader, SecondHeader, TrailerNotEmpty, AfterTrailer}
use Rattle.ged_tree.specs.declared.judge.LineRole.{LineRole}
use Rattle.ged_tree.specs.declared.judge.LineRole.TheVariants.{Substructure, Continuation, Record, Other}

-- the last of the faults that stand at a line: those of HEAD and TRLR
abbrev pub end_faults : List TreeFault
end_faults = NoHeader ∷ SecondHeader ∷ TrailerNotEmpty ∷ AfterTrailer ∷ []

-- the line is what the role says
abbrev pub HasRole : LineRole → LineParts → Type 0
HasRole Substructure line = (0 < line.level) × (is_cont line ≡ false) × (is_trailer line ≡ false)
HasRole Continuation line = (0 < line.level) × (is_cont line ≡ true) × (is_reference line.value ≡ false)
HasRole Record line = (line.level ≡ 0) × (is_cont line ≡ false) × (is_header line ≡ false) × (is_trailer line ≡ false)
HasRole Other line = is_cont line ≡ false
