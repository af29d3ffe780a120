-- What the proofs of the crates above cite of this crate, and they cite nothing else of its proofs.
use Rattle.std.specs.Prelude.{ℕ, ◌<◌}
use Rattle.std.proofs.Common.{arith}
use Rattle.ged_tree.specs.Trees.{Trees, trees_count}
use Rattle.ged_tree.specs.Places.{line_at}
use Rattle.ged_schema.specs.declared.context.Context.TheVariants.{File}
use Rattle.ged_schema.specs.Unlisted.{UnlistedAt}
use Rattle.ged_schema.specs.Laws.{OneFirstFault, NoFaultOfChecked, OneNotice, UnlistedHasPlace}
use Rattle.ged_schema.specs.CheckedLaws.{CheckedOrFault}
use Rattle.ged_schema.proofs.FirstUnlisted as unlisted
use Rattle.ged_schema.proofs.NoticeLaws as notices
use Rattle.ged_schema.proofs.ProfileOrFaulty as profiles

-- a structure with an unlisted tag stands at a place of the document
pub unlisted_within : (d : Trees) (place : ℕ) → UnlistedAt d place → place < trees_count d
unlisted_within d place h = let inside = unlisted.unlisted_within File 0 d place h in omega (arith, inside.1)

-- later structures begin on later lines
pub lower_line : (d : Trees) (place other : ℕ) → place < other → other < trees_count d → line_at 1 d place < line_at 1 d other
lower_line = notices.lower_line

-- laws, as the functions of these names in src/ state them
pub unlisted_has_place : UnlistedHasPlace
unlisted_has_place d = (unlisted.has_place File 0 d, λ h. unlisted.place_has File 0 d h.0 h.1)

pub one_notice : OneNotice
one_notice = notices.two_lines

pub one_first_fault : OneFirstFault
one_first_fault = notices.one_first_fault_as

pub no_fault_of_checked : NoFaultOfChecked
no_fault_of_checked = notices.no_fault_as

pub checked_or_fault : CheckedOrFault
checked_or_fault = profiles.checked_or_fault
