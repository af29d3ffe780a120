-- What the proofs of the crates above cite of this crate, and they cite nothing else of its proofs.
use Rattle.std.specs.Prelude.{◌≡◌, ℕ, ◌<◌, Some}
use Rattle.ged_line.specs.Bytes.{Bytes}
use Rattle.ged_tree.specs.Trees.{Trees, trees_count}
use Rattle.ged_tree.specs.Places.{structure_at}
use Rattle.ged_link.specs.Links.{SomeTree}
use Rattle.ged_link.specs.LinkFaults.{HasXref}
use Rattle.ged_link.specs.Notices.{OneWayAt}
use Rattle.ged_link.specs.LinkLaws.{ResolvedIsFaultless, OneLinkFault, OneRecordHasName, OneWayHasPlace}
use Rattle.ged_link.specs.ResolvedLaws.{ResolvedOrFault}
use Rattle.ged_link.proofs.Deciding as deciding
use Rattle.ged_link.proofs.LawLemmas as faults
use Rattle.ged_link.proofs.LinkLemmas as links
use Rattle.ged_link.proofs.OneWayLemmas as one_way

-- a record with an identifier and a tag stands at some place
pub tag_tree : (d : Trees) (name tag : Bytes) → SomeTree (λ s below. (s.xref ≡ Some name) × (s.tag ≡ tag)) d
    → (place : ℕ) × HasXref d place name × ((structure_at d place).tag ≡ tag)
tag_tree = links.tag_tree

-- a link in one direction only stands at a place of the document
pub one_way_within : (d : Trees) (place : ℕ) → OneWayAt d place → place < trees_count d
one_way_within = one_way.one_way_within

-- laws, as the functions of these names in src/ state them
pub resolved_is_faultless : ResolvedIsFaultless
resolved_is_faultless = faults.faultless

pub one_link_fault : OneLinkFault
one_link_fault = faults.one_fault

pub resolved_or_fault : ResolvedOrFault
resolved_or_fault = deciding.resolved_or_fault

pub one_record_has_name : OneRecordHasName
one_record_has_name = faults.one_record

pub one_way_has_place : OneWayHasPlace
one_way_has_place = one_way.has_place
