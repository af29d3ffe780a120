-- A fault of a file has a line from 1 on.
use Rattle.std.proofs.Common.{◌≡◌, ℕ, ◌+◌, ◌-◌, ◌==◌, ◌≤◌, Bool, true, false, cond, arith, inl, inr}
use Rattle.std.specs.Prelude.{nat_le}
use Rattle.ged_line.specs.Bytes.{Bytes}
use Rattle.ged_tree.specs.Trees.{Trees, none, tree, trees_count, line_count, lines_count}
use Rattle.ged_tree.specs.Places.{line_at}
use Rattle.ged_tree.specs.FileFaults.{FirstFaultIn, at_piece, at_text, at_end}
use Rattle.ged_tree.specs.declared.fault.TreeFault.{TreeFault}
use Rattle.ged_schema.specs.declared.fault.SchemaAt.{SchemaAt}
use Rattle.ged_schema.specs.declared.profile.Profile.{Profile}
use Rattle.ged_schema.specs.declared.profile.Profile.TheVariants.{Lenient, Strict}
use Rattle.ged_schema.specs.Profiles.{IsFirstFaultAs}
use Rattle.ged_faults.specs.declared.faults.FileFault.{FileFault}
use Rattle.ged_accept.specs.Accepted.{XrefFaultAt}
use Rattle.ged_accept.specs.Laws.{LinesFromOne}

-- no structure begins above the line of the first one
from_first_line : (line : ℕ) (d : Trees) (place : ℕ) → line ≤ line_at line d place
from_first_line line none place = omega arith
from_first_line line (tree s below next) place =
    go (place == 0) (nat_le place (trees_count below))
    (from_first_line (line + line_count s.payload) below (place - 1))
    (from_first_line (line + (line_count s.payload + lines_count below)) next (place - 1 - trees_count below))
  where
    go : (here under : Bool) → line + line_count s.payload ≤ line_at (line + line_count s.payload) below (place - 1)
        → line + (line_count s.payload + lines_count below) ≤ line_at (line + (line_count s.payload + lines_count below)) next (place - 1 - trees_count below)
        → line ≤ cond here line (cond under (line_at (line + line_count s.payload) below (place - 1)) (line_at (line + (line_count s.payload + lines_count below)) next (place - 1 - trees_count below)))
    go true under h k = omega arith
    go false true h k = omega (arith, h)
    go false false h k = omega (arith, k)

some_line : (d : Trees) (place line : ℕ) → line ≡ line_at 1 d place → 1 ≤ line
some_line d place line e = omega (arith, from_first_line 1 d place, e)

line_of_lines : (file : Bytes) (line : ℕ) (fault : TreeFault) → FirstFaultIn file line fault → 1 ≤ line
line_of_lines _ _ _ (at_piece file lines piece fault c f) = omega arith
line_of_lines _ _ _ (at_text file lines piece line fault c t e) = omega arith
line_of_lines _ _ _ (at_end file lines fault t f) = omega arith

line_of_xrefs : (d : Trees) (line : ℕ) (kind : FileFault) → XrefFaultAt d line kind → 1 ≤ line
line_of_xrefs d line kind (inl h) = let (place, low, e) = h.0 in some_line d place line e
line_of_xrefs d line kind (inr h) = let (place, low, e) = h.0.1 in some_line d place line e

line_of_tables : (profile : Profile) (d : Trees) (at : SchemaAt) → IsFirstFaultAs profile d at → 1 ≤ at.line
line_of_tables Lenient d at (f, first, e) = rw e (from_first_line 1 d f.place)
line_of_tables Strict d at (inl (f, first, e)) = rw e (from_first_line 1 d f.place)
line_of_tables Strict d at (inr (checked, (f, is, low, e))) = rw e (from_first_line 1 d f.place)

pub lines_from_one : LinesFromOne
lines_from_one profile file line kind (inl (fault, first, is)) = line_of_lines file line fault first
lines_from_one profile file line kind (inr (d, read, inl h)) = line_of_xrefs d line kind h
lines_from_one profile file line kind (inr (d, read, inr (resolved, (at, first, is, same)))) = let l = line_of_tables profile d at first in omega (arith, l, is)
