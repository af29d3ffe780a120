-- What the structure tables ask of the structures with one tag (FamilySearch GEDCOM 7.0, "Structure Organization").
use Rattle.std.specs.Prelude.{ℕ, List, Option, Some, None, map, codes}
use Prim.Native.String.{String}
use Rattle.ged_line.specs.Bytes.{Bytes}
use Rattle.ged_value.specs.Words.{words_of}
use Rattle.ged_value.specs.declared.kind.Kind.{Kind}
use Rattle.ged_schema.specs.declared.context.Context.{Context}
use Rattle.ged_schema.specs.declared.rule.Rule.{Rule}

-- how many structures with the tag may stand under one superstructure, what their payload has to be, and the context of
-- their substructures
pub record Row : Type 0 where
  pub tag : Bytes
  pub least : ℕ
  pub most : Option ℕ
  pub kind : Kind
  pub below : Context

-- a row, as the code keeps it
abbrev pub as_row : Rule → Row
as_row r = record { tag = r.tag.now; least = r.least; most = r.most; kind = r.kind; below = r.below }

-- a row for each of some tags, whose structures stand exactly once
abbrev pub one : String → Kind → Context → List Row
one tags kind below = map (λ tag. record { tag = tag; least = 1; most = Some 1; kind = kind; below = below }) (words_of (codes tags))

-- the same, for structures that stand once or not at all
abbrev pub optional : String → Kind → Context → List Row
optional tags kind below = map (λ tag. record { tag = tag; least = 0; most = Some 1; kind = kind; below = below }) (words_of (codes tags))

-- the same, for structures that stand any number of times
abbrev pub many : String → Kind → Context → List Row
many tags kind below = map (λ tag. record { tag = tag; least = 0; most = None; kind = kind; below = below }) (words_of (codes tags))
