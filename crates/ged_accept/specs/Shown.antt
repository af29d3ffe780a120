-- How the structures of a document are shown: a line for each, with its level, its tag and what the structure tables ask
-- of its payload.
use Rattle.std.specs.Prelude.{◌≡◌, ℕ, ◌+◌, [], ◌∷◌, ◌++◌, Option, Some, None, codes, decimal}
use Rattle.ged_line.specs.Bytes.{Bytes, space, line_feed}
use Rattle.ged_tree.specs.Trees.{Trees, none, tree}
use Rattle.ged_value.specs.Kinds.{kind_word}
use Rattle.ged_schema.specs.declared.context.Context.{Context}
use Rattle.ged_schema.specs.declared.context.Context.TheVariants.{File}
use Rattle.ged_schema.specs.Rows.{Row}
use Rattle.ged_schema.specs.Tables.{row, context_below}

-- the word of a row's kind; where there is no row, a hyphen
abbrev pub row_word : Option Row → Bytes
row_word None = codes "-"
row_word (Some r) = kind_word r.kind

-- the line of a structure at this level with this tag and row
abbrev pub structure_line : ℕ → Bytes → Option Row → Bytes
structure_line level tag r = decimal level ++ space ∷ (tag ++ space ∷ (row_word r ++ line_feed ∷ []))

-- the lines of trees that stand at this level and in this context, each structure's before those of what stands below it
abbrev pub shown : ℕ → Context → Trees → Bytes
shown level context none = []
shown level context (tree s below next) =
    structure_line level s.tag (row context s.tag)
    ++ (shown (level + 1) (context_below context s.tag) below ++ shown level context next)

-- the text shows the document; TRLR, which is no structure of it, has no line
abbrev pub IsShown : Trees → Bytes → Type 0
IsShown document text = text ≡ shown 0 File document
