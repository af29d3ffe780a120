-- Nothing here need be believed: only private contracts and proofs cite it.
-- What two documents have in common that are compared structure by structure; only private functions cite this.
use Rattle.std.specs.Prelude.{◌≡◌, ℕ, ◌+◌, ◌<◌, ⊤, true, List, None}
use Rattle.ged_line.specs.Bytes.{Bytes}
use Rattle.ged_tree.specs.Trees.{Structure, Trees, none, tree, trees_count}
use Rattle.ged_tree.specs.Documents.{is_document}
use Rattle.ged_tree.specs.Places.{structure_at}
use Rattle.ged_tree.specs.Runs.{IsRunOfTrees, trees_between}
use Rattle.ged_schema.specs.declared.context.Context.{Context}
use Rattle.ged_canon.specs.declared.edition.Edition.{Edition}
use Rattle.ged_canon.specs.declared.writer.plan.Plan.{Plan}
use Rattle.ged_canon.specs.Steps.{renamed_payload, renamed}
use Rattle.ged_canon.specs.inner.Working.{number_of, sorted, IsNumberingOf}

-- nothing has an identifier, at any depth
abbrev pub Bare : Trees → Type 0
Bare none = ⊤
Bare (tree s below next) = (s.xref ≡ None) × Bare below × Bare next

-- two structures have one tag, and one payload once their pointers have new names
pub record AreAlike (new other : Bytes → Bytes) (s t : Structure) : Type 0 where
  pub tag : s.tag ≡ t.tag
  pub payload : renamed_payload new s.payload ≡ renamed_payload other t.payload

-- trees that stand side by side are the same, in any edition and context, once their pointers have new names and they are in order
abbrev pub BecomeSame : (Bytes → Bytes) → (Bytes → Bytes) → Trees → Trees → Type 0
BecomeSame new other t u = (edition : Edition) (context : Context) → sorted edition context (renamed new t) ≡ sorted edition context (renamed other u)

-- so it is by whatever names the numbers of two plans belong to
abbrev pub ByNames : Trees → Plan → Trees → Plan → ((Bytes → Bytes) → (Bytes → Bytes) → Type 0) → Type 0
ByNames d plan e other_plan P =
    (names other_names : List Bytes) → IsNumberingOf d names plan.index.now plan.numbers.now → IsNumberingOf e other_names other_plan.index.now other_plan.numbers.now
    → P (number_of 1 names) (number_of 1 other_names)

-- a structure of a document, and what stands below it up to a place
pub record StandsAlone (d : Trees) (place end : ℕ) : Type 0 where
  pub document : is_document d ≡ true
  pub within : place < trees_count d
  pub run : IsRunOfTrees d (place + 1) end
  pub bare : Bare (trees_between d (place + 1) end)

-- a run of a document's structures that are no records
pub record StandTogether (d : Trees) (start end : ℕ) : Type 0 where
  pub document : is_document d ≡ true
  pub run : IsRunOfTrees d start end
  pub bare : Bare (trees_between d start end)

-- structures are alike, and so is what stands below them
pub record TreesAlike (d : Trees) (place end : ℕ) (e : Trees) (at until : ℕ) (new other : Bytes → Bytes) : Type 0 where
  pub own : AreAlike new other (structure_at d place) (structure_at e at)
  pub below : BecomeSame new other (trees_between d (place + 1) end) (trees_between e (at + 1) until)
