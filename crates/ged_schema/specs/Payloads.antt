-- Which payloads are of a kind (FamilySearch GEDCOM 7.0, "Data types").
use Rattle.std.specs.Prelude.{◌≡◌, true, [], ◌∷◌, Option, IfSome}
use Rattle.ged_tree.specs.declared.payload.Payload.{Payload}
use Rattle.ged_tree.specs.declared.payload.Payload.TheVariants.{Text}
use Rattle.ged_value.specs.declared.kind.Kind.{Kind}
use Rattle.ged_schema.specs.Rows.{Row}
use Rattle.ged_value.specs.Kinds.{FitsLine, takes_lines, takes_links}

-- the payload is of the kind; the record that a pointer names is not looked at
abbrev pub IsOfKind : Kind → Payload → Type 0
IsOfKind kind (Text (line ∷ [])) = FitsLine kind line
IsOfKind kind (Text lines) = takes_lines kind ≡ true
IsOfKind kind link = takes_links kind ≡ true

-- the payload is of the row's kind; where there is no row any payload will do
abbrev pub FitsRow : Option Row → Payload → Type 0
FitsRow row payload = IfSome row (λ r. IsOfKind r.kind payload)
