-- A payload is of a kind or it is not.
use Rattle.std.proofs.Common.{◌≡◌, true, List, [], ◌∷◌}
use Rattle.ged_value.specs.Words.{Bytes}
use Rattle.ged_value.specs.Kinds.{FitsLine, takes_lines, takes_links}
use Rattle.ged_value.specs.declared.kind.Kind.{Kind}
use Rattle.ged_value.specs.declared.kind.Kind.TheVariants as kinds
use Rattle.ged_value.proofs.CallerLemmas.{line_decided}
use Rattle.ged_tree.specs.declared.payload.Payload.{Payload}
use Rattle.ged_tree.specs.declared.payload.Payload.TheVariants.{Void, Pointer, Text}
use Rattle.ged_schema.specs.Payloads.{IsOfKind}
use Rattle.ged_schema.proofs.Decided.{IsDecided, true_decided}

pub kind_decided : (kind : Kind) (payload : Payload) → IsDecided (IsOfKind kind payload)
kind_decided kind Void = true_decided (takes_links kind)
kind_decided kind (Pointer name) = true_decided (takes_links kind)
kind_decided kind (Text []) = true_decided (takes_lines kind)
kind_decided kind (Text (line ∷ [])) = line_decided kind line
kind_decided kind (Text (line ∷ next ∷ lines)) = true_decided (takes_lines kind)

any_line_fits : (kind : Kind) (line : Bytes) → takes_lines kind ≡ true → FitsLine kind line
any_line_fits kinds.Text line takes = tt
any_line_fits kinds.Free line takes = tt
any_line_fits _ line takes = cc

-- where each text is of a kind, a payload that is a text is
pub any_text_fits : (kind : Kind) (lines : List Bytes) (payload : Payload) → takes_lines kind ≡ true → Text lines ≡ payload → IsOfKind kind payload
any_text_fits kind [] payload takes is = rw (← is) takes
any_text_fits kind (line ∷ []) payload takes is = rw (← is) (any_line_fits kind line takes)
any_text_fits kind (line ∷ next ∷ lines) payload takes is = rw (← is) takes
