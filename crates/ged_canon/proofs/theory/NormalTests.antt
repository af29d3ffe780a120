-- A test that a document is normal, for documents that are written out.
use Rattle.std.proofs.Common.{◌≡◌, ◌≢◌, Bool, true, false, ◌||◌, ◌&&◌, List, [], ◌∷◌, Option, refl, sym, ap, ◌∙◌}
use Rattle.std.specs.Prelude.{not}
use Rattle.std.specs.List.{list_all, AllByRecursion}
use Rattle.std.proofs.lemmas.Bool.{true≢false, and_parts}
use Rattle.ged_line.specs.Bytes.{Bytes}
use Rattle.ged_tree.specs.declared.payload.Payload.{Payload}
use Rattle.ged_tree.specs.declared.payload.Payload.TheVariants.{Void, Pointer, Text}
use Rattle.ged_tree.specs.Trees.{Trees, none, tree}
use Rattle.ged_value.specs.Words.{words_of}
use Rattle.ged_value.specs.Default.{default_word, is_other}
use Rattle.ged_schema.specs.declared.context.Context.{Context}
use Rattle.ged_schema.specs.Rows.{Row}
use Rattle.ged_schema.specs.Tables.{row, context_below}
use Rattle.ged_canon.proofs.theory.Orders.{order_of_tags}
use Rattle.ged_canon.specs.declared.edition.Edition.TheVariants.{First}
use Rattle.ged_canon.specs.inner.StepParts.{is_dated}
use Rattle.ged_canon.specs.Normal.{InOrder, IsBrief, IsBriefPayload, AreNormal}
use Rattle.ged_canon.specs.inner.Orders.{tags, TagsInOrder}
use Rattle.ged_canon.specs.inner.Working.{falls}
use Rattle.ged_canon.proofs.theory.Texts.{same_bytes}
use Rattle.ged_canon.proofs.theory.Sorting.{not_greater}

-- a line where the tables have a date names no default calendar
abbrev pub is_brief_line : Option Row → Bytes → Bool
is_brief_line r line = not (is_dated r) || list_all is_other (words_of line)

abbrev pub is_brief_payload : Option Row → Payload → Bool
is_brief_payload r (Text (line ∷ [])) = is_brief_line r line
is_brief_payload r payload = true

abbrev pub are_in_order : List Bytes → Bool
are_in_order [] = true
are_in_order (a ∷ []) = true
are_in_order (a ∷ b ∷ rest) = not (falls a b) && are_in_order (b ∷ rest)

abbrev pub are_normal : Context → Trees → Bool
are_normal context none = true
are_normal context (tree s below next) =
    is_brief_payload (row context s.tag) s.payload
    && (are_in_order (tags below)
    && (are_normal (context_below context s.tag) below && are_normal context next))

others : (words : List Bytes) → list_all is_other words ≡ true → AllByRecursion (λ word. word ≢ default_word) words
others [] h = tt
others (word ∷ words) h = let p = and_parts (is_other word) (list_all is_other words) h in (λ e. true≢false (sym p.0 ∙ ap not (same_bytes word default_word e)), others words p.1)

brief_line : (r : Option Row) (line : Bytes) → is_brief_line r line ≡ true → IsBrief First r line
brief_line r line h = record {
  no_calendar = λ dated. others (words_of line) (ap (λ t. not t || list_all is_other (words_of line)) (sym dated) ∙ h);
  no_leading_zero = λ second numeric. absurd (cc);
}

brief_payload : (r : Option Row) (p : Payload) → is_brief_payload r p ≡ true → IsBriefPayload First r p
brief_payload r Void h = tt
brief_payload r (Pointer name) h = tt
brief_payload r (Text []) h = tt
brief_payload r (Text (line ∷ [])) h = brief_line r line h
brief_payload r (Text (line ∷ next ∷ lines)) h = tt

not_true : (t : Bool) → not t ≡ true → t ≡ false
not_true true h = sym h
not_true false h = refl

ordered : (ts : List Bytes) → are_in_order ts ≡ true → TagsInOrder ts
ordered [] h = tt
ordered (a ∷ []) h = tt
ordered (a ∷ b ∷ rest) h =
    let p = and_parts (not (falls a b)) (are_in_order (b ∷ rest)) h in
    (not_greater a b (not_true (falls a b) p.0), ordered (b ∷ rest) p.1)

pub in_order : (xs : Trees) → are_in_order (tags xs) ≡ true → InOrder xs
in_order xs h = order_of_tags xs (ordered (tags xs) h)

pub normal : (context : Context) (xs : Trees) → are_normal context xs ≡ true → AreNormal First context xs
normal context none h = tt
normal context (tree s below next) h =
    let p = and_parts (is_brief_payload (row context s.tag) s.payload) (are_in_order (tags below) && (are_normal (context_below context s.tag) below && are_normal context next)) h in
    let q = and_parts (are_in_order (tags below)) (are_normal (context_below context s.tag) below && are_normal context next) p.1 in
    let r = and_parts (are_normal (context_below context s.tag) below) (are_normal context next) q.1 in
    (brief_payload (row context s.tag) s.payload p.0, in_order below q.0, normal (context_below context s.tag) below r.0, normal context next r.1)
