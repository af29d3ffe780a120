-- Steps between documents that are written out, in few words each.
use Rattle.std.proofs.Common.{◌≡◌, ◌≢◌, true, false, List, [], ◌∷◌, sym, subst, ◌∙◌, inl, inr}
use Rattle.std.specs.List.{list_any}
use Rattle.std.specs.Str.{bytes_eq}
use Rattle.std.proofs.lemmas.Bool.{true≢false, or_parts}
use Rattle.ged_line.specs.Bytes.{Bytes}
use Rattle.ged_tree.specs.Trees.{Structure, Trees, tree}
use Rattle.ged_tree.specs.Documents.{is_document}
use Rattle.ged_link.specs.Links.{IsAmong, AreDistinct, IsNamed}
use Rattle.ged_schema.specs.declared.context.Context.{Context}
use Rattle.ged_schema.specs.declared.context.Context.TheVariants.{File}
use Rattle.ged_schema.specs.Tables.{context_below}
use Rattle.ged_canon.specs.declared.edition.Edition.TheVariants.{First}
use Rattle.ged_canon.specs.Steps.{Change, exchange, Somewhere, under, later, change, Step, then, Chain}
use Rattle.ged_canon.specs.inner.Working.{is_named}
use Rattle.ged_canon.proofs.theory.Texts.{same_bytes}
use Rattle.ged_canon.proofs.theory.Fixed.{is_named-true}

-- Names.

told_apart : {a b : Bytes} → bytes_eq a b ≡ false → a ≢ b
told_apart {a} {b} h e = true≢false (sym (same_bytes a b e) ∙ h)

pub three_distinct : {a b c : Bytes} → bytes_eq a b ≡ false → bytes_eq a c ≡ false → bytes_eq b c ≡ false → AreDistinct (a ∷ b ∷ c ∷ [])
three_distinct {a} {b} {c} ab ac bc = (first, (other b c bc, (λ h. h, tt)))
  where
    other : (x y : Bytes) → bytes_eq x y ≡ false → IsAmong x (y ∷ []) → ⊥
    other x y h (inl e) = told_apart h e
    other x y h (inr k) = k

    first : IsAmong a (b ∷ c ∷ []) → ⊥
    first (inl e) = told_apart ab e
    first (inr k) = other a c ac k

-- no pointer of the document has one of the names
pub unnamed : (d : Trees) (new : List Bytes) → list_any (is_named d) new ≡ false → (name : Bytes) → IsNamed d name → IsAmong name new → ⊥
unnamed d [] e name h k = k
unnamed d (first ∷ new) e name h (inl k) = true≢false (sym (is_named-true d first (subst (IsNamed d) k h)) ∙ (or_parts (is_named d first) (list_any (is_named d) new) e).0)
unnamed d (first ∷ new) e name h (inr k) = unnamed d new (or_parts (is_named d first) (list_any (is_named d) new) e).1 name h k

-- Places and steps.

-- two neighbours change places, whose tags are told apart
pub swap : {context : Context} {s t : Structure} {b c next : Trees} → bytes_eq s.tag t.tag ≡ false → Change First context (tree s b (tree t c next)) (tree t c (tree s b next))
swap {context} {s} {t} {b} {c} {next} h = exchange s t b c next (told_apart h)

-- a change below the first of trees side by side, and one behind it
pub below : {context : Context} {s : Structure} {t u next : Trees} → Somewhere (Change First) (context_below context s.tag) t u → Somewhere (Change First) context (tree s t next) (tree s u next)
below {context} {s} {t} {u} {next} h = under s next h

pub behind : {context : Context} {s : Structure} {b t u : Trees} → Somewhere (Change First) context t u → Somewhere (Change First) context (tree s b t) (tree s b u)
behind {context} {s} {b} h = later s b h

-- a step by a change at one place, between documents
pub step : {d e : Trees} → Somewhere (Change First) File d e → is_document d ≡ true → is_document e ≡ true → Step First d e
step h from to = record { from = from; to = to; move = change h }

-- a step, and then others
infixr 5 ◌⨟◌
pub ◌⨟◌ : {d e f : Trees} → Step First d e → Chain (Step First) e f → Chain (Step First) d f
◌⨟◌ h rest = then h rest
