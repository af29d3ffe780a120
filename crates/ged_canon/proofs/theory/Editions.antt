-- The first edition's steps are the second's, and the second's normal form is the first's.
use Rattle.std.proofs.Common.{◌≡◌, [], ◌∷◌, Option}
use Rattle.ged_line.specs.Bytes.{Bytes}
use Rattle.ged_tree.specs.declared.payload.Payload.{Payload}
use Rattle.ged_tree.specs.declared.payload.Payload.TheVariants.{Void, Pointer, Text}
use Rattle.ged_tree.specs.Trees.{Trees, none, tree}
use Rattle.ged_schema.specs.declared.context.Context.{Context}
use Rattle.ged_schema.specs.declared.context.Context.TheVariants.{File}
use Rattle.ged_schema.specs.Rows.{Row}
use Rattle.ged_schema.specs.Tables.{row, context_below}
use Rattle.ged_canon.specs.declared.edition.Edition.TheVariants.{First, Second}
use Rattle.ged_canon.specs.Steps.{Shortened, calendar, leading_zero, Respelt, respelt, Change, exchange, leave_out, put_in, Somewhere, here, under, later, Move, change, rename, gain, lose, Step}
use Rattle.ged_canon.specs.Normal.{IsBriefPayload, AreNormal, Normal, IsNormalForm}
use Rattle.ged_canon.proofs.theory.Chains.{both, back}
use Rattle.ged_canon.proofs.theory.Chains as chains
use Rattle.ged_canon.proofs.theory.Undone.{step_back}
use Rattle.ged_canon.proofs.theory.Unique.{unique}

first_second : First ≡ Second → ⊥
first_second e = cc

shortened : (r : Option Row) (a b : Bytes) → Shortened First r a b → Shortened Second r a b
shortened r a b (calendar d h) = calendar d h
shortened r a b (leading_zero s n h) = absurd (first_second s)

respelt_second : (r : Option Row) (p q : Payload) → Respelt First r p q → Respelt Second r p q
respelt_second r _ _ (respelt longer shorter out f g) = respelt longer shorter (shortened r longer shorter out) f g

change_second : (context : Context) (xs ys : Trees) → Change First context xs ys → Change Second context xs ys
change_second context _ _ (exchange s t b c next ne) = exchange s t b c next ne
change_second context _ _ (leave_out s p q b next h) = leave_out s p q b next (respelt_second (row context s.tag) p q h)
change_second context _ _ (put_in s p q b next h) = put_in s p q b next (respelt_second (row context s.tag) p q h)

pub somewhere_second : (context : Context) (xs ys : Trees) → Somewhere (Change First) context xs ys → Somewhere (Change Second) context xs ys
somewhere_second context xs ys (here h) = here (change_second context xs ys h)
somewhere_second context _ _ (under {t = t} {u = u} s next h) = under s next (somewhere_second (context_below context s.tag) t u h)
somewhere_second context _ _ (later {t = t} {u = u} s below h) = later s below (somewhere_second context t u h)

step_second : (d e : Trees) → Step First d e → Step Second d e
step_second d e h = record { from = h.from; to = h.to; move = by h.move }
  where
    by : Move First d e → Move Second d e
    by (change k) = change (somewhere_second File d e k)
    by (rename k) = rename k
    by (gain k) = gain k
    by (lose k) = lose k

pub one_second : (d e m n p : Trees) → IsNormalForm First d m → IsNormalForm First e m → IsNormalForm Second d n → IsNormalForm Second e p → n ≡ p
one_second d e m n p a b h k =
    let forth = both (chains.under (λ x. x) step_second a.equivalent) (back (step_back Second) (chains.under (λ x. x) step_second b.equivalent)) in
    unique Second n p (both (back (step_back Second) h.equivalent) (both forth k.equivalent)) h.normal k.normal

brief_first : (r : Option Row) (p : Payload) → IsBriefPayload Second r p → IsBriefPayload First r p
brief_first r Void h = tt
brief_first r (Pointer name) h = tt
brief_first r (Text []) h = tt
brief_first r (Text (line ∷ [])) h = record { no_calendar = h.no_calendar; no_leading_zero = λ s. absurd (first_second s) }
brief_first r (Text (line ∷ (next ∷ lines))) h = tt

pub normal_first : (context : Context) (xs : Trees) → AreNormal Second context xs → AreNormal First context xs
normal_first context none h = tt
normal_first context (tree s below next) h = (brief_first (row context s.tag) s.payload h.0, h.1, normal_first (context_below context s.tag) below h.2, normal_first context next h.3)

pub first_normal : (d : Trees) → Normal Second d → Normal First d
first_normal d h = record { places = normal_first File d h.places; records_in_order = h.records_in_order; xrefs_numbered = h.xrefs_numbered; xrefs_used = h.xrefs_used }
