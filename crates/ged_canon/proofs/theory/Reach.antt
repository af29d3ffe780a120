-- A checked document becomes its sorted document by steps.
use Rattle.std.proofs.Common.{◌≡◌, Bool, true, false, cond, Option, Some, None, refl, sym, ◌∙◌}
use Rattle.ged_tree.specs.declared.payload.Payload.{Payload}
use Rattle.ged_tree.specs.Trees.{Structure, Trees, none, tree}
use Rattle.ged_tree.specs.Documents.{is_document}
use Rattle.ged_schema.specs.declared.context.Context.{Context}
use Rattle.ged_schema.specs.declared.context.Context.TheVariants.{File}
use Rattle.ged_schema.specs.Rows.{Row}
use Rattle.ged_schema.specs.Tables.{row, context_below}
use Rattle.ged_schema.specs.Payloads.{FitsRow}
use Rattle.ged_schema.specs.Checked.{MeetsRow, AreChecked}
use Rattle.ged_canon.specs.declared.edition.Edition.{Edition}
use Rattle.ged_canon.specs.Steps.{Respelt, Change, exchange, leave_out, Somewhere, here, under, later, Step, Chain, done, then}
use Rattle.ged_canon.specs.inner.StepParts.{with_payload}
use Rattle.ged_canon.specs.Tidy.{PlaceStep}
use Rattle.ged_canon.specs.inner.Working.{falls, put, brief_structure, sorted, sorted_document}
use Rattle.ged_canon.proofs.theory.Sorting.{falls_itself}
use Rattle.ged_canon.proofs.theory.Chains.{both}
use Rattle.ged_canon.proofs.theory.Chains as chains
use Rattle.ged_canon.proofs.theory.InPlace.{in_place}
use Rattle.ged_canon.proofs.theory.Brief.{payload_chain}
use Rattle.ged_canon.proofs.theory.Stays.{somewhere_alike, below_alike, later_alike, documents_alike}

pub meets-fits : (d : Trees) (r : Option Row) (p : Payload) (below : Trees) → MeetsRow d r p below → FitsRow r p
meets-fits d None p below h = tt
meets-fits d (Some r) p below h = h.0

module _ (edition : Edition) where
  -- a tree moves past those with smaller tags
  bubble : (context : Context) (s : Structure) (b xs : Trees) → Chain (Somewhere (Change edition) context) (tree s b xs) (put s b xs)
  bubble context s b none = done
  bubble context s b (tree x y xs) = by (falls s.tag x.tag) refl (bubble context s b xs)
    where
      by : (t : Bool) → falls s.tag x.tag ≡ t → Chain (Somewhere (Change edition) context) (tree s b xs) (put s b xs) → Chain (Somewhere (Change edition) context) (tree s b (tree x y xs)) (cond t (tree x y (put s b xs)) (tree s b (tree x y xs)))
      by true e k = then (here (exchange s x b y xs (falls_itself s.tag x.tag e))) (chains.under (tree x y) (λ t u h. later x y h) k)
      by false e k = done

  module _ (d : Trees) where
    reach : (context : Context) (xs : Trees) → AreChecked d context xs → Chain (Somewhere (Change edition) context) xs (sorted edition context xs)
    reach context none h = done
    reach context (tree s below next) h =
        let q = brief_structure edition context s in
        let deep = sorted edition (context_below context s.tag) below in
        both (chains.under (λ p. tree (with_payload s p) below next) (λ x y k. here (leave_out s x y below next k)) (payload_chain edition (row context s.tag) s.payload (meets-fits d (row context s.tag) s.payload below h.0)))
        (both (chains.under (λ x. tree q x next) (λ x y k. under q next k) (reach (context_below context s.tag) below h.1))
        (both (chains.under (λ x. tree q deep x) (λ x y k. later q deep k) (reach context next h.2))
        (bubble context q deep (sorted edition context next))))

    -- a change from trees to trees that are a document alike
    record Moves (xs ys : Trees) : Type 0 where
      change : Somewhere (Change edition) File xs ys
      alike : is_document xs ≡ is_document ys

    moves_step : (x y : Trees) → is_document x ≡ true → Chain Moves x y → Chain (PlaceStep edition) x y
    moves_step x _ h done = done
    moves_step x y h (then {b = z} r k) = let t = sym r.alike ∙ h in then (record { from = h; to = t; changed = r.change }) (moves_step z y t k)

    respelt_moves : (s : Structure) (p q : Payload) (below next : Trees) → Respelt edition (row File s.tag) p q → Moves (tree (with_payload s p) below next) (tree (with_payload s q) below next)
    respelt_moves s p q below next k =
        let c = here (leave_out s p q below next k) in
        record { change = c; alike = documents_alike (with_payload s p) (with_payload s q) below below next next refl refl (somewhere_alike edition File (tree (with_payload s p) below next) (tree (with_payload s q) below next) c) }

    under_moves : (s : Structure) (next x y : Trees) → Somewhere (Change edition) (context_below File s.tag) x y → Moves (tree s x next) (tree s y next)
    under_moves s next x y k = record { change = under s next k; alike = documents_alike s s x y next next refl refl (below_alike s next x y (somewhere_alike edition (context_below File s.tag) x y k)) }

    later_moves : (s : Structure) (below x y : Trees) → Somewhere (Change edition) File x y → Moves (tree s below x) (tree s below y)
    later_moves s below x y k = let a = somewhere_alike edition File x y k in record { change = later s below k; alike = documents_alike s s below below x y refl a.records (later_alike s below x y a) }

    moves : (xs : Trees) → AreChecked d File xs → Chain Moves xs (sorted_document edition xs)
    moves none h = done
    moves (tree s below next) h =
        let q = brief_structure edition File s in
        let deep = sorted edition (context_below File s.tag) below in
        both (chains.under (λ p. tree (with_payload s p) below next) (λ x y k. respelt_moves s x y below next k) (payload_chain edition (row File s.tag) s.payload (meets-fits d (row File s.tag) s.payload below h.0)))
        (both (chains.under (λ x. tree q x next) (λ x y k. under_moves q next x y k) (reach (context_below File s.tag) below h.1))
        (chains.under (λ x. tree q deep x) (λ x y k. later_moves q deep x y k) (reach File next h.2)))

    pub reach_in_place : (xs : Trees) → is_document xs ≡ true → AreChecked d File xs → Chain (PlaceStep edition) xs (sorted_document edition xs)
    reach_in_place xs p h = moves_step xs (sorted_document edition xs) p (moves xs h)

    pub reach_sorted : (xs : Trees) → is_document xs ≡ true → AreChecked d File xs → Chain (Step edition) xs (sorted_document edition xs)
    reach_sorted xs p h = in_place edition xs (sorted_document edition xs) (reach_in_place xs p h)
