-- Each step is undone by a step.
use Rattle.std.proofs.Common.{◌≡◌, List, [], ◌∷◌, map, refl, sym, ap, ◌∙◌, subst, ◌⊎◌, inl, inr, ⊎_elim}
use Rattle.ged_line.specs.Bytes.{Bytes}
use Rattle.ged_tree.specs.declared.payload.Payload.{Payload}
use Rattle.ged_tree.specs.declared.payload.Payload.TheVariants.{Void, Pointer, Text}
use Rattle.ged_tree.specs.Trees.{Trees, none, tree}
use Rattle.ged_link.specs.Links.{xrefs, IsAmong, AreDistinct, IsNamed}
use Rattle.ged_link.specs.inner.Identifiers.{Names}
use Rattle.ged_schema.specs.declared.context.Context.{Context}
use Rattle.ged_schema.specs.declared.context.Context.TheVariants.{File}
use Rattle.ged_schema.specs.Tables.{context_below}
use Rattle.ged_canon.specs.declared.edition.Edition.{Edition}
use Rattle.ged_canon.specs.Steps.{Change, exchange, leave_out, put_in, Somewhere, here, under, later, new_name, renamed_payload, renamed, Renamed, Move, change, rename, gain, lose, Step}
use Rattle.ged_canon.specs.inner.StepParts.{olds, news}
use Rattle.ged_canon.proofs.theory.Texts.{same_bytes, other_bytes}
use Rattle.ged_canon.proofs.theory.Fixed.{trees_alone}
use Rattle.ged_canon.proofs.theory.Bare.{BareBelow, mentions_has, document_bare}
use Rattle.ged_canon.proofs.theory.Renaming.{turned, new_name_cases, new_among, one_pair, renamed_twice, xrefs_renamed}
use Rattle.ged_canon.proofs.theory.Normality.{map_alike}

-- Places.

change_back : (edition : Edition) (context : Context) (xs ys : Trees) → Change edition context xs ys → Change edition context ys xs
change_back edition context _ _ (exchange s t b c next ne) = exchange t s c b next (λ e. ne (sym e))
change_back edition context _ _ (leave_out s p q b next h) = put_in s p q b next h
change_back edition context _ _ (put_in s p q b next h) = leave_out s p q b next h

pub somewhere_back : (edition : Edition) (context : Context) (xs ys : Trees) → Somewhere (Change edition) context xs ys → Somewhere (Change edition) context ys xs
somewhere_back edition context xs ys (here h) = here (change_back edition context xs ys h)
somewhere_back edition context _ _ (under {t = t} {u = u} s next h) = under s next (somewhere_back edition (context_below context s.tag) t u h)
somewhere_back edition context _ _ (later {t = t} {u = u} s below h) = later s below (somewhere_back edition context t u h)

-- Renaming.

turned_news : (pairs : List (Bytes × Bytes)) → news (turned pairs) ≡ olds pairs
turned_news [] = refl
turned_news (pair ∷ pairs) = ap (λ ns. pair.0 ∷ ns) (turned_news pairs)

turned_olds : (pairs : List (Bytes × Bytes)) → olds (turned pairs) ≡ news pairs
turned_olds [] = refl
turned_olds (pair ∷ pairs) = ap (λ ns. pair.1 ∷ ns) (turned_olds pairs)

turned_among : (pairs : List (Bytes × Bytes)) (p : Bytes × Bytes) → IsAmong p (turned pairs) → IsAmong (p.1, p.0) pairs
turned_among [] p h = h
turned_among (pair ∷ pairs) p h = let rest = turned_among pairs p in ⊎_elim (λ e. inl (ap (λ (q : Bytes × Bytes). (q.1, q.0)) e)) (λ k. inr (rest k)) h

-- the olds get the news
all_new : (pairs : List (Bytes × Bytes)) → AreDistinct (olds pairs) → map (new_name pairs) (olds pairs) ≡ news pairs
all_new [] d = refl
all_new (pair ∷ pairs) d =
    let e = same_bytes pair.0 pair.0 refl in
    let first : new_name (pair ∷ pairs) pair.0 ≡ pair.1 = rw e in
    let rest = map_alike (new_name (pair ∷ pairs)) (new_name pairs) (olds pairs) (λ other k. let o = other_bytes pair.0 other (λ p. d.0 (subst (λ x. IsAmong x (olds pairs)) (sym p) k)) in rw o) in
    (λ i. first i ∷ rest i) ∙ ap (λ ns. pair.1 ∷ ns) (all_new pairs d.1)

-- the pointers of a renamed document
module _ (f : Bytes → Bytes) (name : Bytes) where
  payload_was : (p : Payload) → Names (renamed_payload f p) name → (old : Bytes) × Names p old × (name ≡ f old)
  payload_was Void h = absurd (let z : ⊥ = cc in z)
  payload_was (Pointer target) h = (target, refl, (let e : name ≡ f target = cc in e))
  payload_was (Text lines) h = absurd (let z : ⊥ = cc in z)

  pub names_was : (xs : Trees) → IsNamed (renamed f xs) name → (old : Bytes) × IsNamed xs old × (name ≡ f old)
  names_was none h = absurd h
  names_was (tree s below next) (inl h) = let k = payload_was s.payload h in (k.0, inl k.1, k.2)
  names_was (tree s below next) (inr (inl h)) = let k = names_was below h in (k.0, inr (inl k.1), k.2)
  names_was (tree s below next) (inr (inr h)) = let k = names_was next h in (k.0, inr (inr k.1), k.2)

module _ (d e : Trees) (bare : BareBelow d) (r : Renamed d e) where
  -- the pairs, turned, give a name back
  given_back : (name : Bytes) → IsAmong name (xrefs d) ⊎ IsNamed d name → new_name (turned r.pairs) (new_name r.pairs name) ≡ name
  given_back name h = by (new_name_cases r.pairs name)
    where
      paired : (p : Bytes × Bytes) → IsAmong p r.pairs → ((q : Bytes × Bytes) × IsAmong q (turned r.pairs) × (q.0 ≡ p.1) × (new_name (turned r.pairs) p.1 ≡ q.1)) ⊎ ((IsAmong p.1 (olds (turned r.pairs)) → ⊥) × (new_name (turned r.pairs) p.1 ≡ p.1)) → new_name (turned r.pairs) p.1 ≡ p.0
      paired p k (inl t) = t.3 ∙ one_pair r.pairs ((t.0).1, (t.0).0) p r.news_distinct (turned_among r.pairs t.0 t.1) k t.2
      paired p k (inr t) = absurd (t.0 (subst (IsAmong p.1) (sym (turned_olds r.pairs)) (new_among r.pairs p k)))

      stays : (IsAmong name (olds r.pairs) → ⊥) → ((q : Bytes × Bytes) × IsAmong q (turned r.pairs) × (q.0 ≡ name) × (new_name (turned r.pairs) name ≡ q.1)) ⊎ ((IsAmong name (olds (turned r.pairs)) → ⊥) × (new_name (turned r.pairs) name ≡ name)) → new_name (turned r.pairs) name ≡ name
      stays absent (inl t) = absurd (absent (subst (IsAmong name) (sym r.olds_are_xrefs) (⊎_elim (λ x. x) (λ k. r.no_other_names_a_new name k (subst (λ n. IsAmong n (news r.pairs)) t.2 (new_among r.pairs ((t.0).1, (t.0).0) (turned_among r.pairs t.0 t.1)))) h)))
      stays absent (inr t) = t.1

      by : ((p : Bytes × Bytes) × IsAmong p r.pairs × (p.0 ≡ name) × (new_name r.pairs name ≡ p.1)) ⊎ ((IsAmong name (olds r.pairs) → ⊥) × (new_name r.pairs name ≡ name)) → new_name (turned r.pairs) (new_name r.pairs name) ≡ name
      by (inl s) = ap (new_name (turned r.pairs)) s.3 ∙ paired s.0 s.1 (new_name_cases (turned r.pairs) (s.0).1) ∙ s.2
      by (inr s) = ap (new_name (turned r.pairs)) s.1 ∙ stays s.0 (new_name_cases (turned r.pairs) name)

  olds_apart : AreDistinct (olds r.pairs)
  olds_apart = subst AreDistinct (sym r.olds_are_xrefs) r.olds_distinct

  pub new_xrefs : xrefs e ≡ news r.pairs
  new_xrefs = ap xrefs r.all_at_once ∙ xrefs_renamed (new_name r.pairs) d ∙ ap (map (new_name r.pairs)) (sym r.olds_are_xrefs) ∙ all_new r.pairs olds_apart

  no_other : (name : Bytes) → IsNamed e name → IsAmong name (olds r.pairs) → IsAmong name (news r.pairs)
  no_other name h k = by (names_was (new_name r.pairs) name d (subst (λ x. IsNamed x name) r.all_at_once h))
    where
      by : (old : Bytes) × IsNamed d old × (name ≡ new_name r.pairs old) → IsAmong name (news r.pairs)
      by o = ⊎_elim
          (λ s. subst (λ n. IsAmong n (news r.pairs)) (sym (o.2 ∙ s.3)) (new_among r.pairs s.0 s.1))
          (λ s. absurd (s.0 (subst (λ n. IsAmong n (olds r.pairs)) (o.2 ∙ s.1) k)))
          (new_name_cases r.pairs o.0)

  pub renamed_back : Renamed e d
  renamed_back = record {
    pairs = turned r.pairs;
    olds_are_xrefs = turned_olds r.pairs ∙ sym new_xrefs;
    olds_distinct = subst AreDistinct (sym new_xrefs) r.news_distinct;
    news_distinct = subst AreDistinct (sym (turned_news r.pairs)) olds_apart;
    no_other_names_a_new = λ name h k. subst (IsAmong name) (sym new_xrefs) (no_other name h (subst (IsAmong name) (turned_news r.pairs) k));
    all_at_once = sym (ap (renamed (new_name (turned r.pairs))) r.all_at_once ∙ renamed_twice (new_name r.pairs) (new_name (turned r.pairs)) (λ n. n) d (λ name m. given_back name (mentions_has d name bare m)) ∙ trees_alone (λ n. n) (λ n. refl) d);
  }

pub step_back : (edition : Edition) (d e : Trees) → Step edition d e → Step edition e d
step_back edition d e h = record { from = h.to; to = h.from; move = by h.move }
  where
    by : Move edition d e → Move edition e d
    by (change k) = change (somewhere_back edition File d e k)
    by (rename k) = rename (renamed_back d e (document_bare d h.from) k)
    by (gain k) = lose k
    by (lose k) = gain k
