-- What the tests of a normal document's identifiers say.
use Rattle.std.proofs.Common.{◌≡◌, ℕ, suc, ◌+◌, ◌<◌, ◌^◌, Bool, true, List, ◌∷◌, map, decimal, Option, Some, None, slice_get, refl, sym, ap, ◌∙◌, subst, inl, inr, arith}
use Rattle.std.specs.Prelude.{◌↔◌, codes, is_none}
use Rattle.std.specs.Int.Digits.{digits_of}
use Rattle.std.specs.Str.{bytes_eq}
use Rattle.std.proofs.lemmas.Bool.{false≢true, and_parts}
use Rattle.std.proofs.lemmas.Fmt.{decimal-digits_of}
use Rattle.ged_line.specs.Bytes.{Bytes}
use Rattle.ged_tree.specs.Trees.{Structure, Trees, none, tree, records_of}
use Rattle.ged_tree.specs.Documents.{is_document}
use Rattle.ged_link.specs.Links.{IsAmong, xrefs, IsNamed, identifiers}
use Rattle.ged_link.specs.inner.Identifiers.{with_xref}
use Rattle.ged_schema.specs.declared.context.Context.TheVariants.{File}
use Rattle.ged_canon.specs.declared.edition.Edition.{Edition}
use Rattle.ged_canon.specs.Normal.{InOrder, AreNormal, AreNumbered, numbered, Normal}
use Rattle.ged_canon.specs.inner.Working.{HasOwnNumber, HaveOwnNumbers, xref_count}
use Rattle.ged_canon.proofs.theory.Texts.{same_bytes, equal_bytes}
use Rattle.ged_canon.proofs.theory.Heads.{parts}

-- a name that is X and what the number's digits spell is the numbered one
pub numbered_is : (name digits : Bytes) (n : ℕ) (result : Bool) → name ≡ 88 ∷ digits → result ≡ bytes_eq digits (decimal n) → 0 < n → n < 2 ^ 64 → (result ≡ true) ↔ (name ≡ numbered n)
numbered_is name digits n result cut told some small = (
  (λ t. cut ∙ ap (λ ds. 88 ∷ ds) (equal_bytes digits (decimal n) (sym told ∙ t) ∙ spelled)),
  (λ e. told ∙ same_bytes digits (decimal n) (rest digits (map (λ digit. 48 + digit) (digits_of 10 n)) (sym cut ∙ e) ∙ sym spelled)),
)
  where
    spelled : decimal n ≡ map (λ digit. 48 + digit) (digits_of 10 n)
    spelled = decimal-digits_of n some small

    rest : (xs ys : Bytes) → ◌≡◌ {A = Bytes} (88 ∷ xs) (88 ∷ ys) → xs ≡ ys
    rest xs ys e = cc

module _ (d : Trees) where
  abbrev all : List (Option Bytes)
  all = identifiers (records_of d)

  -- the trees are the document's records from this number on
  abbrev StandFrom : ℕ → Trees → Type 0
  StandFrom number rs = (k : ℕ) → slice_get all (number + k) ≡ slice_get (identifiers rs) k

  stand_after : (number : ℕ) (s : Structure) (b next : Trees) → StandFrom number (tree s b next) → StandFrom (number + 1) next
  stand_after number s b next h k = let e : number + 1 + k ≡ number + suc k = omega arith in ap (slice_get all) e ∙ h (suc k)

  stands_first : (number : ℕ) (s : Structure) (b next : Trees) → StandFrom number (tree s b next) → slice_get all number ≡ Some s.xref
  stands_first number s b next h = let e : number ≡ number + 0 = omega arith in ap (slice_get all) e ∙ h 0

  same_number : (n number : ℕ) (next : Trees) → HaveOwnNumbers d (n + 0) number next → HaveOwnNumbers d n number next
  same_number n number next h = let e : n + 0 ≡ n = omega arith in subst (λ m. HaveOwnNumbers d m number next) e h

  numbers_from : (n number : ℕ) (rs : Trees) → HaveOwnNumbers d n number rs → AreNumbered n (xrefs rs)
  numbers_from n number none h = tt
  numbers_from n number (tree s b next) h = by s.xref (λ m. numbers_from m (number + 1) next) h.0 h.1
    where
      by : (x : Option Bytes) → ((m : ℕ) → HaveOwnNumbers d m (number + 1) next → AreNumbered m (xrefs next)) → HasOwnNumber d n number x → HaveOwnNumbers d (n + xref_count x) (number + 1) next → AreNumbered n (with_xref x (xrefs next))
      by None f own rest = f n (same_number n (number + 1) next rest)
      by (Some name) f own rest = (own.0, f (n + 1) rest)

  used_from : (n number : ℕ) (rs : Trees) → StandFrom number rs → HaveOwnNumbers d n number rs → (name : Bytes) → IsAmong name (xrefs rs) → IsNamed d name
  used_from n number none stand h name k = absurd k
  used_from n number (tree s b next) stand h name k = by s.xref (stands_first number s b next stand) (λ m. used_from m (number + 1) next (stand_after number s b next stand)) h.0 h.1 k
    where
      by : (x : Option Bytes) → slice_get all number ≡ Some x → ((m : ℕ) → HaveOwnNumbers d m (number + 1) next → (other : Bytes) → IsAmong other (xrefs next) → IsNamed d other)
          → HasOwnNumber d n number x → HaveOwnNumbers d (n + xref_count x) (number + 1) next → IsAmong name (with_xref x (xrefs next)) → IsNamed d name
      by None e f own rest k = f (n + 0) rest name k
      by (Some first) e f own rest (inl p) =
          let used = own.1 in
          let q : ◌≡◌ {A = Option (Option Bytes)} (Some (Some used.0)) (Some (Some first)) = sym used.1 ∙ e in
          let same : used.0 ≡ first = cc in
          subst (IsNamed d) (same ∙ sym p) used.2
      by (Some first) e f own rest (inr p) = f (n + 1) rest name p

  own_from : (n number : ℕ) (rs : Trees) → StandFrom number rs → AreNumbered n (xrefs rs) → ((name : Bytes) → IsAmong name (xrefs rs) → IsNamed d name) → HaveOwnNumbers d n number rs
  own_from n number none stand h used = tt
  own_from n number (tree s b next) stand h used = by s.xref (stands_first number s b next stand) (λ m. own_from m (number + 1) next (stand_after number s b next stand)) h used
    where
      by : (x : Option Bytes) → slice_get all number ≡ Some x → ((m : ℕ) → AreNumbered m (xrefs next) → ((name : Bytes) → IsAmong name (xrefs next) → IsNamed d name) → HaveOwnNumbers d m (number + 1) next)
          → AreNumbered n (with_xref x (xrefs next)) → ((name : Bytes) → IsAmong name (with_xref x (xrefs next)) → IsNamed d name) → HasOwnNumber d n number x × HaveOwnNumbers d (n + xref_count x) (number + 1) next
      by None e f numbered used = let m : n ≡ n + 0 = omega arith in (tt, f (n + 0) (subst (λ k. AreNumbered k (xrefs next)) m numbered) used)
      by (Some name) e f numbered used = ((numbered.0, (name, e, used name (inl refl))), f (n + 1) numbered.1 (λ other k. used other (inr k)))

no_identifier : (s : Structure) (b next : Trees) → is_document (tree s b next) ≡ true → s.xref ≡ None
no_identifier s b next h = by s.xref (and_parts (bytes_eq s.tag (codes "HEAD")) (is_none s.xref) (parts s b next h).head).1
  where
    by : (x : Option Bytes) → is_none x ≡ true → x ≡ None
    by None e = refl
    by (Some name) e = absurd (false≢true e)

module _ (edition : Edition) (s : Structure) (b next : Trees) (h : is_document (tree s b next) ≡ true) where
  same_xrefs : xrefs (tree s b next) ≡ xrefs next
  same_xrefs = ap (λ x. with_xref x (xrefs next)) (no_identifier s b next h)

  tree_normal : AreNormal edition File (tree s b next) → InOrder next → HaveOwnNumbers (tree s b next) 1 0 next → Normal edition (tree s b next)
  tree_normal places order own = record {
    places = places;
    records_in_order = order;
    xrefs_numbered = subst (AreNumbered 1) (sym same_xrefs) (numbers_from (tree s b next) 1 0 next own);
    xrefs_used = λ name k. used_from (tree s b next) 1 0 next (λ j. let e : 0 + j ≡ j = omega arith in ap (slice_get (identifiers next)) e) own name (subst (IsAmong name) same_xrefs k);
  }

  normal_numbers : Normal edition (tree s b next) → HaveOwnNumbers (tree s b next) 1 0 next
  normal_numbers k =
      own_from (tree s b next) 1 0 next (λ j. let e : 0 + j ≡ j = omega arith in ap (slice_get (identifiers next)) e)
      (subst (AreNumbered 1) same_xrefs k.xrefs_numbered) (λ name m. k.xrefs_used name (subst (IsAmong name) (sym same_xrefs) m))

module _ (edition : Edition) (d : Trees) (s : Structure) (b next : Trees) (is : d ≡ tree s b next) (h : is_document d ≡ true) where
  pub normal_from : AreNormal edition File d → InOrder next → HaveOwnNumbers d 1 0 next → Normal edition d
  normal_from = subst (λ x. is_document x ≡ true → AreNormal edition File x → InOrder next → HaveOwnNumbers x 1 0 next → Normal edition x) (sym is) (tree_normal edition s b next) h

  pub order_from : Normal edition d → InOrder next
  order_from k = subst (λ x. InOrder (records_of x)) is k.records_in_order

  pub numbers_of_normal : Normal edition d → HaveOwnNumbers d 1 0 next
  numbers_of_normal = subst (λ x. is_document x ≡ true → Normal edition x → HaveOwnNumbers x 1 0 next) (sym is) (normal_numbers edition s b next) h

-- a document is what is seen of it as the run of all its trees
pub seen_as : (d whole t : Trees) → whole ≡ d → whole ≡ t → d ≡ t
seen_as d whole t same first = sym same ∙ first
