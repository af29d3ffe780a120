-- A document's cross-references are resolved or have one first fault.
use Rattle.std.proofs.Common.{◌≡◌, ℕ, zero, suc, ◌+◌, ◌<◌, true, inl, inr, ◌∙◌, sym, ap, arith, ◌↔◌, refl, Some, subst}
use Rattle.std.proofs.lemmas.Bool.{cases_lt}
use Rattle.ged_line.specs.Bytes.{Bytes}
use Rattle.ged_tree.specs.Trees.{Trees}
use Rattle.ged_tree.specs.Documents.{is_document}
use Rattle.ged_tree.specs.Places.{line_at, structure_at}
use Rattle.ged_link.specs.declared.fault.LinkFault.{LinkFault}
use Rattle.ged_link.specs.declared.fault.LinkFault.TheVariants.{Duplicate, Dangling, Memory}
use Rattle.ged_link.specs.Links.{IsAmong, SomeTree, xrefs, Resolved}
use Rattle.ged_link.specs.LinkFaults.{HasXref, IsLowest, IsRepeated, IsDangling, HasLinkFault}
use Rattle.ged_link.proofs.LinkLemmas.{tree_tag, tag_tree, one_xref, document_level, at_named, named_at, at_xref, xref_at, distinct_unrepeated, unrepeated_distinct, among_or_not}

-- where no number is the lowest that has P, none has P
pub lowest_none : (P : ℕ → Type 0) → ((n : ℕ) → IsLowest P n → ⊥) → (n : ℕ) → P n → ⊥
lowest_none P none n p = go (n + 1) n (omega arith) p
  where
    go : (k m : ℕ) → m < k → P m → ⊥
    go zero m h p = absurd (omega (arith, h))
    go (suc k) m h p = none m (p, λ other q. elim (cases_lt other m) [ inl below ↦ absurd (go k other (omega (arith, h, below)) q) | inr above ↦ above ])

pub one_lowest : (P : ℕ → Type 0) (n m : ℕ) → IsLowest P n → IsLowest P m → n ≡ m
one_lowest P n m h k = omega (arith, h.1 m k.0, k.1 n h.0)

pub resolved_none : (d : Trees) → is_document d ≡ true → Resolved d → (fault : LinkFault) → HasLinkFault d fault → ⊥
resolved_none d doc r (Duplicate line) h = distinct_unrepeated d (document_level d doc) r.distinct h.0 h.1.0
resolved_none d doc r (Dangling line) h =
    let bad = h.1.1.0 in
    let there = xref_at d bad.0 (r.found bad.0 (at_named d h.1.0 bad.0 bad.1)) in
    bad.2 there.0 there.1
resolved_none d doc r (Memory e) h = h

-- where no identifier is repeated and no pointer dangles, all are resolved
pub resolved_of : (d : Trees) → is_document d ≡ true → ((place : ℕ) → IsRepeated d place → ⊥) → ((place : ℕ) → IsDangling d place → ⊥) → Resolved d
resolved_of d doc unrepeated undangling = record {
  distinct = unrepeated_distinct d unrepeated;
  found = λ name h. elim (among_or_not name (xrefs d)) [
    | inl among ↦ among
    | inr missing ↦ (let at = named_at d name h in absurd (undangling at.0 (name, at.1, λ other k. missing (at_xref d (document_level d doc) other name k))))
  ];
}

pub faultless : (d : Trees) → is_document d ≡ true → Resolved d ↔ ((fault : LinkFault) → HasLinkFault d fault → ⊥)
faultless d doc = (
  resolved_none d doc,
  λ sound.
      let unrepeated : (place : ℕ) → IsRepeated d place → ⊥ = lowest_none (IsRepeated d) (λ place h. sound (Duplicate (line_at 1 d place)) (place, h, refl)) in
      resolved_of d doc unrepeated (lowest_none (IsDangling d) (λ place h. sound (Dangling (line_at 1 d place)) (unrepeated, (place, h, refl)))),
)

pub one_fault : (d : Trees) (fault other : LinkFault) → HasLinkFault d fault → HasLinkFault d other → fault ≡ other
one_fault d (Duplicate line) (Duplicate next) h k = ap Duplicate (h.2 ∙ ap (line_at 1 d) (one_lowest (IsRepeated d) h.0 k.0 h.1 k.1) ∙ sym k.2)
one_fault d (Duplicate line) (Dangling next) h k = absurd (k.0 h.0 h.1.0)
one_fault d (Dangling line) (Duplicate next) h k = absurd (h.0 k.0 k.1.0)
one_fault d (Dangling line) (Dangling next) h k = ap Dangling (h.1.2 ∙ ap (line_at 1 d) (one_lowest (IsDangling d) h.1.0 k.1.0 h.1.1 k.1.1) ∙ sym k.1.2)
one_fault d (Memory e) other h k = absurd h
one_fault d fault (Memory e) h k = absurd k

pub identifiers_placed : (d : Trees) → is_document d ≡ true → (name : Bytes) → IsAmong name (xrefs d) ↔ ((place : ℕ) × HasXref d place name)
identifiers_placed d doc name = (xref_at d name, λ h. at_xref d (document_level d doc) h.0 name h.1)

pub one_record : (d : Trees) → is_document d ≡ true → Resolved d → (place : ℕ) (name tag : Bytes) → HasXref d place name →
    ((structure_at d place).tag ≡ tag) ↔ SomeTree (λ s below. (s.xref ≡ Some name) × (s.tag ≡ tag)) d
one_record d doc r place name tag h = (
  tree_tag d (document_level d doc) place name tag h,
  λ some.
      let k = tag_tree d name tag some in
      let same : k.0 ≡ place = one_xref d (document_level d doc) r.distinct k.0 place name k.1 h in
      subst (λ p. (structure_at d p).tag ≡ tag) same k.2,
)
