-- Pointers that lead to such records as their tags say.
use Rattle.std.proofs.Common.{◌≡◌, ◌↔◌, ℕ, ◌+◌, ◌<◌, ◌≤◌, true, false, Bool, ◌&&◌, Option, Some, None, option_map, slice_index_or, IfSome, IsTrue, inl, inr, refl, sym, ap, subst, ◌∙◌, arith}
use Rattle.std.proofs.lemmas.Bool.{cases_lt}
use Rattle.ged_line.specs.Bytes.{Bytes}
use Rattle.ged_tree.specs.Trees.{Structure, Trees, none, tree, trees_count}
use Rattle.ged_tree.specs.Places.{structure_at}
use Rattle.ged_tree.specs.declared.payload.Payload.{Payload}
use Rattle.ged_tree.specs.declared.payload.Payload.TheVariants.{Void, Pointer, Text}
use Rattle.ged_link.specs.declared.index.RecordPlace.{RecordPlace}
use Rattle.ged_link.specs.declared.pointers.Records.{Records}
use Rattle.ged_link.specs.declared.record_type.RecordType.{RecordType}
use Rattle.ged_link.specs.Links.{SomeTree}
use Rattle.ged_link.specs.LedByTags.{led_by, IsLed, AreLed}
use Rattle.ged_link.specs.RecordTypes.{record_tag}
use Rattle.ged_link.specs.Indexes.{found_in, place_in}
use Rattle.ged_link.specs.inner.Resolving.{AreKnown, AreLedBefore, LeadsAsTagged}
use Rattle.ged_link.proofs.LinkLemmas.{tree_tag, tag_tree, document_level}
use Rattle.ged_link.proofs.TypeLemmas.{one_place}
use Rattle.ged_link.proofs.OneWayLemmas.{IsPart, whole_part, part_next, part_first}
use Rattle.ged_link.proofs.PlaceCases.{at_below}

-- a payload that is no pointer leads nowhere
not_led : (d : Trees) (tag : Bytes) (p : Payload) → ((name : Bytes) → p ≡ Pointer name → ⊥) → IsLed d tag p
not_led d tag Void other = tt
not_led d tag (Pointer name) other = absurd (other name refl)
not_led d tag (Text lines) other = tt

module _ (d : Trees) (records : Records) (tag name : Bytes) (found : RecordPlace) (are : AreKnown d records) (is : found_in records.names.now name ≡ Some found) where
  abbrev known : Option RecordType
  known = slice_index_or records.types.now found.number None

  -- the record of the document that has the name has this tag
  abbrev Tagged : Bytes → Type 0
  Tagged wanted = SomeTree (λ s below. (s.xref ≡ Some name) × (s.tag ≡ wanted)) d

  placed : place_in records.names.now name ≡ Some found.place
  placed = ap (option_map (λ (r : RecordPlace). r.place)) is

  tagged_so : (kind : RecordType) → known ≡ Some kind → Tagged (record_tag kind)
  tagged_so kind typed =
      tree_tag d (document_level d are.document) found.place name (record_tag kind) ((are.named.placed name found.place).0 placed) ((are.typed name found is kind).0 typed)

  typed_so : (kind : RecordType) → Tagged (record_tag kind) → known ≡ Some kind
  typed_so kind tagged =
      let (place, here, of) = tag_tree d name (record_tag kind) tagged in
      (are.typed name found is kind).1 (subst (λ (place : ℕ). (structure_at d place).tag ≡ record_tag kind) (one_place place found.place (sym ((are.named.placed name place).1 here) ∙ placed)) of)

  -- a pointer that names the record is led as its tag says where the record's type is the one that the tag says
  pub led_here : (flag : Bool) (p : Payload) → p ≡ Pointer name → LeadsAsTagged flag (led_by tag) known → IsTrue flag ↔ IsLed d tag p
  led_here flag p here (kind, same, told) = subst (λ (p : Payload). IsTrue flag ↔ IsLed d tag p) (sym here) (subst (λ wanted. IsTrue flag ↔ IfSome wanted Tagged) same (go kind told))
    where
      go : (kind : Option RecordType) → (IsTrue flag ↔ IfSome kind (λ kind. known ≡ Some kind)) → IsTrue flag ↔ IfSome (option_map record_tag kind) Tagged
      go None told = told
      go (Some kind) told = (λ yes. tagged_so kind (told.0 yes), λ tagged. told.1 (typed_so kind tagged))

-- one more structure
led_more : (d : Trees) (place : ℕ) → IsLed d (structure_at d place).tag (structure_at d place).payload → AreLedBefore d place → AreLedBefore d (place + 1)
led_more d place here before other h = elim (cases_lt other place) [
  | inl earlier ↦ before other earlier
  | inr past ↦ (let e : other ≡ place = omega arith in rw e here)
]

both_led : (led here : Bool) → led && here ≡ true → (led ≡ true) × (here ≡ true)
both_led true here e = (refl, e)
both_led false here e = cc

-- a flag that has told of the structures before tells of one more
pub tells_more : (d : Trees) (place : ℕ) (told here : Bool) → (IsTrue told ↔ AreLedBefore d place) → (IsTrue here ↔ IsLed d (structure_at d place).tag (structure_at d place).payload)
    → IsTrue (told && here) ↔ AreLedBefore d (place + 1)
tells_more d place told here before leads = (
  λ both. let (first, second) = both_led told here both in led_more d place (leads.0 second) (before.0 first),
  λ all. are_both told here (before.1 (λ other h. all other (omega (arith, h)))) (leads.1 (all place (omega arith))),
)
  where
    are_both : (led here : Bool) → led ≡ true → here ≡ true → led && here ≡ true
    are_both led here e f = cc

-- the structure is no pointer, of which nothing is asked
pub tells_on : (d : Trees) (place : ℕ) (told : Bool) → ((name : Bytes) → (structure_at d place).payload ≡ Pointer name → ⊥) → (IsTrue told ↔ AreLedBefore d place) → IsTrue told ↔ AreLedBefore d (place + 1)
tells_on d place told other before = (
  λ is. led_more d place (not_led d (structure_at d place).tag (structure_at d place).payload other) (before.0 is),
  λ all. before.1 (λ earlier h. all earlier (omega (arith, h))),
)

-- all structures of a document
part_below : (d : Trees) (k : ℕ) (s : Structure) (b n : Trees) → IsPart d k (tree s b n) → IsPart d (k + 1) b
part_below d k s b n part = record {
  same = λ i h. (
      let z : k + 1 + i ≡ k + (1 + i) = omega arith in
      rw z (part.same (1 + i) (omega (arith, h)) ∙ at_below s b n i h));
  fits = omega (arith, part.fits);
}

led_part : (d : Trees) (k : ℕ) (t : Trees) → AreLedBefore d (trees_count d) → IsPart d k t → AreLed d t
led_part d k none before part = tt
led_part d k (tree s b n) before part = (
  subst (λ (s : Structure). IsLed d s.tag s.payload) (part_first d k s b n part) (before k (omega (arith, part.fits))),
  (led_part d (k + 1) b before (part_below d k s b n part), led_part d (k + 1 + trees_count b) n before (part_next d k s b n part)),
)

part_led : (d : Trees) (k : ℕ) (t : Trees) → IsPart d k t → AreLed d t → (other : ℕ) → k ≤ other → other < k + trees_count t → IsLed d (structure_at d other).tag (structure_at d other).payload
part_led d k none part led other from to = absurd (omega (arith, from, to))
part_led d k (tree s b n) part (here, (below, next)) other from to = elim (cases_lt k other) [
  | inr first ↦ (let e : other ≡ k = omega (arith, from, first) in rw e (subst (λ (s : Structure). IsLed d s.tag s.payload) (sym (part_first d k s b n part)) here))
  | inl past ↦ elim (cases_lt other (k + 1 + trees_count b)) [
    | inl within ↦ part_led d (k + 1) b (part_below d k s b n part) below other (omega (arith, past)) (omega (arith, within))
    | inr beyond ↦ part_led d (k + 1 + trees_count b) n (part_next d k s b n part) next other (omega (arith, beyond)) (omega (arith, to))
  ]
]

pub led_all : (d : Trees) (place : ℕ) → place ≡ trees_count d → AreLedBefore d place ↔ AreLed d d
led_all d place all = (
  λ before. led_part d 0 d (subst (AreLedBefore d) all before) (whole_part d),
  λ led other h. part_led d 0 d (whole_part d) led other (omega arith) (omega (arith, h, all)),
)
