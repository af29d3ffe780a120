-- Worked documents, computed.
use Rattle.std.proofs.Common.{◌≡◌, Bool, true, false, [], ◌∷◌, Option, Some, None, refl, ap, codes, inl, inr}
use Rattle.std.specs.Str.{bytes_eq, is_utf8, chars}
use Rattle.std.proofs.lemmas.Bool.{true≢false, false≢true}
use Rattle.ged_line.specs.Bytes.{Bytes}
use Rattle.ged_tree.specs.declared.payload.Payload.{Payload}
use Rattle.ged_tree.specs.declared.payload.Payload.TheVariants.{Pointer, Text}
use Rattle.ged_tree.specs.Trees.{Structure, Trees, none, tree, records_of}
use Rattle.ged_tree.specs.Documents.{is_document}
use Rattle.ged_link.specs.Notices.{Link, OneWay}
use Rattle.ged_schema.specs.Tables.{row, rows}
use Rattle.ged_canon.specs.declared.edition.Edition.TheVariants.{First, Second}
use Rattle.ged_canon.specs.Steps.{gains, after, lose, done, then, Equivalent}
use Rattle.ged_canon.specs.inner.Working.{canon, falls}
use Rattle.ged_canon.proofs.theory.Fixed.{is_named-true}
use Rattle.ged_canon.proofs.theory.Unique.{canon_equivalent}

abbrev empty : Payload
empty = Text ([] ∷ [])

abbrev line : Bytes → Payload
line bytes = Text (bytes ∷ [])

-- a structure, what stands below it, and what stands after it
abbrev node : Bytes → Payload → Trees → Trees → Trees
node tag payload below next = tree (record { xref = None; tag = tag; payload = payload }) below next

-- a record
abbrev rec : Option Bytes → Bytes → Trees → Trees → Trees
rec xref tag below next = tree (record { xref = xref; tag = tag; payload = empty }) below next

-- a document with these records
abbrev doc : Trees → Trees
doc records = node (codes "HEAD") empty (node (codes "GEDC") empty (node (codes "VERS") (line (codes "7.0")) none none) none) records

abbrev couple : Trees
couple = doc (rec (Some (codes "X1")) (codes "INDI") (node (codes "FAMS") (Pointer (codes "X2")) none none) (rec (Some (codes "X2")) (codes "FAM") (node (codes "HUSB") (Pointer (codes "X1")) none none) none))

abbrev family : Trees
family = doc (rec (Some (codes "X1")) (codes "FAM") (node (codes "HUSB") (Pointer (codes "X2")) none none) (rec (Some (codes "X2")) (codes "INDI") (node (codes "FAMS") (Pointer (codes "X1")) none none) none))

-- a document, and what isn't one
a_document : is_document couple ≡ true
unfolding is_utf8 chars lib.Utf8.encode
a_document = refl

no_head_first : is_document (records_of couple) ≡ false
unfolding is_utf8 chars lib.Utf8.encode
no_head_first = refl

two_heads : is_document (doc (doc none)) ≡ false
unfolding is_utf8 chars lib.Utf8.encode
two_heads = refl

identifier_below : is_document (doc (rec None (codes "FAM") (rec (Some (codes "X")) (codes "HUSB") none none) none)) ≡ false
unfolding is_utf8 chars lib.Utf8.encode
identifier_below = refl

void_identifier : is_document (doc (rec (Some (codes "VOID")) (codes "FAM") none none)) ≡ false
unfolding is_utf8 chars lib.Utf8.encode
void_identifier = refl

-- identifiers are numbered crosswise
crosswise : canon First couple ≡ family
unfolding falls row rows
crosswise = refl

-- a pointer to its own record is use; HEAD stays before FAM, and GEDC before ABC
itself : canon First (doc (rec (Some (codes "I")) (codes "INDI") (node (codes "GEDC") (Pointer (codes "I")) none (node (codes "ABC") empty none none)) (rec (Some (codes "F")) (codes "FAM") none none)))
    ≡ doc (rec None (codes "FAM") none (rec (Some (codes "X1")) (codes "INDI") (node (codes "GEDC") (Pointer (codes "X1")) none (node (codes "ABC") empty none none)) none))
unfolding falls row rows
itself = refl

-- an identifier that no pointer names is dropped, by one step
unused_is_dropped : Equivalent First (doc (rec (Some (codes "I1")) (codes "INDI") none none)) (doc (rec None (codes "INDI") none none))
unfolding is_utf8 chars lib.Utf8.encode
unused_is_dropped =
    let person : Structure = record { xref = None; tag = codes "INDI"; payload = empty } in
    then (record {
      from = refl;
      to = refl;
      move = lose (record {
        name = codes "I1";
        no_record_has_it = λ h. h;
        no_pointer_names_it = λ h. false≢true (is_named-true (doc (rec None (codes "INDI") none none)) (codes "I1") h);
        gained = after _ _ (gains person none none);
      });
    }) done

-- a birth with a checked date and an unchecked one
abbrev born : Bytes → Bytes → Trees
born date other = doc (rec None (codes "INDI") (node (codes "BIRT") empty (node (codes "DATE") (line date) none none) (node (codes "_D") (line other) none none)) none)

calendars : canon First (born (codes "BET GREGORIAN 01 JAN 1900 AND GREGORIAN 1901") (codes "GREGORIAN 01 JAN 0900")) ≡ born (codes "BET 01 JAN 1900 AND 1901") (codes "GREGORIAN 01 JAN 0900")
unfolding falls row rows
calendars = refl

zeros : canon Second (born (codes "BET GREGORIAN 01 JAN 0900 AND 000") (codes "GREGORIAN 01 JAN 0900")) ≡ born (codes "BET 1 JAN 900 AND 0") (codes "GREGORIAN 01 JAN 0900")
unfolding falls row rows
zeros = refl

-- structures with one tag keep their order
abbrev named : Bytes → Bytes → Trees
named a b = doc (rec None (codes "INDI") (node (codes "NAME") (line a) none (node (codes "NAME") (line b) none none)) none)

is_line : Bytes → Payload → Bool
is_line bytes (Text (l ∷ ls)) = bytes_eq bytes l
is_line bytes payload = false

first_name_is : Bytes → Trees → Bool
first_name_is bytes (tree h g (tree r (tree s b n) m)) = is_line bytes s.payload
first_name_is bytes d = false

order_is_meaning : Equivalent First (named (codes "Ann") (codes "Bea")) (named (codes "Bea") (codes "Ann")) → ⊥
unfolding falls row rows first_name_is is_line
order_is_meaning h = true≢false (ap (first_name_is (codes "Ann")) (canon_equivalent First (named (codes "Ann") (codes "Bea")) (named (codes "Bea") (codes "Ann")) h))

-- a link that is not answered
one_direction : OneWay (doc (rec (Some (codes "I")) (codes "INDI") (node (codes "FAMS") (Pointer (codes "F")) none none) (rec (Some (codes "F")) (codes "FAM") none none)))
one_direction =
    let to_family : Link = record { at = codes "INDI"; tag = codes "FAMS"; to = codes "FAM"; answers = codes "HUSB" ∷ (codes "WIFE" ∷ []) } in
    inr (inl (inl (to_family, inl refl, (refl, refl, codes "F", refl, inr (inr (inl (refl, refl, λ h. h)))))))
