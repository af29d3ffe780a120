-- The bytes of parts, and what is spelled before bytes that are left.
use Rattle.std.proofs.Common.{◌≡◌, ◌-◌, List, [], ◌∷◌, ◌++◌, length, take, drop, refl, sym, ◌∙◌, ap, arith, length-append}
use Rattle.std.proofs.lemmas.List.{append-nil, append_assoc}
use Rattle.std.proofs.Math.Seq.{take-append_seam, drop-append_seam}
use Rattle.ged_line.specs.Bytes.{Bytes}
use Rattle.ged_line.specs.Files.{joined_parts}
use Rattle.ged_line.specs.declared.file.spelled_part.SpelledPart.{SpelledPart}

-- a part behind others
pub joined-push : (parts : List SpelledPart) (part : SpelledPart) → joined_parts (parts ++ (part ∷ [])) ≡ joined_parts parts ++ (part.made.items ++ part.kept.now)
joined-push [] part = ap (λ x. part.made.items ++ x) (append-nil part.kept.now)
joined-push (p ∷ parts) part =
    ap (λ x. p.made.items ++ (p.kept.now ++ x)) (joined-push parts part)
    ∙ ap (λ x. p.made.items ++ x) (sym (append_assoc p.kept.now (joined_parts parts) (part.made.items ++ part.kept.now)))
    ∙ sym (append_assoc p.made.items (p.kept.now ++ joined_parts parts) (part.made.items ++ part.kept.now))

-- what was made is closed with a slice behind it
pub joined-closed : (parts new : List SpelledPart) (part : SpelledPart) (made now text kept : Bytes)
    → new ≡ parts ++ (part ∷ []) → part.made.items ≡ made → part.kept.now ≡ kept → now ≡ [] → text ≡ joined_parts parts ++ made → joined_parts new ++ now ≡ text ++ kept
joined-closed parts new part made now text kept n m k e t =
    let closed : joined_parts new ≡ joined_parts parts ++ (made ++ kept) = ap joined_parts n ∙ joined-push parts part ∙ ap (λ x. joined_parts parts ++ (x ++ part.kept.now)) m ∙ ap (λ x. joined_parts parts ++ (made ++ x)) k in
    ap (λ x. joined_parts new ++ x) e ∙ append-nil (joined_parts new) ∙ closed ∙ sym (append_assoc (joined_parts parts) made kept) ∙ ap (λ x. x ++ kept) (sym t)

-- the same where nothing is made behind it
pub joined-all : (parts new : List SpelledPart) (part : SpelledPart) (made text kept : Bytes)
    → new ≡ parts ++ (part ∷ []) → part.made.items ≡ made → part.kept.now ≡ kept → text ≡ joined_parts parts ++ made → joined_parts new ≡ text ++ kept
joined-all parts new part made text kept n m k t = sym (append-nil (joined_parts new)) ∙ joined-closed parts new part made [] text kept n m k refl t

before_rest : (front rest : Bytes) → length (front ++ rest) - length rest ≡ length front
before_rest front rest = omega (arith, length-append front rest)

-- what stands before the rest, and the rest, by their lengths
pub take_front : (front rest : Bytes) → take (length (front ++ rest) - length rest) (front ++ rest) ≡ front
take_front front rest = rw (before_rest front rest) (take-append_seam front rest)

pub drop_front : (front rest : Bytes) → drop (length (front ++ rest) - length rest) (front ++ rest) ≡ rest
drop_front front rest = rw (before_rest front rest) (drop-append_seam front rest)
