-- A document has one list of notices.
use Rattle.std.proofs.Common.{◌≡◌, List, [], ◌∷◌, ◌++◌, inl, inr, refl, sym, ap, ◌∙◌, arith, codes}
use Rattle.ged_line.specs.Bytes.{line_feed}
use Rattle.ged_link.specs.Links.{IsAmong}
use Rattle.ged_link.specs.Notices.{AreRising}
use Rattle.ged_link.specs.declared.notices.Notice.{Notice}
use Rattle.ged_accept.specs.Notices.{lines_told, notice_lines}
use Rattle.ged_accept.specs.Laws.{OneListOfNotices, OneVerdict}
use Rattle.ged_accept.proofs.Noticing.{rising_below}

-- what stands behind the first notice of a rising list is not that notice
behind_first : (x y : Notice) (xs ys : List Notice) (n : Notice) → AreRising (lines_told (x ∷ xs)) → x ≡ y → IsAmong n xs → IsAmong n (y ∷ ys) → IsAmong n ys
behind_first x y xs ys n rising same among (inl first) =
    let e : n.line ≡ x.line = ap (λ (m : Notice). m.line) (first ∙ sym same) in absurd (omega (arith, e, rising_below x xs rising n among))
behind_first x y xs ys n rising same among (inr later) = later

same_first : (x y : Notice) (xs ys : List Notice) → AreRising (lines_told (x ∷ xs)) → AreRising (lines_told (y ∷ ys)) → IsAmong x (y ∷ ys) → IsAmong y (x ∷ xs) → x ≡ y
same_first x y xs ys h k (inl e) back = e
same_first x y xs ys h k (inr p) (inl e) = sym e
same_first x y xs ys h k (inr p) (inr q) = absurd (omega (arith, rising_below y ys k x p, rising_below x xs h y q))

-- lists of the same notices, each with its lines rising, are the same
same_list : (xs ys : List Notice) → AreRising (lines_told xs) → AreRising (lines_told ys) → ((n : Notice) → IsAmong n xs → IsAmong n ys)
    → ((n : Notice) → IsAmong n ys → IsAmong n xs) → xs ≡ ys
same_list [] [] h k there back = refl
same_list [] (y ∷ ys) h k there back = absurd (back y (inl refl))
same_list (x ∷ xs) [] h k there back = absurd (there x (inl refl))
same_list (x ∷ xs) (y ∷ ys) h k there back =
    let same : x ≡ y = same_first x y xs ys h k (there x (inl refl)) (back y (inl refl)) in
    let rest : xs ≡ ys = same_list xs ys h.1 k.1
    (λ n among. behind_first x y xs ys n h same among (there n (inr among)))
    (λ n among. behind_first y x ys xs n k (sym same) among (back n (inr among))) in
    rw (same, rest) refl

pub one_list : OneListOfNotices
one_list document notices others h k =
    same_list notices others h.rising k.rising (λ n among. (k.each n).1 ((h.each n).0 among)) (λ n among. (h.each n).1 ((k.each n).0 among))

pub one_verdict : OneVerdict
one_verdict document text other (notices, h, e) (others, k, e') =
    e ∙ ap (λ (xs : List Notice). notice_lines xs ++ (codes "accepted" ++ line_feed ∷ [])) (one_list document notices others h k) ∙ sym e'
