-- The notices of a document, merged of those of its links and those of its tags.
use Rattle.std.proofs.Common.{◌≡◌, ◌≢◌, ℕ, ◌<◌, List, [], ◌∷◌, ◌⊎◌, inl, inr, refl, sym, ap, ◌∙◌, arith, map, subst}
use Rattle.ged_tree.specs.Trees.{Trees, trees_count}
use Rattle.ged_tree.specs.Places.{line_at}
use Rattle.ged_link.specs.Links.{IsAmong}
use Rattle.ged_link.specs.Notices.{AreRising, AreOneWayNotices, one_way_notice}
use Rattle.ged_link.specs.declared.notices.Notice.{Notice}
use Rattle.ged_link.proofs.CallerLemmas.{one_way_within}
use Rattle.ged_schema.specs.declared.context.Context.TheVariants.{File}
use Rattle.ged_schema.specs.Unlisted.{Unlisted, AreUnlisted, AreUnlistedNotices, unlisted_notice}
use Rattle.ged_schema.proofs.CallerLemmas.{unlisted_within, unlisted_has_place, lower_line, one_notice}
use Rattle.ged_accept.specs.inner.Merges.{IsMerge, first_left, second_left, from_first, from_second}
use Rattle.ged_accept.specs.Notices.{lines_told, AreNotices}

-- ---- what is among mapped lists

among_map : {X Y : Type 0} (f : X → Y) (y : Y) (xs : List X) → IsAmong y (map f xs) → (x : X) × IsAmong x xs × (y ≡ f x)
among_map f y [] h = absurd h
among_map f y (x ∷ xs) (inl e) = (x, inl refl, e)
among_map f y (x ∷ xs) (inr h) = let (z, among, e) = among_map f y xs h in (z, inr among, e)

map_among : {X Y : Type 0} (f : X → Y) (x : X) (xs : List X) → IsAmong x xs → IsAmong (f x) (map f xs)
map_among f x [] h = absurd h
map_among f x (y ∷ xs) (inl e) = inl (ap f e)
map_among f x (y ∷ xs) (inr h) = inr (map_among f x xs h)

-- ---- merged lists

merge_has : (n : Notice) (xs ys zs : List Notice) → IsMerge xs ys zs → IsAmong n zs → IsAmong n xs ⊎ IsAmong n ys
merge_has n _ _ _ (first_left xs) h = inl h
merge_has n _ _ _ (second_left ys) h = inr h
merge_has n _ _ _ (from_first x y xs ys zs low m) (inl e) = inl (inl e)
merge_has n _ _ _ (from_first x y xs ys zs low m) (inr h) = elim (merge_has n xs (y ∷ ys) zs m h) [ inl k ↦ inl (inr k) | inr k ↦ inr k ]
merge_has n _ _ _ (from_second x y xs ys zs low m) (inl e) = inr (inl e)
merge_has n _ _ _ (from_second x y xs ys zs low m) (inr h) = elim (merge_has n (x ∷ xs) ys zs m h) [ inl k ↦ inl k | inr k ↦ inr (inr k) ]

first_in_merge : (n : Notice) (xs ys zs : List Notice) → IsMerge xs ys zs → IsAmong n xs → IsAmong n zs
first_in_merge n _ _ _ (first_left xs) h = h
first_in_merge n _ _ _ (second_left ys) h = absurd h
first_in_merge n _ _ _ (from_first x y xs ys zs low m) (inl e) = inl e
first_in_merge n _ _ _ (from_first x y xs ys zs low m) (inr h) = inr (first_in_merge n xs (y ∷ ys) zs m h)
first_in_merge n _ _ _ (from_second x y xs ys zs low m) h = inr (first_in_merge n (x ∷ xs) ys zs m h)

second_in_merge : (n : Notice) (xs ys zs : List Notice) → IsMerge xs ys zs → IsAmong n ys → IsAmong n zs
second_in_merge n _ _ _ (first_left xs) h = absurd h
second_in_merge n _ _ _ (second_left ys) h = h
second_in_merge n _ _ _ (from_first x y xs ys zs low m) h = inr (second_in_merge n xs (y ∷ ys) zs m h)
second_in_merge n _ _ _ (from_second x y xs ys zs low m) (inl e) = inl e
second_in_merge n _ _ _ (from_second x y xs ys zs low m) (inr h) = inr (second_in_merge n (x ∷ xs) ys zs m h)

abbrev AreApart : List Notice → List Notice → Type 0
AreApart xs ys = (n m : Notice) → IsAmong n xs → IsAmong m ys → n.line ≢ m.line

-- what is below all lines of both lists is below all lines of the merged one
below_merge : (k : ℕ) (xs ys zs : List Notice) → IsMerge xs ys zs → ((n : Notice) → IsAmong n xs → k < n.line) → ((n : Notice) → IsAmong n ys → k < n.line)
    → (other : ℕ) → IsAmong other (lines_told zs) → k < other
below_merge k xs ys zs m below_first below_second other h =
    let (n, among, e) = among_map (λ (n : Notice). n.line) other zs h in
    elim (merge_has n xs ys zs m among) [
      | inl left ↦ omega (arith, below_first n left, e)
      | inr right ↦ omega (arith, below_second n right, e)
    ]

pub rising_below : (x : Notice) (xs : List Notice) → AreRising (lines_told (x ∷ xs)) → (n : Notice) → IsAmong n xs → x.line < n.line
rising_below x xs h n among = h.0 n.line (map_among (λ (n : Notice). n.line) n xs among)

merge_rising : (xs ys zs : List Notice) → IsMerge xs ys zs → AreRising (lines_told xs) → AreRising (lines_told ys) → AreApart xs ys → AreRising (lines_told zs)
merge_rising _ _ _ (first_left xs) h k apart = h
merge_rising _ _ _ (second_left ys) h k apart = k
merge_rising _ _ _ (from_first x y xs ys zs low m) h k apart = (
  below_merge x.line xs (y ∷ ys) zs m (rising_below x xs h)
      (λ n among. elim among [
        | inl e ↦ (let l = ap (λ (n : Notice). n.line) e in omega (arith, low, l))
        | inr later ↦ omega (arith, low, rising_below y ys k n later)
      ]),
  merge_rising xs (y ∷ ys) zs m h.1 k (λ n o left right. apart n o (inr left) right),
)
merge_rising _ _ _ (from_second x y xs ys zs low m) h k apart =
    let strict : y.line < x.line = omega (arith, low, apart x y (inl refl) (inl refl)) in (
      below_merge y.line (x ∷ xs) ys zs m
          (λ n among. elim among [
            | inl e ↦ (let l = ap (λ (n : Notice). n.line) e in omega (arith, strict, l))
            | inr later ↦ omega (arith, strict, rising_below x xs h n later)
          ])
          (rising_below y ys k),
      merge_rising (x ∷ xs) ys zs m h k.1 (λ n o left right. apart n o left (inr right)),
    )

-- ---- notices of places

module _ (d : Trees) where
  rising_lines : (f : ℕ → Notice) → ((p : ℕ) → (f p).line ≡ line_at 1 d p) → (ps : List ℕ) → AreRising ps → ((p : ℕ) → IsAmong p ps → p < trees_count d) → AreRising (lines_told (map f ps))
  rising_lines f lines [] h within = tt
  rising_lines f lines (p ∷ ps) h within = (
    λ other among.
        let (n, here, e) = among_map (λ (n : Notice). n.line) other (map f ps) among in
        let (q, later, is) = among_map f n ps here in
        let l = ap (λ (n : Notice). n.line) is in
        omega (arith, lower_line d p q (h.0 q later) (within q (inr later)), lines p, lines q, l, e),
    rising_lines f lines ps h.1 (λ q later. within q (inr later)),
  )

  pub are_notices : (links tags all : List Notice) → AreOneWayNotices d links → AreUnlistedNotices d tags → IsMerge links tags all → AreNotices d all
  are_notices links tags all (ps, one_way, are_links) (qs, listed, are_tags) m =
      let m : IsMerge (map (one_way_notice d) ps) (map (unlisted_notice d) qs) all = rw (are_links, are_tags) at m in
      record {
        rising = merge_rising _ _ all m
            (rising_lines (one_way_notice d) (λ p. refl) ps one_way.rising (λ p among. one_way_within d p ((one_way.each p).0 among)))
            (rising_lines (unlisted_notice d) (λ p. refl) qs listed.rising (λ p among. unlisted_within d p ((listed.each p).0 among)))
            (λ n o left right.
            let (p, link, n_is) = among_map (one_way_notice d) n ps left in
            let (q, tag, o_is) = among_map (unlisted_notice d) o qs right in
            λ e. one_notice d p q ((one_way.each p).0 link) ((listed.each q).0 tag) (sym (ap (λ (n : Notice). n.line) n_is) ∙ e ∙ ap (λ (n : Notice). n.line) o_is));
        each = λ n. (
          λ among. elim (merge_has n _ _ all m among) [
            | inl left ↦ (let (p, link, is) = among_map (one_way_notice d) n ps left in inl (p, (one_way.each p).0 link, is))
            | inr right ↦ (let (q, tag, is) = among_map (unlisted_notice d) n qs right in inr (q, (listed.each q).0 tag, is))
          ],
          λ notice. elim notice [
            | inl (p, link, is) ↦ first_in_merge n _ _ all m (subst (λ n. IsAmong n (map (one_way_notice d) ps)) (sym is) (map_among (one_way_notice d) p ps ((one_way.each p).1 link)))
            | inr (q, tag, is) ↦ second_in_merge n _ _ all m (subst (λ n. IsAmong n (map (unlisted_notice d) qs)) (sym is) (map_among (unlisted_notice d) q qs ((listed.each q).1 tag)))
          ],
        );
      }

  -- where no tag is unlisted they are those of the links
  pub are_links : (links : List Notice) → AreOneWayNotices d links → (Unlisted File d → ⊥) → AreNotices d links
  are_links links one_way never = are_notices links [] links one_way ([], none_listed, refl) (first_left links)
    where
      none_listed : AreUnlisted d []
      none_listed = record { rising = tt; each = λ p. (λ h. absurd h, λ h. absurd (never ((unlisted_has_place d).1 (p, h)))) }
