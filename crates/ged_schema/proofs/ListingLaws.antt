-- What is told of a document are its structures with unlisted tags, and it is told in one way.
use Rattle.std.proofs.Common.{◌≡◌, ℕ, ◌+◌, ◌<◌, arith, sym, ◌∙◌, ap, refl, List, [], ◌∷◌, ◌++◌, map, inl, inr}
use Rattle.std.specs.Prelude.{◌⊎◌, ◌↔◌}
use Rattle.ged_tree.specs.Trees.{Trees, none, tree, trees_count}
use Rattle.ged_link.specs.Links.{IsAmong}
use Rattle.ged_link.specs.Notices.{AreRising}
use Rattle.ged_link.specs.declared.notices.Notice.{Notice}
use Rattle.ged_schema.specs.declared.context.Context.{Context}
use Rattle.ged_schema.specs.declared.context.Context.TheVariants.{File}
use Rattle.ged_schema.specs.Tables.{context_below}
use Rattle.ged_schema.specs.Unlisted.{Unlisted, IsUnlisted, UnlistedFrom, AreUnlisted, AreUnlistedNotices, unlisted_notice}
use Rattle.ged_schema.specs.inner.Listings.{OwnPlace, ListsUnlisted}
use Rattle.ged_schema.proofs.FirstUnlisted.{unlisted_within, has_place, place_has}

among_append : (x : ℕ) (xs ys : List ℕ) → IsAmong x (xs ++ ys) → IsAmong x xs ⊎ IsAmong x ys
among_append x [] ys h = inr h
among_append x (z ∷ xs) ys (inl h) = inl (inl h)
among_append x (z ∷ xs) ys (inr h) = elim (among_append x xs ys h) [ inl k ↦ inl (inr k) | inr k ↦ inr k ]

among_front : (x : ℕ) (xs ys : List ℕ) → IsAmong x xs → IsAmong x (xs ++ ys)
among_front x [] ys h = absurd h
among_front x (z ∷ xs) ys (inl h) = inl h
among_front x (z ∷ xs) ys (inr h) = inr (among_front x xs ys h)

among_back : (x : ℕ) (xs ys : List ℕ) → IsAmong x ys → IsAmong x (xs ++ ys)
among_back x [] ys h = h
among_back x (z ∷ xs) ys h = inr (among_back x xs ys h)

pub listing_has : (c : Context) (start : ℕ) (t : Trees) (places : List ℕ) (x : ℕ) → ListsUnlisted c start t places → IsAmong x places → UnlistedFrom c start t x
listing_has c start none places x told h = rw told at h
listing_has c start (tree s below next) places x (own, under, after, here, h, k, e) among =
    elim (among_append x own (under ++ after) (rw e at among)) [
      | inl own_has ↦ inl (own_unlisted own here own_has)
      | inr rest ↦ elim (among_append x under after rest) [
        | inl under_has ↦ inr (inl (listing_has (context_below c s.tag) (start + 1) below under x h under_has))
        | inr after_has ↦ inr (inr (listing_has c (start + 1 + trees_count below) next after x k after_has))
      ]
    ]
  where
    own_unlisted : (own : List ℕ) → OwnPlace c s.tag start own → IsAmong x own → IsUnlisted c s.tag × (x ≡ start)
    own_unlisted own (inl (is, told)) h = elim (rw told at h) [ inl same ↦ (is, same) | inr never ↦ absurd never ]
    own_unlisted own (inr (not, told)) h = absurd (rw told at h)

pub has_listing : (c : Context) (start : ℕ) (t : Trees) (places : List ℕ) (x : ℕ) → ListsUnlisted c start t places → UnlistedFrom c start t x → IsAmong x places
has_listing c start none places x told h = absurd h
has_listing c start (tree s below next) places x (own, under, after, here, h, k, e) (inl (is, at)) =
    rw e (among_front x own (under ++ after) (own_told here))
  where
    own_told : OwnPlace c s.tag start own → IsAmong x own
    own_told (inl (is', told)) = rw told (inl at)
    own_told (inr (not, told)) = absurd (not is)
has_listing c start (tree s below next) places x (own, under, after, here, h, k, e) (inr (inl u)) =
    rw e (among_back x own (under ++ after) (among_front x under after (has_listing (context_below c s.tag) (start + 1) below under x h u)))
has_listing c start (tree s below next) places x (own, under, after, here, h, k, e) (inr (inr u)) =
    rw e (among_back x own (under ++ after) (among_back x under after (has_listing c (start + 1 + trees_count below) next after x k u)))

rising_append : (xs ys : List ℕ) → AreRising xs → AreRising ys → ((x y : ℕ) → IsAmong x xs → IsAmong y ys → x < y) → AreRising (xs ++ ys)
rising_append [] ys h k apart = k
rising_append (z ∷ xs) ys h k apart = (
  λ other among. elim (among_append other xs ys among) [ inl front ↦ h.0 other front | inr back ↦ apart z other (inl refl) back ],
  rising_append xs ys h.1 k (λ x y front back. apart x y (inr front) back),
)

pub listing_rises : (c : Context) (start : ℕ) (t : Trees) (places : List ℕ) → ListsUnlisted c start t places → AreRising places
listing_rises c start none places told = rw told tt
listing_rises c start (tree s below next) places (own, under, after, here, h, k, e) =
    rw e (rising_append own (under ++ after) (own_rises here)
    (rising_append under after (listing_rises (context_below c s.tag) (start + 1) below under h) (listing_rises c (start + 1 + trees_count below) next after k)
    (λ x y front back.
    let low = unlisted_within (context_below c s.tag) (start + 1) below x (listing_has (context_below c s.tag) (start + 1) below under x h front) in
    let high = unlisted_within c (start + 1 + trees_count below) next y (listing_has c (start + 1 + trees_count below) next after y k back) in
    omega (arith, low.1, high.0)))
    (λ x y front back.
    let first = own_at x here front in
    elim (among_append y under after back) [
      | inl u ↦ (let high = unlisted_within (context_below c s.tag) (start + 1) below y (listing_has (context_below c s.tag) (start + 1) below under y h u) in omega (arith, first, high.0))
      | inr u ↦ (let high = unlisted_within c (start + 1 + trees_count below) next y (listing_has c (start + 1 + trees_count below) next after y k u) in omega (arith, first, high.0))
    ]))
  where
    own_rises : OwnPlace c s.tag start own → AreRising own
    own_rises (inl (is, told)) = rw told (λ other never. absurd never, tt)
    own_rises (inr (not, told)) = rw told tt

    own_at : (x : ℕ) → OwnPlace c s.tag start own → IsAmong x own → x ≡ start
    own_at x (inl (is, told)) h = elim (rw told at h) [ inl same ↦ same | inr never ↦ absurd never ]
    own_at x (inr (not, told)) h = absurd (rw told at h)

pub are_unlisted : (d : Trees) (places : List ℕ) → ListsUnlisted File 0 d places → AreUnlisted d places
are_unlisted d places told = record { rising = listing_rises File 0 d places told; each = λ x. (listing_has File 0 d places x told, has_listing File 0 d places x told) }

-- ---- there is one such list

-- what stands past the first number of a rising list is not that number
first_of : (x : ℕ) (xs ys : List ℕ) (z : ℕ) → AreRising (x ∷ xs) → IsAmong z xs → IsAmong z (x ∷ ys) → IsAmong z ys
first_of x xs ys z rising among (inl same) = absurd (omega (arith, rising.0 z among, same))
first_of x xs ys z rising among (inr later) = later

one_rising : (xs ys : List ℕ) → AreRising xs → AreRising ys → ((z : ℕ) → IsAmong z xs → IsAmong z ys) → ((z : ℕ) → IsAmong z ys → IsAmong z xs) → xs ≡ ys
one_rising [] [] h k there back = refl
one_rising [] (y ∷ ys) h k there back = absurd (back y (inl refl))
one_rising (x ∷ xs) [] h k there back = absurd (there x (inl refl))
one_rising (x ∷ xs) (y ∷ ys) h k there back =
    let same : x ≡ y = first (there x (inl refl)) (back y (inl refl)) in
    let rest : xs ≡ ys = one_rising xs ys h.1 k.1
    (λ z among. first_of x xs ys z h among (rw (sym same) at (there z (inr among))))
    (λ z among. first_of y ys xs z k among (rw same at (back z (inr among)))) in
    rw (same, rest) refl
  where
    first : IsAmong x (y ∷ ys) → IsAmong y (x ∷ xs) → x ≡ y
    first (inl e) q = e
    first (inr p) (inl e) = sym e
    first (inr p) (inr q) = absurd (omega (arith, k.0 x p, h.0 y q))

one_places : (d : Trees) (places others : List ℕ) → AreUnlisted d places → AreUnlisted d others → places ≡ others
one_places d places others h k = one_rising places others h.rising k.rising (λ z among. (k.each z).1 ((h.each z).0 among)) (λ z among. (h.each z).1 ((k.each z).0 among))

pub one_listing : (d : Trees) (notices others : List Notice) → AreUnlistedNotices d notices → AreUnlistedNotices d others → notices ≡ others
one_listing d notices others (places, h, e) (places', k, e') = e ∙ ap (map (unlisted_notice d)) (one_places d places places' h k) ∙ sym e'

-- no notice is told exactly where none is unlisted
none_listed : (d : Trees) (places : List ℕ) → AreUnlisted d places → map (unlisted_notice d) places ≡ [] → Unlisted File d → ⊥
none_listed d [] h nothing some = let (p, at) = has_place File 0 d some in (h.each p).1 at
none_listed d (x ∷ xs) h nothing some = cc

all_listed : (d : Trees) (places : List ℕ) → AreUnlisted d places → (Unlisted File d → ⊥) → map (unlisted_notice d) places ≡ []
all_listed d [] h never = refl
all_listed d (x ∷ xs) h never = absurd (never (place_has File 0 d x ((h.each x).0 (inl refl))))

pub none_unlisted : (d : Trees) (notices : List Notice) → AreUnlistedNotices d notices → (notices ≡ []) ↔ (Unlisted File d → ⊥)
none_unlisted d notices (places, h, e) = (λ nothing. none_listed d places h (sym e ∙ nothing), λ never. e ∙ all_listed d places h never)
