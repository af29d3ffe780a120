-- Notices merged by their lines.
use Rattle.std.proofs.Common.{subst, ◌≡◌, ◌-◌, ◌<◌, ◌≤◌, List, [], ◌∷◌, ◌++◌, length, get_or, take, drop, refl, sym, ap, ◌∙◌, arith}
use Rattle.std.proofs.lemmas.List.{append_assoc, append-nil, take_rest}
use Rattle.ged_link.specs.declared.notices.Notice.{Notice}
use Rattle.ged_accept.specs.inner.Merges.{IsMerge, first_left, second_left, from_first, from_second}

-- a list by its first notice and the others, as slices give them
parts : (xs : List Notice) (d : Notice) → 0 < length xs → xs ≡ get_or xs 0 d ∷ take (length xs - 1) (drop 1 xs)
parts [] d some = absurd (omega arith)
parts (x ∷ xs) d some = ap (λ (ys : List Notice). x ∷ ys) (sym (take_rest (x ∷ xs) 1))

module _ (first second merged now left right : List Notice) (x y : Notice)
    (told : (rest : List Notice) → IsMerge left right rest → IsMerge first second (merged ++ rest)) (rest : List Notice) (lx : 0 < length left) (ly : 0 < length right) where
  pub merged_first : (get_or left 0 x).line < (get_or right 0 y).line → now ≡ merged ++ get_or left 0 x ∷ [] → IsMerge (take (length left - 1) (drop 1 left)) right rest → IsMerge first second (now ++ rest)
  merged_first low is more =
      let l = parts left x lx in
      let r = parts right y ly in
      let step = from_first (get_or left 0 x) (get_or right 0 y) (take (length left - 1) (drop 1 left)) (take (length right - 1) (drop 1 right)) rest low (subst (λ (ys : List Notice). IsMerge (take (length left - 1) (drop 1 left)) ys rest) r more) in
      let whole = told (get_or left 0 x ∷ rest) (subst (λ (xs : List Notice). IsMerge xs right (get_or left 0 x ∷ rest)) (sym l) (subst (λ (ys : List Notice). IsMerge (get_or left 0 x ∷ take (length left - 1) (drop 1 left)) ys (get_or left 0 x ∷ rest)) (sym r) step)) in
      subst (IsMerge first second) (sym (append_assoc merged (get_or left 0 x ∷ []) rest) ∙ ap (λ zs. zs ++ rest) (sym is)) whole

  pub merged_second : (get_or right 0 y).line ≤ (get_or left 0 x).line → now ≡ merged ++ get_or right 0 y ∷ [] → IsMerge left (take (length right - 1) (drop 1 right)) rest → IsMerge first second (now ++ rest)
  merged_second low is more =
      let l = parts left x lx in
      let r = parts right y ly in
      let step = from_second (get_or left 0 x) (get_or right 0 y) (take (length left - 1) (drop 1 left)) (take (length right - 1) (drop 1 right)) rest low (subst (λ (xs : List Notice). IsMerge xs (take (length right - 1) (drop 1 right)) rest) l more) in
      let whole = told (get_or right 0 y ∷ rest) (subst (λ (ys : List Notice). IsMerge left ys (get_or right 0 y ∷ rest)) (sym r) (subst (λ (xs : List Notice). IsMerge xs (get_or right 0 y ∷ take (length right - 1) (drop 1 right)) (get_or right 0 y ∷ rest)) (sym l) step)) in
      subst (IsMerge first second) (sym (append_assoc merged (get_or right 0 y ∷ []) rest) ∙ ap (λ zs. zs ++ rest) (sym is)) whole

-- where one of the lists has ended, the other follows
module _ (first second merged one two left right : List Notice)
    (told : (rest : List Notice) → IsMerge left right rest → IsMerge first second (merged ++ rest)) (is : one ≡ merged ++ left) (then : two ≡ one ++ right) where
  pub merged_left : length right < 1 → IsMerge first second two
  merged_left few =
      let e = none_of right few in
      let all : merged ++ left ≡ two = sym is ∙ sym (append-nil one) ∙ ap (λ ys. one ++ ys) (sym e) ∙ sym then in
      subst (IsMerge first second) all (told left (subst (λ ys. IsMerge left ys left) (sym e) (first_left left)))
    where
      none_of : (xs : List Notice) → length xs < 1 → xs ≡ []
      none_of [] h = refl
      none_of (x ∷ xs) h = absurd (omega arith)

  pub merged_right : length left < 1 → IsMerge first second two
  merged_right few =
      let e = none_of left few in
      let all : merged ++ right ≡ two = ap (λ xs. xs ++ right) (sym (is ∙ ap (λ ys. merged ++ ys) e ∙ append-nil merged)) ∙ sym then in
      subst (IsMerge first second) all (told right (subst (λ xs. IsMerge xs right right) (sym e) (second_left right)))
    where
      none_of : (xs : List Notice) → length xs < 1 → xs ≡ []
      none_of [] h = refl
      none_of (x ∷ xs) h = absurd (omega arith)
