-- A text has a banned character just where its bytes have one's bytes.
use Rattle.std.proofs.Common.{◌≡◌, ◌≢◌, ℕ, ◌+◌, ◌<◌, ◌≤◌, Bool, true, false, List, [], ◌∷◌, ◌++◌, ◌⊎◌, inl, inr, length, get_or, get_or-take, take, drop, refl, sym, ◌∙◌, ap, subst, arith, length-append, ◌||◌, ◌&&◌, ◌==◌, nat_lt, not}
use Rattle.std.proofs.lemmas.Bool.Decides.{nat_tests}
use Rattle.std.proofs.lemmas.List.{get_or-append-add, take-append-drop, drop_more, length-take-le}
use Rattle.std.proofs.lemmas.Str.{encodes-chars, chars_from_encodes, IsUtf8-from_is_utf8, is_utf8-from_IsUtf8, encode_ascii, encode_same, encodes-append, encodes_same, IsUtf8-take, IsUtf8-drop, NoCharPasses-byte}
use Rattle.std.specs.Str.{NoCharPasses, NonePass, IsUtf8, IsCharBoundary, is_utf8, chars}
use Rattle.std.specs.Bool.{MatchBool}
use Rattle.std.specs.Prelude.{Option, Some, None, is_some}
use Rattle.memchr.specs.Find.{IsFirstByte}
use lib.Utf8.{encodes, encode}
use Rattle.std.specs.List.{list_any}
use Rattle.ged_line.specs.Characters.{is_banned, has_banned, is_plain}
use Rattle.ged_line.specs.inner.LineTexts.{is_line_text}
use Rattle.ged_line.specs.inner.ByteTests.{is_control, is_special, ControlAt, NoncharacterAt}
use Rattle.ged_line.proofs.line.NameTests.{bool_cases, or_cases, and_left, and_right, and_true}

data IsBannedChar (c : ℕ) : Type 0 where
  control : is_control c ≡ true → IsBannedChar c
  fffe : c ≡ 0xFFFE → IsBannedChar c
  ffff : c ≡ 0xFFFF → IsBannedChar c

banned_cases : (c : ℕ) → is_banned c ≡ true → IsBannedChar c
banned_cases c h = elim (or_cases (is_control c || c == 0xFFFE) (c == 0xFFFF) h) [
  | inl f ↦ elim (or_cases (is_control c) (c == 0xFFFE) f) [ inl k ↦ control k | inr k ↦ fffe (grind (arith, nat_tests)) ]
  | inr k ↦ ffff (grind (arith, nat_tests))
]

control_small : (c : ℕ) → is_control c ≡ true → c < 128
control_small c h = grind (arith, nat_tests)

control_banned : (c : ℕ) → is_control c ≡ true → is_banned c ≡ true
control_banned c h = grind (arith, nat_tests)

-- the bytes of the two noncharacters
nonchar_fffe : (rest : List ℕ) → encode 0xFFFE ++ rest ≡ 0xEF ∷ 0xBF ∷ 0xBE ∷ rest
unfolding encode
nonchar_fffe rest = refl

nonchar_ffff : (rest : List ℕ) → encode 0xFFFF ++ rest ≡ 0xEF ∷ 0xBF ∷ 0xBF ∷ rest
unfolding encode
nonchar_ffff rest = refl

long_fffe : 0 < length (encode 0xFFFE)
unfolding encode
long_fffe = omega arith

long_ffff : 0 < length (encode 0xFFFF)
unfolding encode
long_ffff = omega arith

-- a text whose bytes show no banned character has none
shift_control : (xs ys : List ℕ) (i : ℕ) → ControlAt ys i → ControlAt (xs ++ ys) (length xs + i)
shift_control xs ys i h =
    let inside = h.inside in
    record { inside = omega (arith, length-append xs ys); control = ap is_control (get_or-append-add xs ys i 0) ∙ h.control }

pub shift_nonchar : (xs ys : List ℕ) (i : ℕ) → NoncharacterAt ys i → NoncharacterAt (xs ++ ys) (length xs + i)
shift_nonchar xs ys i h =
    let inside = h.inside in
    let one : length xs + i + 1 ≡ length xs + (i + 1) = omega arith in
    let two : length xs + i + 2 ≡ length xs + (i + 2) = omega arith in
    let third : get_or (xs ++ ys) (length xs + i + 2) 0 ≡ get_or ys (i + 2) 0 = ap (λ k. get_or (xs ++ ys) k 0) two ∙ get_or-append-add xs ys (i + 2) 0 in
    record {
      inside = omega (arith, length-append xs ys);
      first = get_or-append-add xs ys i 0 ∙ h.first;
      second = ap (λ k. get_or (xs ++ ys) k 0) one ∙ get_or-append-add xs ys (i + 1) 0 ∙ h.second;
      third = elim h.third [ inl e ↦ inl (third ∙ e) | inr e ↦ inr (third ∙ e) ];
    }

first_banned : (c : ℕ) (rest : List ℕ) → IsBannedChar c → (ControlAt (encode c ++ rest) 0) ⊎ (NoncharacterAt (encode c ++ rest) 0)
first_banned c rest (control k) =
    let e : encode c ++ rest ≡ c ∷ rest = ap (λ x. x ++ rest) (encode_ascii c (control_small c k)) in
    inl (subst (λ bs. ControlAt bs 0) (sym e) (record { inside = omega arith; control = k }))
first_banned c rest (fffe k) =
    let e : encode c ++ rest ≡ 0xEF ∷ 0xBF ∷ 0xBE ∷ rest = ap (λ d. encode d ++ rest) k ∙ nonchar_fffe rest in
    inr (subst (λ bs. NoncharacterAt bs 0) (sym e) (record { inside = omega arith; first = refl; second = refl; third = inl refl }))
first_banned c rest (ffff k) =
    let e : encode c ++ rest ≡ 0xEF ∷ 0xBF ∷ 0xBF ∷ rest = ap (λ d. encode d ++ rest) k ∙ nonchar_ffff rest in
    inr (subst (λ bs. NoncharacterAt bs 0) (sym e) (record { inside = omega arith; first = refl; second = refl; third = inr refl }))

none_banned : (cs : List ℕ) → ((i : ℕ) → ¬ (ControlAt (encodes cs) i)) → ((i : ℕ) → ¬ (NoncharacterAt (encodes cs) i)) → NonePass is_banned cs
none_banned [] f g = tt
none_banned (c ∷ cs) f g = (
  elim (bool_cases (is_banned c)) [
    | inl b ↦ absurd (elim (first_banned c (encodes cs) (banned_cases c b)) [ inl h ↦ f 0 h | inr h ↦ g 0 h ])
    | inr b ↦ b
  ],
  none_banned cs
      (λ i h. f (length (encode c) + i) (shift_control (encode c) (encodes cs) i h))
      (λ i h. g (length (encode c) + i) (shift_nonchar (encode c) (encodes cs) i h)),
)

pub NoCharPasses-from_bytes : (bs : List ℕ) → IsUtf8 bs → ((i : ℕ) → ¬ (ControlAt bs i)) → ((i : ℕ) → ¬ (NoncharacterAt bs i)) → NoCharPasses is_banned bs
NoCharPasses-from_bytes bs (cs, (s, e)) f g =
    (cs, e, none_banned cs (subst (λ xs. (i : ℕ) → ¬ (ControlAt xs i)) (sym e) f) (subst (λ xs. (i : ℕ) → ¬ (NoncharacterAt xs i)) (sym e) g))

pub control_is_banned : (bs : List ℕ) (i : ℕ) → ControlAt bs i → ¬ (NoCharPasses is_banned bs)
control_is_banned bs i h n =
    let c : ℕ = get_or bs i 0 in
    let small : get_or bs i 0 < 128 = control_small (get_or bs i 0) h.control in
    let no : is_banned (get_or bs i 0) ≡ false = NoCharPasses-byte is_banned bs i n h.inside small in
    let yes' : is_banned (get_or bs i 0) ≡ true = control_banned (get_or bs i 0) h.control in
    cc

NonePass-back : (p : ℕ → Bool) (xs ys : List ℕ) → NonePass p (xs ++ ys) → NonePass p ys
NonePass-back p [] ys h = h
NonePass-back p (x ∷ xs) ys h = NonePass-back p xs ys h.1

pub NoCharPasses-back : (p : ℕ → Bool) (xs ys : List ℕ) → IsUtf8 xs → IsUtf8 ys → NoCharPasses p (xs ++ ys) → NoCharPasses p ys
NoCharPasses-back p xs ys (cs, (s, e)) (ds, (t, f)) (es, g, h) =
    let whole : encodes es ≡ encodes (cs ++ ds) = g ∙ sym (encodes-append cs ds ∙ ap (λ x. x ++ encodes ds) e ∙ ap (λ y. xs ++ y) f) in
    let same : es ≡ cs ++ ds = encodes_same es (cs ++ ds) whole in
    (ds, f, NonePass-back p cs ds (subst (NonePass p) same h))

-- three bytes and the rest
three : (bs : List ℕ) (i : ℕ) → i + 2 < length bs → drop i bs ≡ get_or bs i 0 ∷ get_or bs (i + 1) 0 ∷ get_or bs (i + 2) 0 ∷ drop (i + 3) bs
three bs i h =
    let a : drop i bs ≡ get_or bs i 0 ∷ drop (i + 1) bs = drop_more bs i 0 (omega arith) in
    let b : drop (i + 1) bs ≡ get_or bs (i + 1) 0 ∷ drop (i + 1 + 1) bs = drop_more bs (i + 1) 0 (omega arith) in
    let two : i + 1 + 1 ≡ i + 2 = omega arith in
    let c : drop (i + 1 + 1) bs ≡ get_or bs (i + 2) 0 ∷ drop (i + 2 + 1) bs = ap (λ k. drop k bs) two ∙ drop_more bs (i + 2) 0 (omega arith) in
    let end : i + 2 + 1 ≡ i + 3 = omega arith in
    let d : drop (i + 2 + 1) bs ≡ drop (i + 3) bs = ap (λ k. drop k bs) end in
    a ∙ ap (λ x. get_or bs i 0 ∷ x) (b ∙ ap (λ x. get_or bs (i + 1) 0 ∷ x) (c ∙ ap (λ x. get_or bs (i + 2) 0 ∷ x) d))

nonchar_first : (ds : List ℕ) (c : ℕ) (rest : List ℕ) → is_banned c ≡ true → encodes ds ≡ encode c ++ rest → 0 < length (encode c) → ¬ (NonePass is_banned ds)
nonchar_first [] c rest b e l n = let z : length (encode c ++ rest) ≡ 0 = ap length (sym e) in omega (arith, length-append (encode c) rest)
nonchar_first (d ∷ ds) c rest b e l n =
    let same : d ≡ c = (encode_same d c (encodes ds) rest e).0 in
    let no : is_banned c ≡ false = subst (λ x. is_banned x ≡ false) same n.0 in
    cc

banned_front : (xs : List ℕ) (c : ℕ) (rest : List ℕ) → is_banned c ≡ true → 0 < length (encode c) → IsUtf8 xs → xs ≡ encode c ++ rest → ¬ (NoCharPasses is_banned xs)
banned_front xs c rest b l (ds, (t, f)) e (es, g, h) =
    let same : es ≡ ds = encodes_same es ds (g ∙ sym f) in
    nonchar_first es c rest b (g ∙ e) l h

same_three : (a b c x y z : ℕ) (rest : List ℕ) → a ≡ x → b ≡ y → c ≡ z → ◌≡◌ {A = List ℕ} (a ∷ b ∷ c ∷ rest) (x ∷ y ∷ z ∷ rest)
same_three a b c x y z rest e f g = cc

pub noncharacter_is_banned : (bs : List ℕ) (i : ℕ) → IsUtf8 bs → NoncharacterAt bs i → ¬ (NoCharPasses is_banned bs)
noncharacter_is_banned bs i u h n =
    let inside = h.inside in
    let first = h.first in
    let edge : IsCharBoundary bs i = (omega arith, λ l k. omega arith) in
    let back : IsUtf8 (drop i bs) = IsUtf8-drop bs i u edge in
    let whole : NoCharPasses is_banned (take i bs ++ drop i bs) = subst (λ x. NoCharPasses is_banned x) (sym (take-append-drop i bs)) n in
    let rest : NoCharPasses is_banned (drop i bs) = NoCharPasses-back is_banned (take i bs) (drop i bs) (IsUtf8-take bs i u edge) back whole in
    let parts = three bs i h.inside in
    elim h.third [
      | inl e ↦ banned_front (drop i bs) 0xFFFE (drop (i + 3) bs) refl long_fffe back
          (parts ∙ same_three _ _ _ 0xEF 0xBF 0xBE (drop (i + 3) bs) h.first h.second e ∙ sym (nonchar_fffe (drop (i + 3) bs))) rest
      | inr e ↦ banned_front (drop i bs) 0xFFFF (drop (i + 3) bs) refl long_ffff back
          (parts ∙ same_three _ _ _ 0xEF 0xBF 0xBF (drop (i + 3) bs) h.first h.second e ∙ sym (nonchar_ffff (drop (i + 3) bs))) rest
    ]

front_false : (a b : Bool) → (a || b) ≡ false → a ≡ false
front_false true b h = h
front_false false b h = refl

back_false : (a b : Bool) → (a || b) ≡ false → b ≡ false
back_false true b h = absurd cc
back_false false b h = h

or_false : (a b : Bool) → a ≡ false → b ≡ false → (a || b) ≡ false
or_false a b e f = rw (e, f) refl

none_pass : (p : ℕ → Bool) (cs : List ℕ) → list_any p cs ≡ false → NonePass p cs
none_pass p [] h = tt
none_pass p (c ∷ cs) h = (front_false (p c) (list_any p cs) h, none_pass p cs (back_false (p c) (list_any p cs) h))

none_any : (p : ℕ → Bool) (cs : List ℕ) → NonePass p cs → list_any p cs ≡ false
none_any p [] h = refl
none_any p (c ∷ cs) h = or_false (p c) (list_any p cs) h.0 (none_any p cs h.1)

-- std's word for a text without a banned character, and the test of it
pub NoCharPasses-banned : (bs : List ℕ) → IsUtf8 bs → has_banned bs ≡ false → NoCharPasses is_banned bs
NoCharPasses-banned bs u h = (chars bs, encodes-chars bs u, none_pass is_banned (chars bs) h)

pub has_banned-none : (bs : List ℕ) → IsUtf8 bs → NoCharPasses is_banned bs → has_banned bs ≡ false
has_banned-none bs u (cs, e, h) = subst (λ ds. list_any is_banned ds ≡ false) (chars_from_encodes cs bs u e) (none_any is_banned cs h)

pub has_banned-some : (bs : List ℕ) → IsUtf8 bs → ¬ (NoCharPasses is_banned bs) → has_banned bs ≡ true
has_banned-some bs u h = elim (bool_cases (has_banned bs)) [ inl e ↦ e | inr e ↦ absurd (h (NoCharPasses-banned bs u e)) ]

pub IsUtf8-plain : (bs : List ℕ) → is_plain bs ≡ true → IsUtf8 bs
IsUtf8-plain bs h = IsUtf8-from_is_utf8 bs (and_left (is_utf8 bs) (not (has_banned bs)) h)

not_true : (b : Bool) → not b ≡ true → b ≡ false
not_true true h = cc
not_true false h = refl

pub has_banned-plain : (bs : List ℕ) → is_plain bs ≡ true → has_banned bs ≡ false
has_banned-plain bs h = not_true (has_banned bs) (and_right (is_utf8 bs) (not (has_banned bs)) h)

pub NoCharPasses-plain : (bs : List ℕ) → is_plain bs ≡ true → NoCharPasses is_banned bs
NoCharPasses-plain bs h = NoCharPasses-banned bs (IsUtf8-plain bs h) (has_banned-plain bs h)

pub is_plain-from : (bs : List ℕ) → IsUtf8 bs → NoCharPasses is_banned bs → is_plain bs ≡ true
is_plain-from bs u n = and_true (is_utf8 bs) (not (has_banned bs)) (is_utf8-from_IsUtf8 bs u) (ap not (has_banned-none bs u n))

-- the answers of the code that looks at bytes
pub told_by_control : (r : Bool) (bs : List ℕ) → IsUtf8 bs → r ≡ true → MatchBool r ((at : ℕ) × ControlAt bs at) ((at : ℕ) → ¬ (ControlAt bs at)) → r ≡ has_banned bs
told_by_control true bs u e (at, h) = sym (has_banned-some bs u (control_is_banned bs at h))
told_by_control false bs u e h = cc

pub told_by_noncharacter : (r : Bool) (bs : List ℕ) → IsUtf8 bs → ((at : ℕ) → ¬ (ControlAt bs at))
    → MatchBool r ((at : ℕ) × NoncharacterAt bs at) ((at : ℕ) → ¬ (NoncharacterAt bs at)) → r ≡ has_banned bs
told_by_noncharacter true bs u f (at, h) = sym (has_banned-some bs u (noncharacter_is_banned bs at u h))
told_by_noncharacter false bs u f h = sym (has_banned-none bs u (NoCharPasses-from_bytes bs u f h))

abbrev pub SweptClean : List ℕ → Type 0
SweptClean bs = (at : ℕ) → at < length bs → (is_control (get_or bs at 0) ≡ false) × (get_or bs at 0 ≢ 0xEF)

swept_control : (bs : List ℕ) → SweptClean bs → (at : ℕ) → ¬ (ControlAt bs at)
swept_control bs h at k = let no : is_control (get_or bs at 0) ≡ false = (h at k.inside).0 in let yes' : is_control (get_or bs at 0) ≡ true = k.control in cc

swept_noncharacter : (bs : List ℕ) → SweptClean bs → (at : ℕ) → ¬ (NoncharacterAt bs at)
swept_noncharacter bs h at n = let inside = n.inside in (h at (omega arith)).1 n.first

-- a text that isn't empty may be a line's value where it has no banned character
pub some_line_text : (bs : List ℕ) (r : Bool) → false ≡ (length bs == 0) → IsUtf8 bs → r ≡ has_banned bs → not r ≡ is_line_text bs
some_line_text bs r s u e = rw (← s, is_utf8-from_IsUtf8 bs u) (ap not e)

-- texts in which no special byte is found
special_wider : (p q r s : Bool) → (p && not q) || r ≡ true → (p || r) || s ≡ true
special_wider true q r s e = refl
special_wider false q true s e = refl
special_wider false q false s e = absurd cc

special_none : (b : ℕ) → ¬ (is_special b ≡ true) → (is_control b ≡ false) × (b ≢ 0xEF)
special_none b n = elim (bool_cases (is_control b)) [
  | inl k ↦ absurd (n (special_wider (nat_lt b 0x20) (b == 0x09) (b == 0x7F) (b == 0xEF) k))
  | inr k ↦ (k, λ e. n (rw e refl))
]

abbrev pub NoSpecialBelow : List ℕ → ℕ → Type 0
NoSpecialBelow bs n = (k : ℕ) → 0 ≤ k → k < n → ¬ (is_special (get_or bs k 0) ≡ true)

pub has_banned-no_special : (bs : List ℕ) → IsUtf8 bs → NoSpecialBelow bs (length bs) → false ≡ has_banned bs
has_banned-no_special bs u h =
    let clean : SweptClean bs = λ at s. special_none (get_or bs at 0) (h at (omega arith) s) in
    sym (has_banned-none bs u (NoCharPasses-from_bytes bs u (swept_control bs clean) (swept_noncharacter bs clean)))

pub told_by_search : (r : Bool) (found : Option ℕ) (bs : List ℕ) → IsUtf8 bs → r ≡ is_some found → r ≡ false → IsFirstByte is_special bs found → r ≡ has_banned bs
told_by_search r None bs u e f h = f ∙ has_banned-no_special bs u h
told_by_search r (Some k) bs u e f h = absurd cc

pub has_banned-before_special : (bs : List ℕ) (n : ℕ) → n ≤ length bs → IsUtf8 (take n bs) → NoSpecialBelow bs n → false ≡ has_banned (take n bs)
has_banned-before_special bs n l u h =
    let long : length (take n bs) ≡ n = length-take-le n bs l in
    has_banned-no_special (take n bs) u (λ k z s.
    let same : get_or (take n bs) k 0 ≡ get_or bs k 0 = get_or-take n bs k 0 (omega arith) in
    subst (λ b. ¬ (is_special b ≡ true)) (sym same) (h k z (omega arith)))

end_is_special : (b : ℕ) → (b == 13 || b == 10) ≡ true → is_special b ≡ true
end_is_special b h = grind (arith, nat_tests)

-- no line end stands where no special byte does
pub no_end_special : (bs : List ℕ) (n : ℕ) → NoSpecialBelow bs n → (k : ℕ) → 0 ≤ k → k < n → ¬ ((get_or bs k 0 == 13 || get_or bs k 0 == 10) ≡ true)
no_end_special bs n h k z s = λ e. h k z s (end_is_special (get_or bs k 0) e)
