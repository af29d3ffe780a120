-- Text that is seen, and text that grows by it.
use Rattle.std.proofs.Common.{append-nil, ◌≡◌, ℕ, suc, zero, ◌+◌, ◌/◌, ◌%◌, ◌<◌, ◌≤◌, Bool, true, false, ◌||◌, cond, List, [], ◌∷◌, ◌++◌, length, slice_index_or, Result, Ok, Err, OnOk, Option, Some, refl, ◌∙◌, sym, ap, subst, arith, rules, string_bytes, IsUtf8, IsAscii, replicate, if◌then◌else◌, ◌^◌, ◌-◌, encode_utf8, not}
use Rattle.std.specs.List.{All}
use Rattle.std.specs.Str.{NonePass}
use Rattle.std.specs.Result.{is_ok, is_err}
use Rattle.std.specs.Fmt.{AppendsText, digits, digits_onto, digit_glyph, padded_integral, format_spec}
use Rattle.std.proofs.lemmas.Str.{NoCharPasses-append, NoCharPasses-nil, encodes-IsAscii}
use Rattle.std.proofs.lemmas.Bool.Decides.{nat_tests}
use Rattle.ged_explain.specs.Characters.{is_unseen}
use Rattle.ged_explain.specs.Showing.{IsPlain, IsSign, IsSeen, IsSeenLine}

-- each byte is a sign
unfoldable pub Signs : List ℕ → Type 0
Signs [] = Unit {0}
Signs (byte ∷ bytes) = IsSign byte × Signs bytes

pub signs_of_all : (bytes : List ℕ) → All IsSign bytes → Signs bytes
unfolding Signs
signs_of_all [] all = tt
signs_of_all (byte ∷ bytes) all = (all 0 0 (omega arith), signs_of_all bytes (λ k d less. all (suc k) d (omega arith)))

sign_seen : (c : ℕ) → IsSign c → is_unseen c ≡ false
sign_seen c sign = grind (arith, nat_tests)

none_unseen : (bytes : List ℕ) → Signs bytes → NonePass is_unseen bytes
unfolding Signs
none_unseen [] signs = tt
none_unseen (byte ∷ bytes) signs = (sign_seen byte signs.0, none_unseen bytes signs.1)

ascii_signs : (bytes : List ℕ) → Signs bytes → IsAscii bytes
unfolding Signs
ascii_signs [] signs k = omega arith
ascii_signs (byte ∷ bytes) signs zero = omega arith
ascii_signs (byte ∷ bytes) signs (suc k) = ascii_signs bytes signs.1 k

-- signs are seen
pub signs_seen : (bytes : List ℕ) → Signs bytes → IsSeen bytes
signs_seen bytes signs = (bytes, encodes-IsAscii bytes (ascii_signs bytes signs), none_unseen bytes signs)

signs_append : (xs ys : List ℕ) → Signs xs → Signs ys → Signs (xs ++ ys)
unfolding Signs
signs_append [] ys left right = right
signs_append (x ∷ xs) ys left right = (left.0, signs_append xs ys left.1 right)

glyph_sign : (d : ℕ) → d < 16 → IsSign (digit_glyph true d)
glyph_sign d small = grind (arith, nat_tests)

signs_either : (b : Bool) (xs ys : List ℕ) → Signs xs → Signs ys → Signs (cond b xs ys)
signs_either true xs ys left right = left
signs_either false xs ys left right = right

signs_digits : (k n : ℕ) (acc : List ℕ) → Signs acc → Signs (digits_onto k 16 true n acc)
unfolding Signs
signs_digits zero n acc signs = signs
signs_digits (suc k) n acc signs =
    let first : IsSign (digit_glyph true (n % 16)) = glyph_sign (n % 16) (omega arith) in
    signs_either _ (digit_glyph true (n % 16) ∷ acc) _ (first, signs) (signs_digits k (n / 16) (digit_glyph true (n % 16) ∷ acc) (first, signs))

signs_zeros : (n : ℕ) → Signs (replicate n 48)
unfolding Signs
signs_zeros zero = tt
signs_zeros (suc n) = ((omega arith, omega arith), signs_zeros n)

-- what `{:0wX}` writes of a number
pub number_signs : (w n : ℕ) → Signs (padded_integral (format_spec 32 0 4 w (2 ^ 64 - 1)) false [] (digits 16 true n))
unfolding Signs padded_integral digits
number_signs w n =
    let number = digits_onto 64 16 true n [] in
    let signs : Signs number = signs_digits 64 n [] tt in
    signs_append _ (number ++ []) (signs_zeros _) (signs_append number [] signs tt)

-- a text that grew by seen text where a call did not fail
pub grown_seen : {E : Type 0} (lacks failed : Bool) (r : Result (Unit {0}) E) (old more new : List ℕ) → failed ≡ is_err r → OnOk r (new ≡ old ++ more)
    → (lacks ≡ false → IsSeen old) → IsSeen more → (lacks || failed) ≡ false → IsSeen new
grown_seen true failed r old more new is grown before seen none = absurd (cc none)
grown_seen false failed (Ok x) old more new is grown before seen none =
    subst (λ (text : List ℕ). IsSeen text) (sym grown) (NoCharPasses-append is_unseen old more (before refl) seen)
grown_seen false failed (Err e) old more new is grown before seen none = absurd (cc (is, none))

pub grown_on_ok : {E : Type 0} (r : Result (Unit {0}) E) (old more new : List ℕ) → new ≡ (if is_ok r then old ++ more else old) → OnOk r (new ≡ old ++ more)
grown_on_ok (Ok x) old more new is = is
grown_on_ok (Err e) old more new is = tt

not_true : (b : Bool) → true ≡ not b → b ≡ false
not_true true is = cc
not_true false is = refl

pub one_seen : (c : ℕ) → true ≡ not (is_unseen c) → IsSeen (encode_utf8 c)
one_seen c seen = (c ∷ [], append-nil (encode_utf8 c), (not_true (is_unseen c) seen, tt))

pub pushed_seen : {E : Type 0} (lacks failed : Bool) (r : Result (Unit {0}) E) (old more new : List ℕ) → failed ≡ is_err r → new ≡ (if is_ok r then old ++ more else old)
    → (lacks ≡ false → IsSeen old) → IsSeen more → (lacks || failed) ≡ false → IsSeen new
pushed_seen lacks failed r old more new is grown = grown_seen lacks failed r old more new is (grown_on_ok r old more new grown)

pub dots_seen : IsSeen (32 ∷ 46 ∷ 46 ∷ 46 ∷ [])
unfolding Signs
dots_seen =
    let dot : IsSign 46 = (omega arith, omega arith) in
    let space : IsSign 32 = (omega arith, omega arith) in
    signs_seen (32 ∷ 46 ∷ 46 ∷ 46 ∷ []) (space, (dot, (dot, (dot, tt))))

-- the same of a text that was formatted: two signs and a number
pub written_seen : {E : Type 0} (lacks failed : Bool) (r : Result (Unit {0}) E) (old new : List ℕ) (o : Option (List ℕ)) (a b w n : ℕ) → failed ≡ is_err r
    → o ≡ Some (a ∷ b ∷ padded_integral (format_spec 32 0 4 w (2 ^ 64 - 1)) false [] (digits 16 true n)) → OnOk r (AppendsText old new o)
    → IsSign a → IsSign b → (lacks ≡ false → IsSeen old) → (lacks || failed) ≡ false → IsSeen new
unfolding Signs
written_seen lacks failed r old new o a b w n is text written first second before =
    let number = padded_integral (format_spec 32 0 4 w (2 ^ 64 - 1)) false [] (digits 16 true n) in
    let grown : OnOk r (new ≡ old ++ a ∷ b ∷ number) = subst (λ (o : Option (List ℕ)). OnOk r (AppendsText old new o)) text written in
    grown_seen lacks failed r old (a ∷ b ∷ number) new is grown before (signs_seen (a ∷ b ∷ number) (first, (second, number_signs w n)))

-- a line that is shown with all that was appended
pub pushed_line : {E : Type 0} (r : Result (Unit {0}) E) (old more new piece : List ℕ) → new ≡ (if is_ok r then old ++ more else old)
    → IsSeenLine piece more → OnOk r ((seen : List ℕ) × (new ≡ old ++ seen) × IsSeenLine piece seen)
pushed_line (Ok x) old more new piece is line = (more, is, line)
pushed_line (Err e) old more new piece is line = tt

pub plain_seen : (piece text : List ℕ) → text ≡ piece → All IsSign piece → IsSeenLine piece text
plain_seen piece text is signs = rw is (signs_seen piece (signs_of_all piece signs), λ plain. refl)

pub clipped_seen : (piece text clipped : List ℕ) → text ≡ clipped → ¬ (IsPlain piece) → IsSeen clipped → IsSeenLine piece text
clipped_seen piece text clipped is spoiled seen = rw is (seen, λ plain. absurd (spoiled plain))
