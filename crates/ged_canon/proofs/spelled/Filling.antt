-- What was put into a buffer of the bytes of a form.
use Rattle.std.proofs.Common.{◌≡◌, ◌≤◌, ◌+◌, ◌-◌, ◌++◌, ◌∷◌, [], List, length, take, drop, sym, ap, ◌∙◌, append_assoc, arith, take-add, ℕ, length-append, length-drop, append-nil, ◌<◌, ◌==◌, ⊎_elim, eqb-true, true}
use Rattle.std.proofs.lemmas.List.{length-take-le, length-take, take_all, take_rest, drop-drop, drop_all, nil_from_length}
use Rattle.std.proofs.lemmas.Bool.{cases_lt}
use Rattle.std.proofs.lemmas.Slice.{drop-put_mid, take-put_mid}
use Rattle.std.proofs.Math.Seq.{take-append-add, take-append_seam, drop-append_seam, drop-append-add}
use borrow.Rule.Slice.PartMut.{put_mid, same_len_mid}
use Rattle.ged_line.specs.Bytes.{Bytes}
use Rattle.ged_canon.specs.SpelledForms.{joined_runs}
use Rattle.ged_canon.specs.declared.spelled.KeptRun.{KeptRun}

-- so many bytes stand at the front of a buffer, the others are left, and what all of them would not reach is as it was
pub record IsFilled (bytes before buffer self : Bytes) (filled : ℕ) : Type 0 where
  pub room : filled ≤ length buffer
  pub long : length buffer ≡ length before
  pub few : filled ≤ length bytes
  pub front : take filled buffer ≡ take filled bytes
  pub rest : self ≡ drop filled bytes
  pub behind : drop (length bytes) buffer ≡ drop (length bytes) before

-- a buffer of which all from some byte on was given away and came back
pub tail_put : (filled : ℕ) (buffer tail : Bytes) → put_mid filled (length buffer - filled) buffer tail ≡ take filled buffer ++ tail
tail_put filled buffer tail =
    let none : drop (length buffer - filled) (drop filled buffer) ≡ [] = drop_all (length buffer - filled) (drop filled buffer) (omega (arith, length-drop filled buffer)) in
    ap (λ xs. take filled buffer ++ (tail ++ xs)) none ∙ ap (λ xs. take filled buffer ++ xs) (append-nil tail)

-- its first bytes are those before that byte and the first of what came back
pub tail_front : (filled count : ℕ) (buffer tail : Bytes) → filled ≤ length buffer
    → take (filled + count) (put_mid filled (length buffer - filled) buffer tail) ≡ take filled buffer ++ take count tail
tail_front filled count buffer tail few =
    ap (λ xs. take (filled + count) xs) (tail_put filled buffer tail)
    ∙ ap (λ n. take (n + count) (take filled buffer ++ tail)) (sym (length-take-le filled buffer few))
    ∙ take-append-add (take filled buffer) tail count

-- its last bytes are the last of what came back
pub tail_behind : (filled at : ℕ) (buffer tail : Bytes) → filled ≤ length buffer
    → drop (filled + at) (put_mid filled (length buffer - filled) buffer tail) ≡ drop at tail
tail_behind filled at buffer tail few =
    ap (λ xs. drop (filled + at) xs) (tail_put filled buffer tail)
    ∙ ap (λ n. drop (n + at) (take filled buffer ++ tail)) (sym (length-take-le filled buffer few))
    ∙ drop-append-add (take filled buffer) tail at

-- what a buffer has from some byte on
abbrev pub tail_from : ℕ → Bytes → Bytes
tail_from filled buffer = take (length buffer - filled) (drop filled buffer)

tail_long : (filled : ℕ) (buffer : Bytes) → length (tail_from filled buffer) ≡ length buffer - filled
tail_long filled buffer = ap length (take_rest buffer filled) ∙ length-drop filled buffer

-- so they are as they were, if they are so in both
pub tail_stays : (before buffer tail : Bytes) (filled at : ℕ) → filled ≤ length buffer → filled ≤ at
    → drop (at - filled) tail ≡ drop (at - filled) (tail_from filled buffer) → drop at buffer ≡ drop at before
    → drop at (put_mid filled (length buffer - filled) buffer tail) ≡ drop at before
tail_stays before buffer tail filled at few far same as_before =
    let sum : at ≡ filled + (at - filled) = omega arith in
    ap (λ n. drop n (put_mid filled (length buffer - filled) buffer tail)) sum
    ∙ tail_behind filled (at - filled) buffer tail few ∙ same ∙ ap (λ xs. drop (at - filled) xs) (take_rest buffer filled)
    ∙ drop-drop (at - filled) filled buffer ∙ ap (λ n. drop n buffer) (sym sum) ∙ as_before

-- more of the bytes were put behind those that were
pub put_more : (bytes before buffer self new tail : Bytes) (filled count : ℕ) → IsFilled bytes before buffer self filled
    → count ≤ length (tail_from filled buffer) → count ≤ length self → length tail ≡ length (tail_from filled buffer)
    → take count tail ≡ take count self → drop (length self) tail ≡ drop (length self) (tail_from filled buffer) → new ≡ drop count self
    → IsFilled bytes before (put_mid filled (length buffer - filled) buffer tail) new (filled + count)
put_more bytes before buffer self new tail filled count h fits among whole front behind rest =
    let room = h.room in
    let few = h.few in
    let long = h.long in
    let left : length self ≡ length bytes - filled = ap length h.rest ∙ length-drop filled bytes in
    let size = tail_long filled buffer in
    let all : length (put_mid filled (length buffer - filled) buffer tail) ≡ length buffer =
    ap length (tail_put filled buffer tail) ∙ length-append (take filled buffer) tail
    ∙ omega (arith, length-take-le filled buffer room, size, whole, room) in
    record {
      room = omega arith;
      long = all ∙ long;
      few = omega arith;
      front = tail_front filled count buffer tail room ∙ (λ i. h.front i ++ front i)
          ∙ ap (λ xs. take filled bytes ++ take count xs) h.rest ∙ sym (take-add filled count bytes);
      rest = rest ∙ ap (λ xs. drop count xs) h.rest ∙ drop-drop count filled bytes;
      behind = tail_stays before buffer tail filled (length bytes) room few
          (ap (λ n. drop n tail) (sym left) ∙ behind ∙ ap (λ n. drop n (tail_from filled buffer)) left) h.behind;
    }

-- the next piece was put behind those that were
pub piece_more : (bytes before buffer self piece new text : Bytes) (filled k : ℕ) → IsFilled bytes before buffer self filled
    → self ≡ piece ++ new → length piece ≤ length buffer - filled → k ≡ length piece → text ≡ piece
    → IsFilled bytes before (put_mid filled k buffer text) new (filled + length piece)
piece_more bytes before buffer self piece new text filled k h s room same copied =
    let few = h.room in
    let within = h.few in
    let count = ap length copied in
    let parts : length bytes - filled ≡ length piece + length new =
    sym (length-drop filled bytes) ∙ ap length (sym h.rest ∙ s) ∙ length-append piece new in
    let long = same_len_mid filled k buffer text (omega (arith, count, same, room, few, length-take-le k (drop filled buffer) (omega (arith, same, room, few, length-drop filled buffer)))) in
    record {
      room = omega (arith, long, few, room);
      long = long ∙ h.long;
      few = omega (arith, parts, within);
      front = take-put_mid filled k buffer text (filled + length piece) (omega (arith, count)) few
          ∙ (λ i. h.front i ++ copied i)
          ∙ ap (λ xs. take filled bytes ++ xs) (sym (ap (λ xs. take (length piece) xs) (sym h.rest ∙ s) ∙ take-append_seam piece new))
          ∙ sym (take-add filled (length piece) bytes);
      rest = sym (drop-append_seam piece new) ∙ ap (λ xs. drop (length piece) xs) (sym s ∙ h.rest) ∙ drop-drop (length piece) filled bytes;
      behind = drop-put_mid filled k buffer text (length bytes) (omega (arith, same, parts, within)) few (count ∙ sym same) ∙ h.behind;
    }

-- a form has all bytes that were made
pub made_within : (file : Bytes) (runs : List KeptRun) (made : Bytes) → length made ≤ length (joined_runs file runs made)
made_within file [] made = omega arith
made_within file (run ∷ runs) made =
    let rest = joined_runs file runs (drop run.made made) in
    let kept = take run.length (drop run.start file) in
    omega (
      arith,
      made_within file runs (drop run.made made),
      length-take run.made made,
      length-drop run.made made,
      length-append (take run.made made) (kept ++ rest),
      length-append kept rest,
    )

-- where no byte is left or no room, the buffer has all that it can take
pub filled_whole : (bytes before buffer self : Bytes) (filled : ℕ) → IsFilled bytes before buffer self filled
    → (0 < length buffer - filled → self ≡ [])
    → (take filled buffer ≡ take (length before) bytes) × (drop filled buffer ≡ drop filled before)
filled_whole bytes before buffer self filled h last =
    let room = h.room in
    let few = h.few in
    let long = h.long in
    ⊎_elim
    (λ more. let none : length bytes ≡ filled = omega (arith, more, few, length-drop filled bytes, ap length (sym h.rest ∙ last (omega (arith, more)))) in (
      h.front ∙ take_all filled bytes (omega (arith, none)) ∙ sym (take_all (length before) bytes (omega (arith, none, room, long))),
      ap (λ n. drop n buffer) (sym none) ∙ h.behind ∙ ap (λ n. drop n before) none,
    ))
    (λ full. let same : filled ≡ length before = omega (arith, full, room, long) in (
      h.front ∙ ap (λ n. take n bytes) same,
      drop_all filled buffer (omega (arith, full)) ∙ sym (drop_all filled before (omega (arith, same))),
    ))
    (cases_lt filled (length buffer))

-- what is left of a form begins with what was made before its next run, and the run
pub run_first : (bytes kept file made : Bytes) (all runs : List KeptRun) (run : KeptRun)
    → kept ++ joined_runs file all made ≡ bytes → true ≡ (length kept == 0) → all ≡ run ∷ runs
    → bytes ≡ take run.made made ++ (take run.length (tail_from run.start file) ++ (kept ++ joined_runs file runs (tail_from run.made made)))
run_first bytes kept file made all runs run view empty first =
    let none : kept ≡ [] = nil_from_length kept (eqb-true (length kept) 0 (sym empty)) in
    sym view ∙ (λ i. none i ++ joined_runs file (first i) made)
    ∙ (λ i. take run.made made ++ (take run.length (sym (take_rest file run.start) i) ++ (sym none i ++ joined_runs file runs (sym (take_rest made run.made) i))))

-- a run was put behind what was made before it
pub run_front : (bytes made kept rest buffer : Bytes) (m k : ℕ) → bytes ≡ made ++ (kept ++ rest) → length made ≡ m → length kept ≡ k
    → take (m + k) buffer ≡ made ++ kept → take (m + k) buffer ≡ take (m + k) bytes
run_front bytes made kept rest buffer m k whole m_is k_is put =
    let size : length (made ++ kept) ≡ m + k = length-append made kept ∙ (λ i. m_is i + k_is i) in
    put ∙ sym (ap (λ xs. take (m + k) xs) (whole ∙ sym (append_assoc made kept rest)) ∙ ap (λ n. take n ((made ++ kept) ++ rest)) (sym size)
    ∙ take-append_seam (made ++ kept) rest)

pub run_rest : (bytes made kept rest : Bytes) (m k : ℕ) → bytes ≡ made ++ (kept ++ rest) → length made ≡ m → length kept ≡ k
    → rest ≡ drop (m + k) bytes
run_rest bytes made kept rest m k whole m_is k_is =
    let size : length (made ++ kept) ≡ m + k = length-append made kept ∙ (λ i. m_is i + k_is i) in
    sym (ap (λ xs. drop (m + k) xs) (whole ∙ sym (append_assoc made kept rest)) ∙ ap (λ n. drop n ((made ++ kept) ++ rest)) (sym size)
    ∙ drop-append_seam (made ++ kept) rest)

-- a block that is no longer than what was made behind the run does not reach behind the form
pub run_reaches : (bytes kept file made : Bytes) (all runs : List KeptRun) (run : KeptRun) (block : ℕ)
    → kept ++ joined_runs file all made ≡ bytes → true ≡ (length kept == 0) → all ≡ run ∷ runs → run.made + block ≤ length made
    → (block ≤ length bytes) × (length (take run.made made) + block ≤ length bytes)
    × (length (take run.made made) + length (take run.length (tail_from run.start file)) ≤ length bytes)
run_reaches bytes kept file made all runs run block view empty next far =
    let first = take run.made made in
    let second = take run.length (tail_from run.start file) in
    let rest = joined_runs file runs (tail_from run.made made) in
    let long : length bytes ≡ length first + (length second + (length kept + length rest)) =
    ap length (run_first bytes kept file made all runs run view empty next) ∙ length-append first (second ++ (kept ++ rest))
    ∙ ap (λ n. length first + n) (length-append second (kept ++ rest) ∙ ap (λ n. length second + n) (length-append kept rest)) in
    let within = made_within file runs (tail_from run.made made) in
    let left = tail_long run.made made in
    (omega (arith, long, within, left, far), omega (arith, long, within, left, far), omega (arith, long))
