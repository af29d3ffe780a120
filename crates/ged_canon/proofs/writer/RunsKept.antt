-- Runs of a file behind what was made before them.
use Rattle.std.proofs.Common.{◌≡◌, ◌≤◌, ◌+◌, ◌-◌, ◌++◌, ◌∷◌, [], ℕ, List, length, take, drop, decimal, Some, slice_range, take-add, refl, sym, ap, ◌∙◌, append_assoc, append-nil, arith}
use Rattle.std.proofs.lemmas.List.{take_all, drop_all, take-append-le, drop-append-le, length-drop, drop-drop}
use Rattle.std.proofs.lemmas.Fmt.{decimal_digit}
use Rattle.ged_line.specs.Bytes.{Bytes}
use Rattle.ged_line.specs.Lines.{xref_part}
use Rattle.ged_canon.specs.declared.spelled.KeptRun.{KeptRun}
use Rattle.ged_canon.specs.SpelledForms.{joined_runs}
use Rattle.ged_canon.specs.inner.Runs.{made_before, ArePlaced}

-- the bytes of a run behind those before it
behind : (before kept joined more : Bytes) → before ++ (kept ++ (joined ++ more)) ≡ (before ++ (kept ++ joined)) ++ more
behind before kept joined more =
    ap (λ xs. before ++ xs) (sym (append_assoc kept joined more)) ∙ sym (append_assoc before (kept ++ joined) more)

-- what is made behind all runs stands at the end
pub joined_more : (file : Bytes) (runs : List KeptRun) (made more : Bytes) → made_before runs ≤ length made → joined_runs file runs (made ++ more) ≡ joined_runs file runs made ++ more
joined_more file [] made more h = refl
joined_more file (run ∷ runs) made more h =
    let few : run.made ≤ length made = omega (arith, h) in
    let kept = take run.length (drop run.start file) in
    (λ i. take-append-le run.made made more few i ++ (kept ++ joined_runs file runs (drop-append-le run.made made more few i)))
    ∙ ap (λ xs. take run.made made ++ (kept ++ xs)) (joined_more file runs (drop run.made made) more (omega (arith, h, length-drop run.made made)))
    ∙ behind (take run.made made) kept (joined_runs file runs (drop run.made made)) more

-- all that was made stands before a last run
pub before_last : (runs : List KeptRun) (run : KeptRun) → made_before (runs ++ run ∷ []) ≡ made_before runs + run.made
before_last [] run = omega arith
before_last (first ∷ runs) run = omega (arith, before_last runs run)

-- so does the run
pub joined_last : (file : Bytes) (runs : List KeptRun) (made : Bytes) (run : KeptRun) → made_before runs ≤ length made → run.made ≡ length made - made_before runs
    → joined_runs file (runs ++ run ∷ []) made ≡ joined_runs file runs made ++ take run.length (drop run.start file)
joined_last file [] made run h e =
    let all : length made ≤ run.made = omega (arith, e) in
    let kept = take run.length (drop run.start file) in
    (λ i. take_all run.made made all i ++ (kept ++ drop_all run.made made all i)) ∙ ap (λ xs. made ++ xs) (append-nil kept)
joined_last file (first ∷ runs) made run h e =
    let kept = take first.length (drop first.start file) in
    let left = length-drop first.made made in
    ap (λ xs. take first.made made ++ (kept ++ xs)) (joined_last file runs (drop first.made made) run (omega (arith, h, left)) (omega (arith, h, e, left)))
    ∙ behind (take first.made made) kept (joined_runs file runs (drop first.made made)) (take run.length (drop run.start file))

-- what is made behind a run that has ended stands behind all that was written
pub settled : (file : Bytes) (old_runs runs : List KeptRun) (old_made made text before after : Bytes) (start end from dest placed : ℕ)
    → from ≡ start → dest ≡ end
    → joined_runs file old_runs old_made ++ slice_range file start end ≡ before
    → joined_runs file runs made ≡ joined_runs file old_runs old_made ++ slice_range file from end
    → ArePlaced runs made placed → after ≡ made ++ text
    → joined_runs file runs after ++ slice_range file dest end ≡ before ++ text
settled file old_runs runs old_made made text before after start end from dest placed begins ends was joined (fit, few) told =
    let none : end - dest ≡ 0 = omega (arith, ends) in
    ap (λ n. joined_runs file runs after ++ take n (drop dest file)) none
    ∙ append-nil (joined_runs file runs after)
    ∙ ap (λ xs. joined_runs file runs xs) told
    ∙ joined_more file runs made text (omega (arith, fit, few))
    ∙ ap (λ xs. xs ++ text) (joined ∙ ap (λ n. joined_runs file old_runs old_made ++ slice_range file n end) begins ∙ was)

-- a run goes on
pub goes_on : (file before : Bytes) (joined : Bytes) (start place end : ℕ) → start ≤ place → place ≤ end
    → joined ++ slice_range file start place ≡ before → joined ++ slice_range file start end ≡ before ++ slice_range file place end
goes_on file before joined start place end low high was =
    let all : end - start ≡ (place - start) + (end - place) = omega (arith, low, high) in
    let from : start + (place - start) ≡ place = omega (arith, low) in
    ap (λ n. joined ++ take n (drop start file)) all
    ∙ ap (λ xs. joined ++ xs) (take-add (place - start) (end - place) (drop start file)
    ∙ ap (λ xs. take (place - start) (drop start file) ++ take (end - place) xs) (drop-drop (place - start) start file ∙ ap (λ n. drop n file) from))
    ∙ sym (append_assoc joined (slice_range file start place) (slice_range file place end))
    ∙ ap (λ xs. xs ++ slice_range file place end) was

-- a head, a rest behind it and a line feed
pub head_and_rest : (made level name rest head whole : Bytes) → head ≡ made ++ (level ++ 32 ∷ name) → whole ≡ head ++ rest
    → whole ++ 10 ∷ [] ≡ made ++ ((level ++ 32 ∷ (name ++ rest)) ++ 10 ∷ [])
head_and_rest made level name rest head whole first then =
    ap (λ xs. xs ++ 10 ∷ []) (then ∙ ap (λ xs. xs ++ rest) first ∙ append_assoc made (level ++ 32 ∷ name) rest ∙ ap (λ xs. made ++ xs) (append_assoc level (32 ∷ name) rest))
    ∙ append_assoc made (level ++ 32 ∷ (name ++ rest)) (10 ∷ [])

-- a line whose value is a pointer to a number: its front, and what ends it
pub numbered_line : (made level name tag digits spelled front : Bytes) → front ≡ made ++ ((level ++ 32 ∷ name) ++ (tag ++ (32 ∷ 64 ∷ 88 ∷ []))) → digits ≡ spelled
    → front ++ (digits ++ 64 ∷ 10 ∷ []) ≡ made ++ ((level ++ 32 ∷ (name ++ (tag ++ (32 ∷ 64 ∷ 88 ∷ (spelled ++ 64 ∷ []))))) ++ 10 ∷ [])
numbered_line made level name tag digits spelled front begins told =
    let head = level ++ 32 ∷ name in
    let sign = 32 ∷ 64 ∷ 88 ∷ [] in
    let end = spelled ++ 64 ∷ 10 ∷ [] in
    let signed = 32 ∷ 64 ∷ 88 ∷ (spelled ++ 64 ∷ []) in
    (λ i. begins i ++ (told i ++ 64 ∷ 10 ∷ []))
    ∙ append_assoc made (head ++ (tag ++ sign)) end
    ∙ ap (λ xs. made ++ xs)
    (append_assoc head (tag ++ sign) end
    ∙ ap (λ xs. head ++ xs) (append_assoc tag sign end)
    ∙ append_assoc level (32 ∷ name) (tag ++ (32 ∷ 64 ∷ 88 ∷ end))
    ∙ ap (λ xs. level ++ 32 ∷ (name ++ (tag ++ (32 ∷ 64 ∷ 88 ∷ xs)))) (sym (append_assoc spelled (64 ∷ []) (10 ∷ [])))
    ∙ ap (λ xs. level ++ 32 ∷ (name ++ xs)) (sym (append_assoc tag signed (10 ∷ [])))
    ∙ ap (λ xs. level ++ 32 ∷ xs) (sym (append_assoc name (tag ++ signed) (10 ∷ [])))
    ∙ sym (append_assoc level (32 ∷ (name ++ (tag ++ signed))) (10 ∷ [])))

-- the own line of a record with a number: its front up to the number, what closes that, and its rest
pub record_line : (made digits spelled rest front : Bytes) → front ≡ (made ++ 48 ∷ 32 ∷ 64 ∷ 88 ∷ []) ++ (digits ++ 64 ∷ 32 ∷ []) → digits ≡ spelled
    → front ++ (rest ++ 10 ∷ []) ≡ made ++ ((decimal 0 ++ 32 ∷ (xref_part (Some (88 ∷ spelled)) ++ rest)) ++ 10 ∷ [])
record_line made digits spelled rest front begins told =
    let closed = spelled ++ 64 ∷ 32 ∷ [] in
    (λ i. begins i ++ (rest ++ 10 ∷ []))
    ∙ (λ i. ((made ++ 48 ∷ 32 ∷ 64 ∷ 88 ∷ []) ++ (told i ++ 64 ∷ 32 ∷ [])) ++ (rest ++ 10 ∷ []))
    ∙ append_assoc (made ++ 48 ∷ 32 ∷ 64 ∷ 88 ∷ []) closed (rest ++ 10 ∷ [])
    ∙ append_assoc made (48 ∷ 32 ∷ 64 ∷ 88 ∷ []) (closed ++ (rest ++ 10 ∷ []))
    ∙ ap (λ xs. made ++ 48 ∷ 32 ∷ 64 ∷ 88 ∷ xs) (sym (append_assoc closed rest (10 ∷ [])))
    ∙ ap (λ xs. made ++ ((xs ++ 32 ∷ (xref_part (Some (88 ∷ spelled)) ++ rest)) ++ 10 ∷ [])) (sym (decimal_digit 0 (omega arith)))
