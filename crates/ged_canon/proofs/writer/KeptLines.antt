-- Lines that stand in a file as they are written.
use Rattle.std.proofs.Common.{◌≡◌, ◌<◌, ◌+◌, ◌-◌, ◌++◌, ◌∷◌, [], ◌==◌, Bool, true, false, cond, eqb-true, refl, None, Some, ℕ, suc, length, take, drop, slice_range, decimal, codes, sym, ap, ◌∙◌, append_assoc, slice_index_or, arith}
use Rattle.std.proofs.lemmas.List.{take_more, take-append-drop, length-append}
use Rattle.std.proofs.Math.Seq.{take-append-add}
use Rattle.std.proofs.lemmas.Fmt.{decimal_digit}
use Rattle.ged_line.specs.Bytes.{Bytes}
use Rattle.ged_line.specs.Lines.{line_parts, doubled, xref_part}
use Rattle.ged_line.specs.Spelling.{spelling}
use Rattle.ged_tree.specs.DocumentLines.{line_value}

-- bytes that begin with a text and a line feed
pub line_found : (bytes text : Bytes) → length text < length bytes → take (length text) bytes ≡ text → slice_index_or bytes (length text) 0 ≡ 10
    → take (length text + 1) bytes ≡ text ++ 10 ∷ []
line_found bytes text within same end = take_more bytes (length text) 0 within ∙ (λ i. same i ++ end i ∷ [])

-- what stands in a file from a place on
found_at : (file line : Bytes) (place count : ℕ) (text : Bytes) → line ≡ drop place file → take count line ≡ text → slice_range file place (place + count) ≡ text
found_at file line place count text at found =
    let long : place + count - place ≡ count = omega arith in
    ap (λ n. take n (drop place file)) long ∙ ap (λ xs. take count xs) (sym at) ∙ found

-- a line without an identifier
pub line_kept : (file line behind rest : Bytes) (start level : ℕ) → line ≡ drop start file → level < 10 → line ≡ (48 + level) ∷ 32 ∷ behind
    → take (length rest + 1) behind ≡ rest ++ 10 ∷ [] → slice_range file start (start + (2 + length rest + 1)) ≡ (decimal level ++ 32 ∷ rest) ++ 10 ∷ []
line_kept file line behind rest start level at low begins found =
    let count : 2 + length rest + 1 ≡ suc (suc (length rest + 1)) = omega arith in
    found_at file line start (2 + length rest + 1) _ at ((λ i. take (count i) (begins i)) ∙ (λ i. (48 + level) ∷ 32 ∷ found i))
    ∙ (λ i. sym (decimal_digit level low) i ++ (32 ∷ (rest ++ 10 ∷ [])))
    ∙ sym (append_assoc (decimal level) (32 ∷ rest) (10 ∷ []))

-- bytes that begin with an identifier and a space
pub xref_found : (bytes named closed spaced behind name : Bytes) → bytes ≡ 64 ∷ named → take (length name) named ≡ name → closed ≡ drop (length name) named
    → closed ≡ 64 ∷ spaced → spaced ≡ 32 ∷ behind → bytes ≡ xref_part (Some name) ++ behind
xref_found bytes named closed spaced behind name begins same left ends follows =
    begins
    ∙ ap (λ xs. 64 ∷ xs)
    (sym (take-append-drop (length name) named)
    ∙ (λ i. same i ++ (sym left ∙ ends ∙ ap (λ xs. 64 ∷ xs) follows) i)
    ∙ sym (append_assoc name (64 ∷ 32 ∷ []) behind))

-- the line of a record with an identifier
pub record_kept : (file line named behind name rest : Bytes) (start : ℕ) → line ≡ drop start file → line ≡ 48 ∷ 32 ∷ named → named ≡ xref_part (Some name) ++ behind
    → take (length rest + 1) behind ≡ rest ++ 10 ∷ []
    → slice_range file start (start + (length name + 5 + length rest + 1)) ≡ (decimal 0 ++ 32 ∷ (xref_part (Some name) ++ rest)) ++ 10 ∷ []
record_kept file line named behind name rest start at begins identified found =
    let xref = xref_part (Some name) in
    let count : length name + 5 + length rest + 1 ≡ length (48 ∷ 32 ∷ xref) + (length rest + 1) = omega (arith, length-append name (64 ∷ 32 ∷ [])) in
    found_at file line start (length name + 5 + length rest + 1) _ at
    ((λ i. take (count i) ((begins ∙ ap (λ xs. 48 ∷ 32 ∷ xs) identified) i))
    ∙ take-append-add (48 ∷ 32 ∷ xref) behind (length rest + 1)
    ∙ ap (λ xs. (48 ∷ 32 ∷ xref) ++ xs) found)
    ∙ ap (λ xs. 48 ∷ 32 ∷ xs) (sym (append_assoc xref rest (10 ∷ [])))
    ∙ (λ i. (sym (decimal_digit 0 (omega arith)) i ++ 32 ∷ (xref ++ rest)) ++ 10 ∷ [])

-- a CONT line without a text
pub cont_alone : (file line behind value text : Bytes) (place level : ℕ) → line ≡ drop place file → level < 10 → length text ≡ 0
    → line ≡ (48 + level) ∷ 32 ∷ behind → behind ≡ 67 ∷ 79 ∷ 78 ∷ 84 ∷ value → take (length text + 1) value ≡ text ++ 10 ∷ []
    → slice_range file place (place + 7) ≡ spelling (line_parts level None (codes "CONT") (line_value text)) ++ 10 ∷ []
cont_alone file line behind value [] place level at low none begins tagged found =
    found_at file line place 7 _ at
    (ap (λ xs. take 7 xs) begins ∙ ap (λ xs. (48 + level) ∷ 32 ∷ take 5 xs) tagged ∙ (λ i. (48 + level) ∷ 32 ∷ 67 ∷ 79 ∷ 78 ∷ 84 ∷ found i))
    ∙ (λ i. sym (decimal_digit level low) i ++ (32 ∷ 67 ∷ 79 ∷ 78 ∷ 84 ∷ 10 ∷ []))
    ∙ sym (append_assoc (decimal level) (32 ∷ 67 ∷ 79 ∷ 78 ∷ 84 ∷ []) (10 ∷ []))
cont_alone file line behind value (c ∷ cs) place level at low none begins tagged found = absurd (omega (arith, none))

-- one with a text whose first sign is not doubled
pub cont_kept : (file line behind value rest text : Bytes) (place level : ℕ) → line ≡ drop place file → level < 10 → ¬ (length text ≡ 0) → doubled text ≡ text
    → line ≡ (48 + level) ∷ 32 ∷ behind → behind ≡ 67 ∷ 79 ∷ 78 ∷ 84 ∷ value → value ≡ 32 ∷ rest → take (length text + 1) rest ≡ text ++ 10 ∷ []
    → slice_range file place (place + (7 + length text + 1)) ≡ spelling (line_parts level None (codes "CONT") (line_value text)) ++ 10 ∷ []
cont_kept file line behind value rest [] place level at low some single begins tagged spaced found = absurd (omega (arith, some))
cont_kept file line behind value rest (c ∷ cs) place level at low some single begins tagged spaced found =
    let count : 7 + length (c ∷ cs) + 1 ≡ suc (suc (suc (suc (suc (suc (suc (length (c ∷ cs) + 1))))))) = omega arith in
    found_at file line place (7 + length (c ∷ cs) + 1) _ at
    ((λ i. take (count i) (begins i))
    ∙ ap (λ xs. (48 + level) ∷ 32 ∷ take (suc (suc (suc (suc (suc (length (c ∷ cs) + 1)))))) xs) (tagged ∙ ap (λ xs. 67 ∷ 79 ∷ 78 ∷ 84 ∷ xs) spaced)
    ∙ (λ i. (48 + level) ∷ 32 ∷ 67 ∷ 79 ∷ 78 ∷ 84 ∷ 32 ∷ found i))
    ∙ (λ i. sym (decimal_digit level low) i ++ (32 ∷ 67 ∷ 79 ∷ 78 ∷ 84 ∷ 32 ∷ (sym single i ++ 10 ∷ [])))
    ∙ sym (append_assoc (decimal level) (32 ∷ 67 ∷ 79 ∷ 78 ∷ 84 ∷ 32 ∷ doubled (c ∷ cs)) (10 ∷ []))

single_by : (b : Bool) (c : ℕ) (cs : Bytes) → (c == 64) ≡ b → ¬ (c ≡ 64) → cond b (64 ∷ c ∷ cs) (c ∷ cs) ≡ c ∷ cs
single_by true c cs e other = absurd (other (eqb-true c 64 e))
single_by false c cs e other = refl

-- a text that begins with another sign is spelled as it is
pub single_sign : (text : Bytes) → ¬ (slice_index_or text 0 0 ≡ 64) → doubled text ≡ text
single_sign [] other = refl
single_sign (c ∷ cs) other = single_by (c == 64) c cs refl other
