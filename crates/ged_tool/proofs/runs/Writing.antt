-- What a writer takes of parts that are written one behind the other.
use Rattle.std.proofs.Common.{◌≡◌, ℕ, zero, suc, ◌+◌, ◌<◌, ◌≤◌, List, [], ◌∷◌, ◌++◌, length, get_or, take, drop, Option, refl, sym, ◌∙◌, ap, subst, take-append-drop, arith}
use Rattle.std.proofs.lemmas.List.{append-nil, append_assoc, drop_more, drop_all, length-drop, length-take-le}
use Rattle.std.proofs.Math.Seq.{take-nil}
use Rattle.std.specs.Io.{StartsWith}
use Rattle.std.specs.Io.KnownBytes.{Appends}
use Rattle.std.proofs.KnownBytes.{Appends-nil, Appends-trans}
use Rattle.ged_devices.proofs.CallerLemmas.{starts_behind, starts_before}
use Rattle.ged_line.specs.Bytes.{Bytes}
use Rattle.ged_line.specs.Files.{joined_parts}
use Rattle.ged_line.specs.declared.file.spelled_part.SpelledPart.{SpelledPart}

-- so many parts were written
abbrev pub AreWritten : (taken holds : Option Bytes) → List SpelledPart → ℕ → Type 0
AreWritten taken holds parts count = (front : Bytes) × Appends taken holds front × (joined_parts parts ≡ front ++ joined_parts (drop count parts))

pub AreWritten-start : (taken : Option Bytes) (parts : List SpelledPart) → AreWritten taken taken parts 0
AreWritten-start taken parts = ([], Appends-nil taken, refl)

next_part : (parts : List SpelledPart) (count : ℕ) (part : SpelledPart) → count < length parts → part ≡ get_or parts count part
    → joined_parts (drop count parts) ≡ (part.made.items ++ part.kept.now) ++ joined_parts (drop (count + 1) parts)
next_part parts count part within is =
    ap joined_parts (drop_more parts count part within ∙ ap (λ p. p ∷ drop (count + 1) parts) (sym is)) ∙ sym (append_assoc part.made.items part.kept.now (joined_parts (drop (count + 1) parts)))

pub AreWritten-more : (taken before holds : Option Bytes) (parts : List SpelledPart) (count : ℕ) (part : SpelledPart) → count < length parts → part ≡ get_or parts count part
    → Appends before holds (part.made.items ++ part.kept.now) → AreWritten taken before parts count → AreWritten taken holds parts (count + 1)
AreWritten-more taken before holds parts count part within is more (front, took, split) =
    let both = part.made.items ++ part.kept.now in (
      front ++ both,
      Appends-trans taken before holds front both took more,
      split ∙ ap (λ x. front ++ x) (next_part parts count part within is) ∙ sym (append_assoc front both (joined_parts (drop (count + 1) parts))),
    )

pub AreWritten-all : (taken holds : Option Bytes) (parts : List SpelledPart) (count : ℕ) → length parts ≤ count → AreWritten taken holds parts count → Appends taken holds (joined_parts parts)
AreWritten-all taken holds parts count past (front, took, split) =
    let all : joined_parts parts ≡ front = split ∙ ap (λ x. front ++ joined_parts x) (drop_all count parts past) ∙ append-nil front in
    subst (Appends taken holds) (sym all) took

-- a part of which a front was written
pub AreWritten-stops : (taken before holds : Option Bytes) (parts : List SpelledPart) (count : ℕ) (part : SpelledPart) (written : Bytes) → count < length parts → part ≡ get_or parts count part
    → Appends before holds written → StartsWith (part.made.items ++ part.kept.now) written → AreWritten taken before parts count
    → (all : Bytes) × Appends taken holds all × StartsWith (joined_parts parts) all
AreWritten-stops taken before holds parts count part written within is more starts (front, took, split) =
    let both = part.made.items ++ part.kept.now in
    let rest = joined_parts (drop (count + 1) parts) in
    let begins : StartsWith (front ++ (both ++ rest)) (front ++ written) = starts_behind front (both ++ rest) written (starts_before both rest written starts) in (
      front ++ written,
      Appends-trans taken before holds front written took more,
      subst (λ x. StartsWith x (front ++ written)) (sym (split ∙ ap (λ x. front ++ x) (next_part parts count part within is))) begins,
    )

-- a text that was written, and then the front of another
pub then_front : (taken before holds : Option Bytes) (first second written : Bytes) → Appends taken before first → Appends before holds written → StartsWith second written
    → (all : Bytes) × Appends taken holds all × StartsWith (first ++ second) all
then_front taken before holds first second written took more starts =
    (first ++ written, Appends-trans taken before holds first written took more, starts_behind first second written starts)

-- what was read to the front of a buffer, and what is left
pub filled : (left buffer rest : Bytes) (room count : ℕ) → take count buffer ≡ take room left → rest ≡ drop room left → left ≡ take count buffer ++ rest
filled left buffer rest room count front behind = sym (take-append-drop room left) ∙ (λ i. sym front i ++ sym behind i)

-- nothing is left where none was read
pub none_left : (left : Bytes) (room : ℕ) → 0 < room → [] ≡ take room left → left ≡ []
none_left [] room some e = refl
none_left (b ∷ bs) zero some e = absurd (omega (arith, some))
none_left (b ∷ bs) (suc room) some e = let none : 0 ≡ suc (length (take room bs)) = ap length e in absurd (omega (arith, none))

-- fewer are left where some were
pub fewer_left : (left buffer rest : Bytes) (room count : ℕ) → 0 < room → 0 < count → count ≤ length buffer → take count buffer ≡ take room left → rest ≡ drop room left → length rest < length left
fewer_left [] buffer rest room count some read fits front behind =
    let none : length (take count buffer) ≡ 0 = ap length front ∙ ap length (take-nil room) in absurd (omega (arith, read, none, length-take-le count buffer fits))
fewer_left (b ∷ bs) buffer rest room count some read fits front behind = omega (arith, some, ap length behind, length-drop room (b ∷ bs))

-- a buffer of which a front was written, behind what was
pub through_stops : (taken before holds : Option Bytes) (whole left front piece rest written : Bytes) → whole ≡ front ++ left → left ≡ piece ++ rest
    → Appends taken before front → Appends before holds written → StartsWith piece written → (all : Bytes) × Appends taken holds all × StartsWith whole all
through_stops taken before holds whole left front piece rest written was next went more starts =
    let (all, took, begins) = then_front taken before holds front (piece ++ rest) written went more (starts_before piece rest written starts) in
    (all, took, subst (λ x. StartsWith x all) (sym (was ∙ ap (λ xs. front ++ xs) next)) begins)
