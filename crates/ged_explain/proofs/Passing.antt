-- The piece that comes when some were passed, and those that are left behind it.
use Rattle.std.proofs.Common.{◌≡◌, ℕ, suc, zero, ◌+◌, ◌-◌, ◌≤◌, List, [], ◌∷◌, Option, Some, None, MatchOption, length, drop, slice_get, option_map, refl, ◌∙◌, ap, arith}
use Rattle.std.specs.Iterator.{Yields, SkipsThenYields, YieldsFirstRef}
use Rattle.std.proofs.lemmas.List.{drop-drop}
use Rattle.std.proofs.lemmas.Iterator.Consumers.{nth_from_yields_List, YieldsList-from_first}
use denote.Ref.{Bor}
use Rattle.ged_line.specs.Bytes.{Bytes}
use Rattle.ged_line.specs.Pieces.{ArePiecesOf}
use Rattle.ged_explain.specs.Showing.{IsPieceAt}
use Rattle.ged_explain.specs.inner.Passing.{HasPassed}

abbrev Gives : List Bytes → Option (Bor Bytes) → List Bytes → Type 0
Gives = YieldsFirstRef (λ pieces. pieces)

none_passed : (piece : Option (Bor Bytes)) (count : ℕ) → MatchOption piece (suc count ≤ 0) (λ _. suc count ≡ 0) → ⊥
none_passed None count most = let least : suc count ≤ 0 = most in omega arith
none_passed (Some piece) count same = let least : suc count ≡ 0 = same in omega arith

one_fewer : (piece : Option (Bor Bytes)) (a b : ℕ) → MatchOption piece (suc a ≤ suc b) (λ _. suc a ≡ suc b) → MatchOption piece (a ≤ b) (λ _. a ≡ b)
one_fewer None a b most = let more : suc a ≤ suc b = most in omega arith
one_fewer (Some piece) a b same = let more : suc a ≡ suc b = same in omega arith

left_behind : (passed : List (Bor Bytes)) (piece : Option (Bor Bytes)) (from to left : List Bytes) (count : ℕ) → Yields Gives from passed to → Gives to piece left
    → MatchOption piece (length passed ≤ count) (λ _. length passed ≡ count) → left ≡ drop (suc count) from
left_behind [] None from to left count same given most = rw (same, given.0) given.1
left_behind [] (Some piece) from to left count same given none = rw (← none, same, given) refl
left_behind (first ∷ passed) piece from to left zero came given most = absurd (none_passed piece (length passed) most)
left_behind (first ∷ passed) piece from to left (suc count) came given most =
    rw came.1 (left_behind passed piece came.0 to left count came.2 given (one_fewer piece (length passed) count most))

nth_drop : (n : ℕ) (pieces : List Bytes) (k : ℕ) → slice_get (drop n pieces) k ≡ slice_get pieces (n + k)
nth_drop zero pieces k = let same : k ≡ 0 + k = omega arith in ap (slice_get pieces) same
nth_drop (suc n) [] k = refl
nth_drop (suc n) (piece ∷ pieces) k =
    let same : suc (n + k) ≡ suc n + k = omega arith in nth_drop n pieces k ∙ ap (slice_get (piece ∷ pieces)) same

pub at_start : {bytes : Bytes} {pieces : List Bytes} → ArePiecesOf bytes pieces → HasPassed bytes 0 pieces
at_start {pieces = pieces} cut = (pieces, cut, refl)

-- the piece behind so many more is the one of its number, and as many are passed as that tells
pub passed_on : (bytes : Bytes) (passed between line : ℕ) (rest : List Bytes) (piece : Option (Bor Bytes)) (left : List Bytes) → line ≡ passed + 1 + between
    → HasPassed bytes passed rest → SkipsThenYields Gives rest between piece left
    → IsPieceAt bytes line (option_map (λ piece. piece.now) piece) × HasPassed bytes line left
passed_on bytes passed between line rest piece left number (pieces, cut, is) skipped =
    let found : option_map (λ piece. piece.now) piece ≡ slice_get rest between =
    nth_from_yields_List piece left between skipped (YieldsList-from_first (λ x. x.now) (λ pieces. pieces) rest refl) in
    let place : passed + between ≡ line - 1 = omega arith in
    let behind : left ≡ drop (suc between) rest = left_behind skipped.0 piece rest skipped.1.0 left between skipped.1.1 skipped.1.2 skipped.2 in
    let more : passed + suc between ≡ line = omega arith in (
      (
        λ none. absurd (omega arith),
        λ some. (pieces, cut, found ∙ ap (λ list. slice_get list between) is ∙ nth_drop passed pieces between ∙ ap (slice_get pieces) place),
      ),
      (pieces, cut, behind ∙ ap (drop (suc between)) is ∙ drop-drop (suc between) passed pieces ∙ ap (λ n. drop n pieces) more),
    )
