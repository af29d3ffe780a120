-- The pieces of a file: what stands between its line ends (FamilySearch GEDCOM 7.0, "Lines" and "Characters").
use Rattle.std.specs.Prelude.{◌==◌, ◌&&◌, ◌||◌, if◌then◌else◌, ◌≡◌, ◌≢◌, ℕ, List, [], ◌∷◌, ◌++◌, ◌⊎◌}
use Rattle.std.specs.List.{AllByRecursion}
use Rattle.ged_line.specs.Bytes.{Bytes, carriage_return, line_feed}

-- a line end before these bytes: CR LF, LF or CR; a CR before a LF is half an end
abbrev pub IsEnd : Bytes → Bytes → Type 0
IsEnd end rest = (end ≡ carriage_return ∷ line_feed ∷ [])
    ⊎ ((end ≡ line_feed ∷ []) ⊎ ((end ≡ carriage_return ∷ []) × ((more : Bytes) → rest ≢ line_feed ∷ more)))

abbrev pub HasNoEnd : Bytes → Type 0
HasNoEnd bytes = AllByRecursion (λ b. (b ≢ carriage_return) × (b ≢ line_feed)) bytes

-- the first piece of bytes, which have no mark, and what is left of them: behind the piece stands one whole end and then
-- the rest, or nothing
abbrev pub IsFirstPiece : Bytes → Bytes → Bytes → Type 0
IsFirstPiece bytes piece rest = HasNoEnd piece
    × (((end : Bytes) × IsEnd end rest × (bytes ≡ piece ++ (end ++ rest)))
    ⊎ ((bytes ≡ piece) × (rest ≡ []) × (piece ≢ [])))

-- the bytes, which have no mark, are cut into these pieces at their line ends; nothing follows a last end
abbrev pub AreCutInto : Bytes → List Bytes → Type 0
AreCutInto bytes [] = bytes ≡ []
AreCutInto bytes (piece ∷ pieces) = HasNoEnd piece
    × (((pieces ≡ []) × (bytes ≡ piece) × (piece ≢ []))
    ⊎ ((end rest : Bytes) × IsEnd end rest × (bytes ≡ piece ++ (end ++ rest)) × AreCutInto rest pieces))

-- what stands behind the byte order mark of a file; of a file that does not begin with one, the whole file
abbrev pub IsBehindMark : Bytes → Bytes → Type 0
IsBehindMark file bytes = (file ≡ 0xEF ∷ 0xBB ∷ 0xBF ∷ bytes)
    ⊎ ((file ≡ bytes) × ((rest : Bytes) → file ≢ 0xEF ∷ 0xBB ∷ 0xBF ∷ rest))

-- the pieces of a file
abbrev pub ArePiecesOf : Bytes → List Bytes → Type 0
ArePiecesOf file pieces = (bytes : Bytes) × IsBehindMark file bytes × AreCutInto bytes pieces

-- the byte put at the front of the first piece
abbrev pub with_front : ℕ → List Bytes → List Bytes
with_front b [] = (b ∷ []) ∷ []
with_front b (piece ∷ pieces) = (b ∷ piece) ∷ pieces

-- The pieces computed: how a value of `Pieces` is seen. `split_pieces` ties it to `ArePiecesOf`.
abbrev pub pieces_of : Bytes → List Bytes
pieces_of [] = []
pieces_of (b ∷ []) = if b == carriage_return || b == line_feed then [] ∷ [] else (b ∷ []) ∷ []
pieces_of (b ∷ c ∷ bs) =
    if b == carriage_return && c == line_feed then [] ∷ pieces_of bs
    else (if b == carriage_return || b == line_feed then [] ∷ pieces_of (c ∷ bs) else with_front b (pieces_of (c ∷ bs)))
