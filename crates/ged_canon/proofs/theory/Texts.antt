-- Texts compared by their bytes.
use Rattle.std.proofs.Common.{◌≡◌, true, false}
use Rattle.std.specs.Str.{bytes_eq}
use Rattle.std.specs.Cmp.Lexicographic.{bytes_decides}
use Rattle.std.proofs.lemmas.Bool.{false_from_ne_true}
use Rattle.ged_line.specs.Bytes.{Bytes}

pub same_bytes : (a b : Bytes) → a ≡ b → bytes_eq a b ≡ true
same_bytes a b e = (bytes_decides a b).1 e

pub equal_bytes : (a b : Bytes) → bytes_eq a b ≡ true → a ≡ b
equal_bytes a b e = (bytes_decides a b).0 e

pub other_bytes : (a b : Bytes) → (a ≡ b → ⊥) → bytes_eq a b ≡ false
other_bytes a b ne = false_from_ne_true (bytes_eq a b) (λ e. ne (equal_bytes a b e))
