-- Bytes that are read piece by piece.
use Rattle.std.proofs.Common.{◌≡◌, ◌++◌, sym, ap, ◌∙◌, append_assoc}
use Rattle.ged_line.specs.Bytes.{Bytes}

-- one more piece was read
pub read_more : (whole left front piece rest : Bytes) → whole ≡ front ++ left → left ≡ piece ++ rest → whole ≡ (front ++ piece) ++ rest
read_more whole left front piece rest was next = was ∙ ap (λ xs. front ++ xs) next ∙ sym (append_assoc front piece rest)
