-- What was read of the bytes of a form, and what is left of them.
use Rattle.std.proofs.Common.{◌≡◌, ◌≤◌, ◌+◌, ◌++◌, length, take, sym, ap, ◌∙◌, append_assoc}
use Rattle.std.proofs.lemmas.List.{length-append, append_cancel_left, take-take}
use Rattle.std.proofs.Math.Seq.{take-append-add, take-append_seam}
use Rattle.std.specs.Io.{StartsWith}
use Rattle.ged_line.specs.Bytes.{Bytes}

-- one more piece of the text was read
pub passed_more : (text left self behind front piece rest new : Bytes) → text ≡ front ++ left → self ≡ front ++ behind
    → left ≡ piece ++ rest → behind ≡ piece ++ new → (read : Bytes) × (text ≡ read ++ rest) × (self ≡ read ++ new)
passed_more text left self behind front piece rest new t s l b =
    (front ++ piece, t ∙ ap (λ xs. front ++ xs) l ∙ sym (append_assoc front piece rest), s ∙ ap (λ xs. front ++ xs) b ∙ sym (append_assoc front piece new))

-- what was read before, and one more piece, were read
pub read_more : (self behind front piece new : Bytes) → self ≡ front ++ behind → behind ≡ piece ++ new → (read : Bytes) × (self ≡ read ++ new)
read_more self behind front piece new s b = (front ++ piece, s ∙ ap (λ xs. front ++ xs) b ∙ sym (append_assoc front piece new))

-- what begins with the text begins with what is left of it
pub left_begins : (text left self behind front : Bytes) → text ≡ front ++ left → self ≡ front ++ behind → StartsWith self text → take (length left) behind ≡ left
left_begins text left self behind front t s h =
    append_cancel_left front (take (length left) behind) left
    (sym (take-append-add front behind (length left))
    ∙ ap (λ xs. take (length front + length left) xs) (sym s)
    ∙ ap (λ n. take n self) (sym (ap length t ∙ length-append front left))
    ∙ h ∙ t)

-- so its front is the next piece
pub front_is : (left behind piece new : Bytes) → take (length left) behind ≡ left → behind ≡ piece ++ new → length piece ≤ length left → take (length piece) left ≡ piece
front_is left behind piece new begins b few =
    ap (λ xs. take (length piece) xs) (sym begins) ∙ take-take (length piece) (length left) behind few
    ∙ ap (λ xs. take (length piece) xs) b ∙ take-append_seam piece new
