-- What goes to a writer through a buffer, one text behind the other.
use Rattle.std.proofs.Common.{◌≡◌, ℕ, List, [], ◌++◌, length, take, drop, Option, sym, ◌∙◌, ap, subst, length-append, append_assoc, append-nil}
use Rattle.std.proofs.Math.Seq.{take-append-add, take-append_seam}
use Rattle.std.specs.Io.{StartsWith}
use Rattle.std.specs.Io.KnownBytes.{Appends}
use Rattle.std.proofs.KnownBytes.{Appends-nil, Appends-trans, starts_with_rest}
use Rattle.ged_devices.specs.Buffers.{GoesThrough, StopsWithin}

-- a text that begins with what was written, and goes on as another
pub starts_behind : (front rest written : List ℕ) → StartsWith rest written → StartsWith (front ++ rest) (front ++ written)
starts_behind front rest written h =
    ap (λ n. take n (front ++ rest)) (length-append front written) ∙ take-append-add front rest (length written) ∙ ap (λ x. front ++ x) h

-- the same, where more stands behind
pub starts_before : (front rest written : List ℕ) → StartsWith front written → StartsWith (front ++ rest) written
starts_before front rest written h =
    let tail = drop (length written) front in
    let whole : front ++ rest ≡ written ++ (tail ++ rest) = ap (λ x. x ++ rest) (starts_with_rest front written h) ∙ append_assoc written tail rest in
    ap (take (length written)) whole ∙ take-append_seam written (tail ++ rest)

-- nothing went to the buffer
pub through_nothing : (taken : Option (List ℕ)) (held : List ℕ) → GoesThrough taken taken held held []
through_nothing taken held = record { written = []; took = Appends-nil taken; split = append-nil held }

-- what the writer took already, and what stands behind that
split_behind : (before between first second written : List ℕ) → before ++ first ≡ written ++ between → before ++ (first ++ second) ≡ written ++ (between ++ second)
split_behind before between first second written e =
    sym (append_assoc before first second) ∙ ap (λ xs. xs ++ second) e ∙ append_assoc written between second

-- one text behind another
pub through_both : {taken middle holds : Option (List ℕ)} {before between after first second : List ℕ} → GoesThrough taken middle before between first
    → GoesThrough middle holds between after second → GoesThrough taken holds before after (first ++ second)
through_both {taken} {middle} {holds} {before} {between} {after} {first} {second} h k = record {
  written = h.written ++ k.written;
  took = Appends-trans taken middle holds h.written k.written h.took k.took;
  split = split_behind before between first second h.written h.split ∙ ap (λ xs. h.written ++ xs) k.split ∙ sym (append_assoc h.written k.written after);
}

-- a text, and the writer stopped at another
pub stops_behind : {taken middle holds : Option (List ℕ)} {before between first second : List ℕ} → GoesThrough taken middle before between first
    → StopsWithin middle holds between second → StopsWithin taken holds before (first ++ second)
stops_behind {taken} {middle} {holds} {before} {between} {first} {second} h k = record {
  written = h.written ++ k.written;
  took = Appends-trans taken middle holds h.written k.written h.took k.took;
  front = subst (λ xs. StartsWith xs (h.written ++ k.written)) (sym (split_behind before between first second h.written h.split)) (starts_behind h.written (between ++ second) k.written k.front);
}

-- the writer stopped at a text behind which more stands
pub stops_before : {taken holds : Option (List ℕ)} {before first : List ℕ} (second : List ℕ) → StopsWithin taken holds before first → StopsWithin taken holds before (first ++ second)
stops_before {taken} {holds} {before} {first} second k = record {
  written = k.written;
  took = k.took;
  front = subst (λ xs. StartsWith xs k.written) (append_assoc before first second) (starts_before (before ++ first) second k.written k.front);
}

-- a text that was written past the empty buffer
pub through_past : (taken holds : Option (List ℕ)) (after text : List ℕ) → Appends taken holds text → after ≡ [] → GoesThrough taken holds [] after text
through_past taken holds after text took e = record { written = text; took = took; split = sym (ap (λ xs. text ++ xs) e ∙ append-nil text) }

-- the writer stopped at a text that was written past the empty buffer
pub stops_past : (taken holds : Option (List ℕ)) (text written : List ℕ) → Appends taken holds written → StartsWith text written → StopsWithin taken holds [] text
stops_past taken holds text written took front = record { written = written; took = took; front = front }
