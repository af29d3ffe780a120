-- The new numbers of records, looked up by the records' names.
use Rattle.std.proofs.Common.{◌≡◌, ℕ, ◌+◌, ◌<◌, Bool, true, false, cond, List, [], ◌∷◌, refl, sym, ap, ◌∙◌, inl, inr, arith}
use Rattle.std.specs.Prelude.{bytes_eq}
use Rattle.ged_line.specs.Bytes.{Bytes}
use Rattle.ged_link.specs.Links.{IsAmong}
use Rattle.ged_canon.specs.Normal.{numbered}
use Rattle.ged_canon.specs.inner.Working.{number_among, number_of}
use Rattle.ged_canon.proofs.theory.Texts.{other_bytes}

pub unnumbered : (name : Bytes) (n : ℕ) (names : List Bytes) → (IsAmong name names → ⊥) → number_among n names name ≡ 0
unnumbered name n [] h = refl
unnumbered name n (first ∷ rest) h =
    let e = other_bytes first name (λ p. h (inl (sym p))) in
    let later = unnumbered name (n + 1) rest (λ k. h (inr k)) in
    ap (λ b. cond b n (number_among (n + 1) rest name)) e ∙ later

pub kept_name : (name : Bytes) (n : ℕ) (names : List Bytes) → 0 < n → number_among n names name ≡ 0 → number_of n names name ≡ name
kept_name name n [] k h = refl
kept_name name n (first ∷ rest) k h = by (bytes_eq first name) (kept_name name (n + 1) rest (omega arith)) h
  where
    by : (t : Bool) → (number_among (n + 1) rest name ≡ 0 → number_of (n + 1) rest name ≡ name) → cond t n (number_among (n + 1) rest name) ≡ 0 → cond t (numbered n) (number_of (n + 1) rest name) ≡ name
    by true f e = absurd (omega (arith, k, e))
    by false f e = f e

pub given_number : (name : Bytes) (n : ℕ) (names : List Bytes) → 0 < number_among n names name → numbered (number_among n names name) ≡ number_of n names name
given_number name n [] h = absurd (omega (arith, h))
given_number name n (first ∷ rest) h = by (bytes_eq first name) (given_number name (n + 1) rest) h
  where
    by : (t : Bool) → (0 < number_among (n + 1) rest name → numbered (number_among (n + 1) rest name) ≡ number_of (n + 1) rest name) → 0 < cond t n (number_among (n + 1) rest name) → numbered (cond t n (number_among (n + 1) rest name)) ≡ cond t (numbered n) (number_of (n + 1) rest name)
    by true f e = refl
    by false f e = f e
