-- The folder of a path.
use Rattle.std.proofs.Common.{◌≡◌, ℕ, ◌<◌, List, [], ◌∷◌, ◌++◌, Result, Ok, Err, OnOk, take, drop, refl, sym, ◌∙◌, ap, arith, inl, inr, append_assoc, take-append-drop}
use Rattle.std.proofs.Math.Logic.{∥∥₁_elim}
use Rattle.std.specs.Str.{NoCharPasses}
use Rattle.std.specs.Str.Pattern.{HasCharAt}
use Rattle.std.proofs.lemmas.Str.Pattern.{drop_at_char}
use Rattle.std.specs.Prelude.{◌==◌}
use Rattle.ged_devices.specs.Paths.{IsBeside, IsFolderOf, new_path, slash}

pub no_folder : (path folder : List ℕ) → folder ≡ [] → NoCharPasses (λ c. c == slash) path → IsFolderOf path folder
no_folder path folder none name = (path, rw none refl, name, inl none)

pub some_folder : (path front folder : List ℕ) (i j : ℕ) → NoCharPasses (λ c. c == slash) (drop j path) × HasCharAt slash path i j → front ≡ take i path
    → folder ≡ front ++ slash ∷ [] → IsFolderOf path folder
some_folder path front folder i j (name, at) is ends =
    let behind : drop i path ≡ slash ∷ drop j path = drop_at_char slash path i j at (omega arith) in
    let whole : path ≡ folder ++ drop j path = rw (ends, is, append_assoc) (sym (take-append-drop i path) ∙ ap (λ rest. take i path ++ rest) behind) in
    (drop j path, whole, name, inr (front, ends))

-- a new file of a number in the folder of a path stands beside the file of that path
pub stands_beside : {T E : Type 0} (r : Result T E) (path folder new : List ℕ) (number : ℕ) → ∥ IsFolderOf path folder ∥₁ → number < 100
    → new ≡ new_path folder number → OnOk r ∥ IsBeside path new ∥₁
stands_beside (Ok x) path folder new number found tried is = ∥∥₁_elim found squash₁ (λ whose. ∣ (folder, whose, (number, tried, is)) ∣₁)
stands_beside (Err e) path folder new number found tried is = tt
