-- Calls of a shelf, one after the other.
use Rattle.std.proofs.Common.{◌≡◌, ℕ, ◌+◌, ◌<◌, Bool, true, false, List, [], ◌∷◌, ◌++◌, Option, Some, None, Bor, take, length, slice_index_or, refl, sym, ap, ◌∙◌, append-nil, append_assoc}
use Rattle.clap.specs.Words.{Text}
use Rattle.ged_cmd.specs.Shelves.{ShelfCall, opening, Calls}
use Rattle.ged_cmd.specs.inner.Calling.{opening_all}
use Rattle.ged_cmd.specs.Tasks.{is_input}
use Rattle.ged_cmd.specs.inner.Tasks.{names_of}
use Rattle.ged_cmd.proofs.DigestLemmas.{names_more}

pub none_called : (calls : Option (List ShelfCall)) → Calls calls calls []
none_called None = tt
none_called (Some made) = sym (append-nil made)

pub called_on : (first then last : Option (List ShelfCall)) (calls more : List ShelfCall) → Calls first then calls → Calls then last more → Calls first last (calls ++ more)
called_on None then last calls more made after = tt
called_on (Some before) None last calls more made after = absurd made
called_on (Some before) (Some made) None calls more is after = absurd after
called_on (Some before) (Some made) (Some all) calls more is after = rw (after, is, append_assoc) refl

opening_first : (name : Text) (names more : List Text) (b : Bool) → is_input name ≡ b → opening_all (names ++ more) ≡ opening_all names ++ opening_all more
    → opening_all (name ∷ (names ++ more)) ≡ opening_all (name ∷ names) ++ opening_all more
opening_first name names more true is others = rw is others
opening_first name names more false is others = rw is (ap (λ calls. opening name ∷ calls) others)

opening_more : (names more : List Text) → opening_all (names ++ more) ≡ opening_all names ++ opening_all more
opening_more [] more = refl
opening_more (name ∷ names) more = opening_first name names more (is_input name) refl (opening_more names more)

-- the calls for one name more
pub one_opened : (given : List (Bor Text)) (i : ℕ) (d : Bor Text) → i < length given
    → opening_all (take (i + 1) (names_of given)) ≡ opening_all (take i (names_of given)) ++ opening_all ((slice_index_or given i d).now ∷ [])
one_opened given i d within =
    ap opening_all (names_more given i d within) ∙ opening_more (take i (names_of given)) ((slice_index_or given i d).now ∷ [])

pub one_called : (before then after : Option (List ShelfCall)) (given : List (Bor Text)) (i : ℕ) (d : Bor Text) → i < length given
    → Calls before then (opening_all (take i (names_of given))) → Calls then after (opening_all ((slice_index_or given i d).now ∷ []))
    → Calls before after (opening_all (take (i + 1) (names_of given)))
one_called before then after given i d within made more =
    let all = one_opened given i d within in
    rw all (called_on before then after _ _ made more)
