-- What was written to standard error, one text after the other.
use Rattle.std.proofs.Common.{◌≡◌, ◌+◌, ◌<◌, ap, flat_map, get_or, inl, inr, length, take, ℕ, Bool, true, false, List, [], ◌++◌, Option, Some, None, IfErr, IfOk, IfSome, Result, Ok, Err, append-nil, refl, sym, ◌∙◌, subst}
use Rattle.std.specs.Prelude.{OnOk}
use Rattle.ged_devices.specs.Devices.{failed_after}
use Rattle.std.specs.Io.KnownBytes.{Appends}
use Rattle.std.proofs.KnownBytes.{Appends-nil, Appends-trans}
use Rattle.std.proofs.lemmas.Bool.{true≢false}
use Rattle.std.proofs.lemmas.List.{flat_map_more, take_more}
use Rattle.ged_faults.specs.declared.faults.Outcome.{Outcome}
use Rattle.ged_cmd.specs.Streams.{Writer, writer}
use Rattle.ged_cmd.specs.Tasks.{Task, run, same, input_same, explain, digest}
use Rattle.ged_cmd.specs.Telling.{told_of, may_follow, IsTold, Tells}
use Rattle.ged_cmd.specs.inner.Told.{Wrote, WroteAny, WroteSome}

-- what a print has appended where no write has failed
pub printed : {X Y : Type 0} (before failed : Bool) (result : Result X Y) (taken holds : Option (List ℕ)) (seen text : List ℕ) → failed ≡ failed_after before result
    → OnOk result (Appends taken holds seen) → seen ≡ text → failed ≡ false → (before ≡ false) × Appends taken holds text
printed before failed (Ok x) taken holds seen text e wrote is sound = (sym e ∙ sound, subst (λ (t : List ℕ). Appends taken holds t) is wrote)
printed before failed (Err y) taken holds seen text e wrote is sound = absurd (true≢false (sym e ∙ sound))

pub if_some : (text : Option (List ℕ)) (P Q : List ℕ → Type 0) → ((bytes : List ℕ) → P bytes → Q bytes) → IfSome text P → IfSome text Q
if_some None P Q more h = tt
if_some (Some bytes) P Q more h = more bytes h

-- a text that was written, or none
pub wrote_any : {X Y : Type 0} (before : Bool) (w : Writer) (bytes : X → List ℕ) (Is : List ℕ → Type 0) (text : Result X Y) → IfOk text (λ t. Is (bytes t))
    → IfOk text (λ t. Wrote before w (bytes t)) → IfErr text (λ _. Wrote before w []) → WroteAny before w Is
wrote_any before w bytes Is (Ok t) is wrote none sound = ((wrote sound).0, (bytes t, inr is, (wrote sound).1))
wrote_any before w bytes Is (Err y) is wrote none sound = ((none sound).0, ([], inl refl, (none sound).1))

module _ {D : Type 0} (taken : D → Option (List ℕ)) (failed : D → Bool) where
  -- nothing was written
  pub nothing : (d : D) → Wrote (failed d) (writer taken failed d d) []
  nothing d sound = (sound, Appends-nil (taken d))

  pub some_nothing : (d : D) → WroteSome (failed d) (writer taken failed d d)
  some_nothing d sound = (sound, ([], Appends-nil (taken d)))

  -- some text, and some more
  pub some_more : (a b c : D) → WroteSome (failed a) (writer taken failed a b) → WroteSome (failed b) (writer taken failed b c) → WroteSome (failed a) (writer taken failed a c)
  some_more a b c first second sound =
      let (between, (more, then)) = second sound in
      let (before, (text, at_first)) = first between in
      (before, (text ++ more, Appends-trans (taken a) (taken b) (taken c) text more at_first then))

  -- the line of a fault, and no explanation
  pub told_alone : (explains : Bool) (task : Task) (outcome : Outcome) (a b : D) → Wrote (failed a) (writer taken failed a b) (told_of outcome)
      → failed b ≡ false → IsTold explains task outcome (writer taken failed a b)
  told_alone explains task outcome a b told sound = record {
    rest = [];
    written = subst (λ (text : List ℕ). Appends (taken a) (taken b) text) (sym (append-nil (told_of outcome))) (told sound).1;
    no_more = λ _. refl;
  }

  -- the line of a fault, and what follows
  pub told_more : (task : Task) (outcome : Outcome) (a b c : D) → Wrote (failed a) (writer taken failed a b) (told_of outcome)
      → WroteSome (failed b) (writer taken failed b c) → (may_follow true task outcome ≡ false → Wrote (failed b) (writer taken failed b c) [])
      → failed c ≡ false → IsTold true task outcome (writer taken failed a c)
  told_more task outcome a b c told some none sound = by (may_follow true task outcome) refl
    where
      by : (follows : Bool) → may_follow true task outcome ≡ follows → IsTold true task outcome (writer taken failed a c)
      by true e =
          let (between, (more, then)) = some sound in
          record {
            rest = more;
            written = Appends-trans (taken a) (taken b) (taken c) (told_of outcome) more (told between).1 then;
            no_more = λ no. absurd (true≢false (sym e ∙ no));
          }
      by false e =
          let (between, then) = none e sound in
          record {
            rest = [];
            written = Appends-trans (taken a) (taken b) (taken c) (told_of outcome) [] (told between).1 then;
            no_more = λ _. refl;
          }

-- what is told of an outcome is told for its task
pub tells : (explains : Bool) (task : Task) (outcome : Outcome) (errors : Writer) → (errors.failed ≡ false → IsTold explains task outcome errors) → Tells explains task outcome errors
tells explains (run profile edition command file into) outcome errors told = told
tells explains (same form profile edition first second) outcome errors told = told
tells explains (input_same form profile edition second) outcome errors told = told
tells explains (explain named) outcome errors told = told
tells explains (digest profile edition names) outcome errors told = tt

-- one more of several texts
pub one_more_text : {X : Type 0} (text : X → List ℕ) (xs : List X) (i : ℕ) (x : X) → i < length xs
    → flat_map text (take i xs) ++ text (get_or xs i x) ≡ flat_map text (take (i + 1) xs)
one_more_text text xs i x inside = flat_map_more text [] (take i xs) (get_or xs i x) ∙ ap (flat_map text) (sym (take_more xs i x inside))
