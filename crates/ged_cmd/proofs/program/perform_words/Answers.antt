use Rattle.std.proofs.Common.{rules, ◌≡◌, ℕ, Bool, List, [], Option, Some, None, MatchOption, refl, ap, sym, subst, inl, inr, map, false, codes, option_and_then, string_bytes}
use Rattle.std.specs.Option.{option_map_or}
use Rattle.clap.specs.Words.{Row, Text, fault_of}
use Rattle.ged_faults.specs.Faults.{status_of}
use Rattle.ged_faults.specs.declared.faults.Outcome.{Outcome}
use Rattle.ged_devices.specs.declared.drafts.Fate.{Fate}
use Rattle.ged_cmd.specs.CommandLine.{gedtool}
use Rattle.ged_cmd.specs.Program.{Files, IsDone, Performs}
use Rattle.ged_cmd.specs.Streams.{Reader, Writer}
use Rattle.ged_cmd.specs.Tasks.{Task, asked, explains, is_set, task_of_match}
use Rattle.ged_cmd.specs.Telling.{Tells}
use Rattle.ged_cmd.specs.Shelves.{ShelfCall, Calls, SomeCalls}
use Rattle.ged_cmd.specs.inner.Obeying.{IsMistaken}
use Rattle.ged_cmd.proofs.ShelfLemmas.{none_called}
use Rattle.ged_cmd.proofs.program.perform_words.Goals as goal

-- words that clap takes: what they ask for is done, or they ask for nothing
performed : {D T : Type 0} (files : Files D T) (to_come : D → Option (List ℕ)) (failed : D → Bool) (taken : T → Option (List ℕ)) (write_failed : T → Bool) (fate : T → Fate)
    (words : List Text) (input : Reader) (writer errors : Writer) (explained : Bool) (before after : Option (List ShelfCall)) (status : ℕ) → fault_of gedtool words ≡ []
    → explained ≡ explains words → (task : Option Task) → asked words ≡ task
    → MatchOption task (IsMistaken input writer status × Calls before after [])
    (λ t. (outcome : Outcome) × (status ≡ status_of outcome) × Tells explained t outcome errors
    × SomeCalls before after (λ made. IsDone files to_come failed taken write_failed fate t input writer made outcome))
    → SomeCalls before after (λ made. Performs files to_come failed taken write_failed fate words input writer errors made status)
performed files to_come failed taken write_failed fate words input writer errors explained before after status faultless asks None nothing ((unread, unwritten, two), none) =
    ([], none, inr (inr (faultless, nothing, unread, unwritten, refl, two)))
performed files to_come failed taken write_failed fate words input writer errors explained before after status faultless asks (Some task) is (outcome, told, tells, (made, called, done)) =
    (made, called, inr (inl (record { task = task; outcome = outcome; faultless = faultless; task_asked = is; done = done; tells = subst (λ (e : Bool). Tells e task outcome errors) asks tells; told = told })))

pub returns-in-Err-clause-performs : goal.returns-in-Err-clause-performs
returns-in-Err-clause-performs g c = ([], none_called _, inl (search rules, refl))

pub returns-in-Ok-clause-performs : goal.returns-in-Ok-clause-performs
returns-in-Ok-clause-performs g c =
    performed (g.S.Shelf.files (g.S.Shelf.stock c.args.shelf.now)) g.S.Device.Source.to_come g.S.Device.Source.failed g.S.Draft.Sink.taken g.S.Draft.Sink.failed g.S.Draft.Sink.fate
    (map string_bytes c.args.words.now) _ _ _ _ _ _ c.obey_matches.result c.in-Ok.ensures.no_mistake
    (ap (λ (found : Option (Text × List Row)). option_map_or (λ (match : Text × List Row). is_set (codes "explain") match.1) found false) c.in-Ok.ensures.matched) _
    (sym (ap (option_and_then task_of_match) c.in-Ok.ensures.matched)) c.obey_matches.ensures.obeyed
