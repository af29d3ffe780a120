use Rattle.std.proofs.Common.{◌≡◌, ◌++◌, ◌∷◌, [], ap, ◌∙◌, string_bytes}
use Rattle.ged_devices.specs.Paths.{slash}
use Rattle.ged_devices.proofs.Folders.{no_folder, some_folder}
use Rattle.ged_devices.proofs.drafts.folder_of.Goals as goal

pub returns-in_ok-push_str-in-Some : goal.returns-in_ok-push_str-in-Some
returns-in_ok-push_str-in-Some c =
    let split = c.in-Some.ensures.cases in
    let ends : string_bytes c.push_str.new.self ≡ c.in-Some.folder.now ++ slash ∷ [] = c.in_ok-push_str-in-Some.ensures.bytes ∙ ap (λ front. front ++ slash ∷ []) c.in_ok-folder-in-Some.ensures.ok in
    some_folder c.args.path.now c.in-Some.folder.now (string_bytes c.push_str.new.self) split.0 split.1 split.2 split.3 ends

pub returns-in-None : goal.returns-in-None
returns-in-None c = no_folder c.args.path.now (string_bytes c.new.result) c.new.ensures.bytes c.in-None.ensures.cases
