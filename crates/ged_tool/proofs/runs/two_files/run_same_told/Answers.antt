use Rattle.std.proofs.Common.{◌≡◌, ◌++◌, ◌∙◌, sym, take}
use Rattle.ged_tool.specs.inner.FileTexts.{file_bytes}
use Rattle.ged_tool.specs.inner.Steps.{of_which}
use Rattle.ged_tool.specs.inner.Reading.{came_of}
use Rattle.ged_tool.proofs.runs.Running.{first_stops, second_stops, judging_stops}
use Rattle.ged_tool.proofs.runs.two_files.run_same_told.Goals as goal

pub returns-in-Err-clause-bytes : goal.returns-in-Err-clause-bytes
returns-in-Err-clause-bytes g c =
    let (came, gave, stops) = c.in-Err.ensures.stopped in
    first_stops _ _ _ _ _ _ _ came _ c.in-Err.fault _ gave stops c.told_without.ensures.bytes (c.told_without.ensures.outcome ∙ c.failed_at.ensures)

pub returns-in-Err-read_whole-clause-bytes : goal.returns-in-Err-read_whole-clause-bytes
returns-in-Err-read_whole-clause-bytes g c =
    let (came, gave, stops) = c.in-Err-read_whole.ensures.stopped in
    second_stops _ _ _ _ _ _ _ _ (came_of c.in-Ok.file) came _ c.in-Err-read_whole.fault _ c.in-Ok.ensures.whole.0 c.in-Ok.ensures.whole.1 gave stops
    c.told_without-in-Err-read_whole.ensures.bytes (c.told_without-in-Err-read_whole.ensures.outcome ∙ c.failed_at-in-Err-read_whole.ensures)

pub returns-in-Err-same_files-clause-bytes : goal.returns-in-Err-same_files-clause-bytes
returns-in-Err-same_files-clause-bytes g c =
    let second = c.in-Ok-read_whole.file in
    let parts = c.into_parts-shared.ensures in
    let front : second.before.now ≡ c.into_bytes.result.items =
    c.in-Ok-read_whole.ensures.before ∙ c.bytes.ensures ∙ c.text-front.ensures ∙ sym c.into_bytes.ensures in
    judging_stops _ _ _ _ _ _ _ _ (came_of c.in-Ok.file) (came_of second) (file_bytes c.text-front.result) (file_bytes c.text.result) _ c.in-Err-same_files.at.which c.in-Err-same_files.at.fault _
    c.in-Ok.ensures.whole.0 c.in-Ok.ensures.whole.1 c.in-Ok-read_whole.ensures.whole.0 c.in-Ok-read_whole.ensures.whole.1 c.text-front.ensures c.text.ensures
    c.in-Err-same_files.ensures.refused
    (c.told_of.ensures.bytes ∙ (λ i. of_which c.in-Err-same_files.at.which (c.into_bytes.ensures i) (take (parts.shared i) (sym front i) ++ (parts.kept i).items))) c.told_of.ensures.outcome
