use Rattle.std.proofs.Common.{◌≡◌, false, count_by, take}
use Rattle.std.specs.Io.KnownBytes.{Keeps}
use Rattle.ged_tool.specs.Settings.{profile_of, edition_of}
use Rattle.ged_faults.specs.declared.faults.Outcome.TheVariants.{Done}
use Rattle.ged_cmd.specs.Program.{AreDigested}
use Rattle.ged_cmd.specs.Streams.{reader, writer}
use Rattle.ged_cmd.specs.Shelves.{Calls}
use Rattle.ged_cmd.specs.inner.Calling.{opening_all}
use Rattle.ged_cmd.specs.Tasks.{is_input}
use Rattle.ged_cmd.specs.inner.Tasks.{names_of}
use Rattle.ged_cmd.proofs.digests.tell_digests.Given as goal

-- the digests of the files so far are told, and standard input was not read unless it was one of them
abbrev pub invariant-loop-name : goal.invariant-loop-name
invariant-loop-name g l = record {
  told : AreDigested (g.S.Shelf.files (g.S.Shelf.stock l.fn.shelf)) g.S.Device.Source.to_come g.S.Device.Source.failed (profile_of l.digests.settings)
      (edition_of l.digests.settings) (take l.name-index (names_of l.digests.files.now))
      (reader g.R.Source.to_come g.R.Source.failed l.fn.input l.input)
      (writer (λ s. g.W.Write.contents s.device) (λ s. s.failed) l.fn.output l.output)
      (opening_all (take l.name-index (names_of l.digests.files.now))) l.gravest;
  same : g.S.Shelf.stock l.shelf ≡ g.S.Shelf.stock l.fn.shelf;
  called : Calls (g.S.Shelf.calls l.fn.shelf) (g.S.Shelf.calls l.shelf) (opening_all (take l.name-index (names_of l.digests.files.now)));
  sound : l.output.failed ≡ false;
  unread : count_by is_input (take l.name-index (names_of l.digests.files.now)) ≡ 0
      → (g.R.Source.reads l.input ≡ 0) × (g.R.Source.failed l.input ≡ false);
  quiet : l.gravest ≡ Done → Keeps (g.E.Write.contents l.fn.errors.device) (g.E.Write.contents l.errors.device);
}
