use Rattle.std.proofs.Common.{subst, List}
use Rattle.ged_line.specs.Bytes.{Bytes}
use Rattle.ged_link.specs.inner.PointerLists.{AreListedFirst}
use Rattle.ged_link.proofs.PointerLemmas.{document_has}
use Rattle.ged_link.proofs.RecordLineLemmas.{records_listed}
use Rattle.ged_link.proofs.resolving.resolve_with.Goals as goal

pub resolve_listed-requires-clause-list : goal.resolve_listed-requires-clause-list
resolve_listed-requires-clause-list g c = records_listed (g.F.Forest.trees c.args.forest.now) c.args.records.list c.end_of_all-end.ensures.document c.requires.0

pub resolve_listed-requires-clause-pointers : goal.resolve_listed-requires-clause-pointers
resolve_listed-requires-clause-pointers g c =
    rw c.give_back.ensures (subst (λ (all : List (Bytes × Bytes)). AreListedFirst c.args.records.pointers.items all) (document_has (g.F.Forest.trees c.args.forest.now)) c.requires.1.0)
