use Rattle.std.proofs.Common.{ap, subst}
use Rattle.ged_line.specs.Bytes.{Bytes}
use Rattle.ged_tool.specs.Settings.{profile_of}
use Rattle.ged_accept.specs.Accepted.{FileFaultAt, IsRefusal}
use Rattle.ged_tool.specs.Fed.{Fed}
use Rattle.ged_tool.proofs.calls.Feeding.{refusal_of}
use Rattle.ged_tool.proofs.calls.feed.Feed.finish_as.Goals as goal

pub returns-in-Some-clause-refused : goal.returns-in-Some-clause-refused
returns-in-Some-clause-refused c =
    let inside = c.self.inside in
    subst (λ (bs : Bytes). IsRefusal (FileFaultAt (profile_of c.args.settings) bs) c.in-Some.fault) (ap (λ (f : Fed). f.bytes) c.self.view_is)
    (refusal_of (profile_of c.args.settings) inside.told c.in-Some.fault inside.bytes.items inside.whole inside.judged c.in-Some.is c.self.invariant)
