use Rattle.std.proofs.Common.{IfOk, IfErr, subst}
use Rattle.ged_schema.specs.declared.profile.Profile.{Profile}
use Rattle.ged_accept.specs.Accepted.{IsAccepted, FileFaultAt, IsRefusal}
use Rattle.ged_tool.proofs.calls.feed.Feed.finish.Goals as goal

pub returns : goal.returns
returns c =
    let bytes = c.args.self.now.bytes in
    record {
      accepted = subst (λ (profile : Profile). IfOk c.finish_as.result (λ accepted. IsAccepted profile bytes accepted)) c.new.ensures.profile c.finish_as.ensures.accepted;
      refused = subst (λ (profile : Profile). IfErr c.finish_as.result (IsRefusal (FileFaultAt profile bytes))) c.new.ensures.profile c.finish_as.ensures.refused;
      told = c.finish_as.ensures.told;
    }
