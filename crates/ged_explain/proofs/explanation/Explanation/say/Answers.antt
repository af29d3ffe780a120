use Rattle.std.proofs.Common.{string_bytes}
use Rattle.ged_explain.proofs.Seen.{pushed_seen}
use Rattle.ged_explain.proofs.explanation.Explanation.say.Goals as goal

pub returns : goal.returns
returns c =
    pushed_seen c.args.self.now.lacks_memory c.is_err.result c.push_str.result (string_bytes c.args.self.now.text) c.args.text.now (string_bytes c.push_str.new.self)
    c.is_err.ensures.value c.push_str.ensures.bytes
