use Rattle.std.proofs.Common.{string_bytes, encode_utf8}
use Rattle.ged_explain.proofs.Seen.{pushed_seen, one_seen}
use Rattle.ged_explain.proofs.explanation.Explanation.say_character.Goals as goal

pub returns-then-is_seen : goal.returns-then-is_seen
returns-then-is_seen c = λ before.
    pushed_seen c.args.self.now.lacks_memory c.is_err.result c.push.result (string_bytes c.args.self.now.text) (encode_utf8 c.args.character)
    (string_bytes c.push.new.self) c.is_err.ensures.value c.push.ensures.bytes before (one_seen c.args.character c.if-is_seen.ensures)
