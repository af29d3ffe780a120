use Rattle.std.proofs.Common.{[], arith}
use Rattle.std.proofs.lemmas.Str.{IsUtf8-nil, is_utf8-from_IsUtf8}
use Rattle.ged_tool.proofs.runs.whole_file.WholeFile.start.Goals as goal

pub invariant_of-result : goal.invariant_of-result
invariant_of-result c = record {
  shared_within = omega arith;
  shared_alone = λ _. c.requires;
  known_text = is_utf8-from_IsUtf8 [] IsUtf8-nil;
  known_within = omega arith;
}
