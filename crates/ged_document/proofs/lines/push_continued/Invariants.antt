use Rattle.std.proofs.Common.{◌≡◌, ◌++◌, ◌+◌, ◌<◌, drop, true, length}
use Rattle.std.specs.List.{list_all}
use Rattle.ged_tree.specs.inner.DocumentParts.{continued}
use Rattle.ged_line.specs.Characters.{is_plain}
use Rattle.ged_document.proofs.lines.push_continued.Given as goal

abbrev pub invariant-loop-text : goal.invariant-loop-text
invariant-loop-text l = record {
  told : l.lines.items ++ continued (l.level + 1) (drop l.text-index l.texts) ≡ l.fn.lines.items ++ continued (l.level + 1) l.texts;
  room : 0 < length (drop l.text-index l.texts) → l.level < 99;
  plain : list_all is_plain (drop l.text-index l.texts) ≡ true;
}
