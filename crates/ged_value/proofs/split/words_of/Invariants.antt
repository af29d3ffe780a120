use Rattle.std.proofs.Common.{◌≡◌, ◌≤◌, ◌++◌, take, length}
use Rattle.ged_value.specs.Words.{words_of}
use Rattle.ged_value.specs.Left.{words_left}
use Rattle.ged_value.specs.inner.Texts.{texts}
use Rattle.ged_value.proofs.split.words_of.Given as goal

-- the words so far stand before those that are left
abbrev pub invariant-loop-rest : goal.invariant-loop-rest
invariant-loop-rest l = record {
  so_far : words_of l.text ≡ texts (take l.count l.words) ++ words_left l.rest;
  room : l.count ≤ 12;
  size : length l.words ≡ 12;
}

abbrev pub decreases-loop-rest : goal.decreases-loop-rest
decreases-loop-rest l = length (words_left l.rest)
