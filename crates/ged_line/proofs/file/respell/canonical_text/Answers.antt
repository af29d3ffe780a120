use Rattle.std.proofs.Common.{Some, None, [], ◌∷◌, sym, arith}
use Rattle.std.proofs.lemmas.List.{append-nil}
use Rattle.std.proofs.lemmas.Str.Pattern.{strip_suffix_char}
use Rattle.ged_line.proofs.file.Respelling.{text_filled, text_stripped, text_kept}
use Rattle.ged_line.proofs.file.respell.canonical_text.Goals as goal

pub returns-in-Some-clause-spelled : goal.returns-in-Some-clause-spelled
returns-in-Some-clause-spelled c = text_stripped c.args.view.now c.args.text.now c.in-Some.front.now c.requires c.in-Empty.ensures.value (strip_suffix_char 32 c.args.text.now (Some c.in-Some.front) c.in-Some.ensures.cases (omega arith))

pub returns-in-None-clause-spelled : goal.returns-in-None-clause-spelled
returns-in-None-clause-spelled c = text_kept c.args.view.now c.args.text.now c.requires c.in-Empty.ensures.value (strip_suffix_char 32 c.args.text.now None c.in-None.ensures.cases (omega arith))

pub returns-in_default-clause-spelled : goal.returns-in_default-clause-spelled
returns-in_default-clause-spelled c = text_filled c.args.view.now c.args.text.now c.value.result c.requires c.value.ensures.value c.in_default.not-Empty

pub returns-in-Some-clause-front : goal.returns-in-Some-clause-front
returns-in-Some-clause-front c = (32 ∷ [], strip_suffix_char 32 c.args.text.now (Some c.in-Some.front) c.in-Some.ensures.cases (omega arith))

pub returns-in-None-clause-front : goal.returns-in-None-clause-front
returns-in-None-clause-front c = ([], sym (append-nil c.args.text.now))

pub returns-in_default-clause-front : goal.returns-in_default-clause-front
returns-in_default-clause-front c = ([], sym (append-nil c.args.text.now))
