use Rattle.std.proofs.Common.{length, arith, refl}
use Rattle.std.proofs.lemmas.List.{length-take-le}
use Rattle.ged_canon.specs.declared.spelled.reader.TheConstants.{KEPT_BLOCK}
use Rattle.ged_canon.proofs.spelled.Filling.{run_first, run_front, run_rest, run_reaches}
use Rattle.ged_canon.proofs.spelled.reader.Pieces.put_run.Goals as goal

pub returns-then-not-put_both-clause-behind : goal.returns-then-not-put_both-clause-behind
returns-then-not-put_both-clause-behind c =
    let run = c.in-Some.run'.now in
    let (far, further, both) = run_reaches c.args.self.now c.self.inside.kept.now c.self.inside.file.now c.self.inside.made.now c.self.inside.runs.now c.in-Some.runs.now run KEPT_BLOCK
    c.self.view_is c.if-not-is_empty.ensures c.in-Some.ensures.cases.0 c.if-self-made.false in
    c.put_both.ensures.behind (length c.args.self.now) (omega (arith, far)) further both

pub returns-clause-front : goal.returns-clause-front
returns-clause-front c =
    let run = c.in-Some.run'.now in
    let put = c.if-not-put_both.ensures in
    let whole = run_first c.args.self.now c.self.inside.kept.now c.self.inside.file.now c.self.inside.made.now c.self.inside.runs.now c.in-Some.runs.now run
    c.self.view_is c.if-not-is_empty.ensures c.in-Some.ensures.cases.0 in
    run_front _ _ _ _ c.put_both.new.buffer run.made run.length whole (length-take-le _ _ (put.made refl)) (length-take-le _ _ (put.kept refl)) (put.put refl)

pub returns-clause-behind : goal.returns-clause-behind
returns-clause-behind c =
    let run = c.in-Some.run'.now in
    let (far, further, both) = run_reaches c.args.self.now c.self.inside.kept.now c.self.inside.file.now c.self.inside.made.now c.self.inside.runs.now c.in-Some.runs.now run KEPT_BLOCK
    c.self.view_is c.if-not-is_empty.ensures c.in-Some.ensures.cases.0 c.if-self-made.false in
    c.put_both.ensures.behind (length c.args.self.now) (omega (arith, far)) further both

pub returns-clause-rest : goal.returns-clause-rest
returns-clause-rest c =
    let run = c.in-Some.run'.now in
    let put = c.if-not-put_both.ensures in
    let whole = run_first c.args.self.now c.self.inside.kept.now c.self.inside.file.now c.self.inside.made.now c.self.inside.runs.now c.in-Some.runs.now run
    c.self.view_is c.if-not-is_empty.ensures c.in-Some.ensures.cases.0 in
    run_rest _ _ _ _ run.made run.length whole (length-take-le _ _ (put.made refl)) (length-take-le _ _ (put.kept refl))
