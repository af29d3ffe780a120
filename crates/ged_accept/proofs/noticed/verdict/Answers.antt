use Rattle.ged_accept.proofs.Told.{lines_more, told_all}
use Rattle.ged_accept.proofs.noticed.verdict.Goals as goal

pub loop-notice-preserved : goal.loop-notice-preserved
loop-notice-preserved c = lines_more c.deref-notice-items.result.now c.loop-notice.notice-index _ c.loop-notice.out.items c.push_notice.new.out.items c.loop-notice-test.true c.loop-notice.invariant c.in_ok-push_notice.ensures

pub returns : goal.returns
returns c = told_all c.args.accepted.now c.in_ok-all.all.items c.deref-notice-items.result.now c.loop-notice.notice-index c.loop-notice.out.items c.extend_from_slice.new.self.items
    c.in_ok-all.ensures c.deref-notice-items.ensures.value c.loop-notice-test.false c.loop-notice.invariant c.in_ok-extend_from_slice.ensures.items
