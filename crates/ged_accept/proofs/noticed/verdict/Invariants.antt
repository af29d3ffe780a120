use Rattle.std.proofs.Common.{◌≡◌, take}
use Rattle.ged_accept.specs.Notices.{notice_lines}
use Rattle.ged_accept.proofs.noticed.verdict.Given as goal

abbrev pub invariant-loop-notice : goal.invariant-loop-notice
invariant-loop-notice l = l.out.items ≡ notice_lines (take l.notice-index l.notice-items)
