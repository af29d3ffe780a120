use Rattle.std.proofs.Common.{inl}
use Rattle.ged_accept.proofs.Refusals.{refused_too}
use Rattle.ged_accept.proofs.accepted.accept_table.Goals as goal

pub returns-clause-refused : goal.returns-clause-refused
returns-clause-refused c =
    refused_too _ _ c.told_of_links.result (λ line kind stands. inl stands) (c.told_of_links.ensures c.args.flat c.in-Err.ensures.fault)
