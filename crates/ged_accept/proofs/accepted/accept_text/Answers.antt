use Rattle.ged_accept.proofs.accepted.accept_text.Goals as goal

pub accept_table-requires : goal.accept_table-requires
accept_table-requires c = c.in-Ok-flatten_text_with.ensures.read c.in-Ok.ensures
