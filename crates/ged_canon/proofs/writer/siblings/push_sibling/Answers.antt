use Rattle.ged_canon.proofs.writer.siblings.push_sibling.Goals as goal

pub returns : goal.returns
returns g c = (c.ranked_sibling-sibling.result, c.in_ok-push.ensures.items, c.ranked_sibling-sibling.ensures.place, c.ranked_sibling-sibling.ensures.stands, c.is_told.ensures)
