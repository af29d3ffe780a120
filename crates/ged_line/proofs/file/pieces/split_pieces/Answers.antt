use Rattle.ged_line.proofs.file.pieces.split_pieces.Goals as goal

pub returns : goal.returns
returns c = (c.behind_mark.result.now, c.behind_mark.ensures, c.cut_pieces.ensures)
