use Rattle.ged_line.proofs.file.FileLaws.{FileText-file_of as law}
use Rattle.ged_line.proofs.laws.written_is_read.Goals as goal

pub returns : goal.returns
returns c = law
