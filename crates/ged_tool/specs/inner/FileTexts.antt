-- Nothing here need be believed: only private contracts and proofs cite it.
-- The bytes of a file that may be known to be a text; only private functions cite this.
use Rattle.ged_line.specs.Bytes.{Bytes}
use Rattle.ged_tool.specs.declared.calls.file_text.FileText.{FileText}
use Rattle.ged_tool.specs.declared.calls.file_text.FileText.TheVariants as variants

abbrev pub file_bytes : FileText → Bytes
file_bytes (variants.Text text) = text.now
file_bytes (variants.Bytes bytes) = bytes.now
