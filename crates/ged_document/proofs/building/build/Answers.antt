use Rattle.ged_document.proofs.building.build.Goals as goal

pub document_of_file-requires : goal.document_of_file-requires
document_of_file-requires c = rw (c.as_slice.ensures.value, ← c.as_slice-in-Ok.ensures.value) at c.in-Ok.ensures.text
