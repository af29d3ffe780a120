-- Records that are looked for by the texts of their names.
use Rattle.std.specs.Prelude.{Option}
use Rattle.std.specs.HashMap.{get_by_text}
use Rattle.ged_line.specs.Bytes.{Bytes}
use Rattle.ged_link.specs.declared.index.RecordPlace.{RecordPlace}
use Rattle.ged_link.specs.declared.records_by_text.RecordsByText.{RecordsByText}
use Rattle.ged_link.specs.Texts.{found_text}

-- the record that has a name
abbrev pub found_by_text : RecordsByText → Bytes → Option RecordPlace
found_by_text records = found_text records.key records.slots.items records.texts.items (get_by_text records.others)
