-- Rows that stand together in more than one context (FamilySearch GEDCOM 7.0, "Structure Organization").
use Rattle.std.specs.Prelude.{List, ◌++◌}
use Rattle.ged_value.specs.declared.kind.Kind.TheVariants.{Nothing, Text, DateValue, Age, EnumAny, ResnList, ToIndi, ToSubm, ToSnote, ToSour, ToObje}
use Rattle.ged_schema.specs.declared.context.Context.TheVariants.{DateMore, Phrase, Typed, NonEvent, Chan, Crea, Asso, Cite, Note, Leaf, Unchecked}
use Rattle.ged_schema.specs.Rows.{Row, optional, many}

-- notes of a structure, its own and shared ones ("NOTE_STRUCTURE")
abbrev pub note_structures : List Row
note_structures =
    many "NOTE" Text Note
    ++ many "SNOTE" ToSnote Leaf

-- citations of a source ("SOURCE_CITATION")
abbrev pub source_citations : List Row
source_citations =
    many "SOUR" ToSour Cite

-- links to a multimedia object ("MULTIMEDIA_LINK")
abbrev pub multimedia_links : List Row
multimedia_links =
    many "OBJE" ToObje Unchecked

-- pieces of a personal name ("PERSONAL_NAME_PIECES")
abbrev pub name_pieces : List Row
name_pieces =
    many "NPFX GIVN NICK SPFX SURN NSFX" Text Leaf

-- what an event or attribute may tell ("EVENT_DETAIL")
abbrev pub event_detail : List Row
event_detail =
    optional "DATE" DateValue DateMore
    ++ optional "SDATE" DateValue DateMore
    ++ optional "PLAC" Text Unchecked
    ++ optional "ADDR" Text Unchecked
    ++ many "PHON EMAIL FAX WWW" Text Leaf
    ++ optional "AGNC RELI CAUS" Text Leaf
    ++ optional "RESN" ResnList Leaf
    ++ many "ASSO" ToIndi Asso
    ++ note_structures
    ++ source_citations
    ++ multimedia_links
    ++ many "UID" Text Leaf

-- what stands last in a record of an individual or a family
abbrev pub record_ending : List Row
record_ending =
    many "SUBM" ToSubm Leaf
    ++ many "REFN" Text Typed
    ++ many "UID" Text Leaf
    ++ many "EXID" Text Typed
    ++ note_structures
    ++ source_citations
    ++ multimedia_links
    ++ many "NO" EnumAny NonEvent
    ++ optional "CHAN" Nothing Chan
    ++ optional "CREA" Nothing Crea

-- what stands below an individual's event or attribute whose TYPE may be left out
abbrev pub individual_fact : List Row
individual_fact =
    optional "TYPE" Text Leaf
    ++ event_detail
    ++ optional "AGE" Age Phrase
