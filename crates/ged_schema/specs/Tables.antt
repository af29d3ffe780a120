-- The structure tables: which tags may stand in a context, how often, with which payload, and the context below them
-- (FamilySearch GEDCOM 7.0, "Structure Organization"). Rows and counts are those of this project's profile.
use Rattle.std.specs.Prelude.{List, [], ◌++◌, Option}
use Rattle.std.specs.List.{find}
use Rattle.std.specs.Option.{option_map_or}
use Rattle.std.specs.Str.{bytes_eq}
use Rattle.ged_line.specs.Bytes.{Bytes}
use Rattle.ged_value.specs.declared.kind.Kind.TheVariants.{Nothing, Text, Free, EventFlag, Integer, Version, DateValue, DatePeriod, DateExact, Time, Age, Name, EnumAny, SexEnum, PediEnum, StatEnum, NameTypeEnum, ResnList, ToFam, ToIndi, ToSubm, ToSnote}
use Rattle.ged_schema.specs.declared.context.Context.{Context}
use Rattle.ged_schema.specs.declared.context.Context.TheVariants.{File, Head, Gedc, Schma, HeadSour, HeadData, HeadPlac, DateTime, DateMore, Phrase, Typed, Indi, IndiFact, IndiNamed, IndiBirth, IndiAdop, AdopFamc, IndiFamc, Notes, NameMore, NameTran, Fam, FamFact, FamNamed, FamAge, NonEvent, Chan, Crea, Asso, Cite, CiteData, Note, Leaf, Unchecked}
use Rattle.ged_schema.specs.Rows.{Row, one, optional, many}
use Rattle.ged_schema.specs.Groups.{note_structures, source_citations, multimedia_links, name_pieces, event_detail, record_ending, individual_fact}

-- the rows of a context, in the order in which their counts are judged
unfoldable pub rows : Context → List Row
rows File =
    one "HEAD" Nothing Head
    ++ many "FAM" Nothing Fam
    ++ many "INDI" Nothing Indi
    ++ many "OBJE REPO SNOTE SOUR SUBM" Free Unchecked
rows Head =
    one "GEDC" Nothing Gedc
    ++ optional "SCHMA" Nothing Schma
    ++ optional "SOUR" Text HeadSour
    ++ optional "DEST" Text Leaf
    ++ optional "DATE" DateExact DateTime
    ++ optional "SUBM" ToSubm Leaf
    ++ optional "COPR LANG" Text Leaf
    ++ optional "PLAC" Nothing HeadPlac
    ++ optional "NOTE" Text Note
    ++ optional "SNOTE" ToSnote Leaf
rows Gedc =
    one "VERS" Version Leaf
rows Schma =
    many "TAG" Text Leaf
rows HeadSour =
    optional "VERS NAME" Text Leaf
    ++ optional "CORP" Text Unchecked
    ++ optional "DATA" Text HeadData
rows HeadData =
    optional "DATE" DateExact DateTime
    ++ optional "COPR" Text Leaf
rows HeadPlac =
    one "FORM" Text Leaf
rows DateTime =
    optional "TIME" Time Leaf
rows DateMore =
    optional "TIME" Time Leaf
    ++ optional "PHRASE" Text Leaf
rows Phrase =
    optional "PHRASE" Text Leaf
rows Typed =
    optional "TYPE" Text Leaf
rows Indi =
    optional "RESN" ResnList Leaf
    ++ optional "SEX" SexEnum Leaf
    ++ many "NAME" Name NameMore
    ++ many "CAST DSCR EDUC NATI OCCU PROP RELI RESI SSN TITL" Text IndiFact
    ++ many "NCHI NMR" Integer IndiFact
    ++ many "IDNO FACT" Text IndiNamed
    ++ many "BAPM BARM BASM BLES BURI CENS CHRA CONF CREM DEAT EMIG FCOM GRAD IMMI NATU ORDN PROB RETI WILL" EventFlag IndiFact
    ++ many "BIRT CHR" EventFlag IndiBirth
    ++ many "ADOP" EventFlag IndiAdop
    ++ many "EVEN" Text IndiNamed
    ++ many "BAPL CONL ENDL INIL SLGC" Free Unchecked
    ++ many "FAMC" ToFam IndiFamc
    ++ many "FAMS" ToFam Notes
    ++ many "ASSO" ToIndi Asso
    ++ many "ALIA" ToIndi Phrase
    ++ many "ANCI DESI" ToSubm Leaf
    ++ record_ending
rows IndiFact =
    individual_fact
rows IndiNamed =
    one "TYPE" Text Leaf
    ++ event_detail
    ++ optional "AGE" Age Phrase
rows IndiBirth =
    individual_fact
    ++ optional "FAMC" ToFam Leaf
rows IndiAdop =
    individual_fact
    ++ optional "FAMC" ToFam AdopFamc
rows AdopFamc =
    optional "ADOP" EnumAny Phrase
rows IndiFamc =
    optional "PEDI" PediEnum Phrase
    ++ optional "STAT" StatEnum Phrase
    ++ note_structures
rows Notes =
    note_structures
rows NameMore =
    optional "TYPE" NameTypeEnum Phrase
    ++ name_pieces
    ++ many "TRAN" Name NameTran
    ++ note_structures
    ++ source_citations
rows NameTran =
    one "LANG" Text Leaf
    ++ name_pieces
rows Fam =
    optional "RESN" ResnList Leaf
    ++ many "NCHI" Integer FamFact
    ++ many "RESI" Text FamFact
    ++ many "FACT" Text FamNamed
    ++ many "ANUL CENS DIV DIVF ENGA MARB MARC MARL MARR MARS" EventFlag FamFact
    ++ many "EVEN" Text FamNamed
    ++ optional "HUSB WIFE" ToIndi Phrase
    ++ many "CHIL" ToIndi Phrase
    ++ many "SLGS" Free Unchecked
    ++ many "ASSO" ToIndi Asso
    ++ record_ending
rows FamFact =
    optional "TYPE" Text Leaf
    ++ event_detail
    ++ optional "HUSB WIFE" Nothing FamAge
rows FamNamed =
    one "TYPE" Text Leaf
    ++ event_detail
    ++ optional "HUSB WIFE" Nothing FamAge
rows FamAge =
    one "AGE" Age Phrase
rows NonEvent =
    optional "DATE" DatePeriod Phrase
    ++ note_structures
    ++ source_citations
rows Chan =
    one "DATE" DateExact DateTime
    ++ note_structures
rows Crea =
    one "DATE" DateExact DateTime
rows Asso =
    optional "PHRASE" Text Leaf
    ++ one "ROLE" EnumAny Phrase
    ++ note_structures
    ++ source_citations
rows Cite =
    optional "PAGE" Text Leaf
    ++ optional "DATA" Nothing CiteData
    ++ optional "EVEN" EnumAny Unchecked
    ++ optional "QUAY" EnumAny Leaf
    ++ note_structures
    ++ multimedia_links
rows CiteData =
    optional "DATE" DateValue DateMore
    ++ many "TEXT" Text Unchecked
rows Note =
    optional "MIME LANG" Text Leaf
    ++ many "TRAN" Text Unchecked
    ++ source_citations
rows Leaf = []
rows Unchecked = []

-- the row of a tag in a context
unfoldable pub row : Context → Bytes → Option Row
row context tag = find (λ r. bytes_eq r.tag tag) (rows context)

-- the context below a structure with this row; where there is no row nothing is asked
abbrev pub below_row : Option Row → Context
below_row r = option_map_or (λ r. r.below) r Unchecked

abbrev pub context_below : Context → Bytes → Context
context_below context tag = below_row (row context tag)
