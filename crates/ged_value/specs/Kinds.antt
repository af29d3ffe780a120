-- The kinds of payloads: their words, and which payloads are of a kind (FamilySearch GEDCOM 7.0, "Data types").
use Rattle.std.specs.Prelude.{◌≡◌, Bool, true, false, List, [], ◌++◌, ◌⊎◌, Option, Some, None, is_some, IsTrue, codes, ⊤}
use Rattle.ged_value.specs.Words.{Bytes, is_integer}
use Rattle.ged_value.specs.Enumerations.{sexes, pedigrees, statuses, name_types, is_of_set, is_of_any_set}
use Rattle.ged_value.specs.Values.{PeriodParts, ValueParts, span, DateValueText}
use Rattle.ged_value.specs.Exact.{ExactParts, ExactText}
use Rattle.ged_value.specs.Times.{TimeParts, TimeText}
use Rattle.ged_value.specs.Ages.{AgeParts, AgeText}
use Rattle.ged_value.specs.Names.{NameParts, NameText}
use Rattle.ged_value.specs.Restrictions.{RestrictionsText}
use Rattle.ged_value.specs.declared.kind.Kind.{Kind}
use Rattle.ged_value.specs.declared.kind.Kind.TheVariants.{Nothing, Text, Free, EventFlag, Integer, Version, DateValue, DatePeriod, DateExact, Time, Age, Name, EnumAny, SexEnum, PediEnum, StatEnum, NameTypeEnum, ResnList, ToFam, ToIndi, ToSubm, ToSnote, ToSour, ToObje}
use Rattle.ged_value.specs.declared.kind.Given.{Given}
use Rattle.ged_value.specs.declared.kind.Given.TheVariants.{Void, Pointer, One, Many}

abbrev pub kind_word : Kind → Bytes
kind_word Nothing = codes "Nothing"
kind_word Text = codes "Text"
kind_word Free = codes "Free"
kind_word EventFlag = codes "EventFlag"
kind_word Integer = codes "Integer"
kind_word Version = codes "Version"
kind_word DateValue = codes "DateValue"
kind_word DatePeriod = codes "DatePeriod"
kind_word DateExact = codes "DateExact"
kind_word Time = codes "Time"
kind_word Age = codes "Age"
kind_word Name = codes "Name"
kind_word EnumAny = codes "EnumAny"
kind_word SexEnum = codes "SexEnum"
kind_word PediEnum = codes "PediEnum"
kind_word StatEnum = codes "StatEnum"
kind_word NameTypeEnum = codes "NameTypeEnum"
kind_word ResnList = codes "ResnList"
kind_word ToFam = codes "ToFam"
kind_word ToIndi = codes "ToIndi"
kind_word ToSubm = codes "ToSubm"
kind_word ToSnote = codes "ToSnote"
kind_word ToSour = codes "ToSour"
kind_word ToObje = codes "ToObje"

-- version 7.0 of the standard, or one of its corrections
abbrev pub IsVersion : Bytes → Type 0
IsVersion text = (text ≡ codes "7.0") ⊎ ((digits : Bytes) × IsTrue (is_integer digits) × (text ≡ codes "7.0." ++ digits))

-- the texts of one line that are of a kind; a kind of pointers has none
abbrev pub FitsLine : Kind → Bytes → Type 0
FitsLine Nothing text = text ≡ []
FitsLine Text text = ⊤
FitsLine Free text = ⊤
FitsLine EventFlag text = (text ≡ []) ⊎ (text ≡ codes "Y")
FitsLine Integer text = IsTrue (is_integer text)
FitsLine Version text = IsVersion text
FitsLine DateValue text = (value : ValueParts) × DateValueText value text
FitsLine DatePeriod text = (period : PeriodParts) × DateValueText (span period) text
FitsLine DateExact text = (date : ExactParts) × ExactText date text
FitsLine Time text = (time : TimeParts) × TimeText time text
FitsLine Age text = (age : AgeParts) × AgeText age text
FitsLine Name text = (name : NameParts) × NameText name text
FitsLine EnumAny text = IsTrue (is_of_any_set text)
FitsLine SexEnum text = IsTrue (is_of_set sexes text)
FitsLine PediEnum text = IsTrue (is_of_set pedigrees text)
FitsLine StatEnum text = IsTrue (is_of_set statuses text)
FitsLine NameTypeEnum text = IsTrue (is_of_set name_types text)
FitsLine ResnList text = (items : List Bytes) × RestrictionsText items text
FitsLine _ text = ⊥

-- the kinds whose text may have several lines
abbrev pub takes_lines : Kind → Bool
takes_lines Text = true
takes_lines Free = true
takes_lines _ = false

-- the tag of the records to which pointers of the kind lead
unfoldable pub target : Kind → Option Bytes
target ToFam = Some (codes "FAM")
target ToIndi = Some (codes "INDI")
target ToSubm = Some (codes "SUBM")
target ToSnote = Some (codes "SNOTE")
target ToSour = Some (codes "SOUR")
target ToObje = Some (codes "OBJE")
target kind = None

-- the kinds whose payload may be a pointer, and may be void
abbrev pub takes_links : Kind → Bool
takes_links Free = true
takes_links kind = is_some (target kind)

-- the payload is of the kind
abbrev pub Fits : Kind → Given → Type 0
Fits kind (One text) = FitsLine kind text.now
Fits kind Many = IsTrue (takes_lines kind)
Fits kind Pointer = IsTrue (takes_links kind)
Fits kind Void = IsTrue (takes_links kind)
