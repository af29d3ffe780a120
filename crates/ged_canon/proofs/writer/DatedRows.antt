-- Only at DATE and SDATE may a payload name a calendar.
use Rattle.std.proofs.Common.{◌≡◌, Bool, true, false, cond, List, [], ◌∷◌, Option, Some, refl, sym, ap, ◌∙◌}
use Rattle.std.specs.Prelude.{not, ◌||◌}
use Rattle.std.specs.List.{list_all, find}
use Rattle.std.specs.Str.{bytes_eq}
use Rattle.std.proofs.lemmas.Bool.{and_parts, true≢false}
use Rattle.ged_line.specs.Bytes.{Bytes}
use Rattle.ged_schema.specs.declared.context.Context.{Context}
use Rattle.ged_schema.specs.declared.context.Context.TheVariants.{File, Head, Gedc, Schma, HeadSour, HeadData, HeadPlac, DateTime, DateMore, Phrase, Typed, Indi, IndiFact, IndiNamed, IndiBirth, IndiAdop, AdopFamc, IndiFamc, Notes, NameMore, NameTran, Fam, FamFact, FamNamed, FamAge, NonEvent, Chan, Crea, Asso, Cite, CiteData, Note, Leaf, Unchecked}
use Rattle.ged_schema.specs.Rows.{Row}
use Rattle.ged_schema.specs.Tables.{rows, row}
use Rattle.ged_canon.specs.Steps.{has_calendar, has_kind}
use Rattle.ged_canon.specs.inner.StepParts.{is_dated}
use Rattle.ged_canon.specs.inner.Writing.{may_be_dated}
use Rattle.ged_canon.proofs.theory.Texts.{equal_bytes}

-- a row has another kind, or one of the two tags
abbrev is_told : Row → Bool
is_told r = not (has_calendar r.kind) || may_be_dated r.tag

all_told : (context : Context) → list_all is_told (rows context) ≡ true
unfolding rows
all_told File = refl
all_told Head = refl
all_told Gedc = refl
all_told Schma = refl
all_told HeadSour = refl
all_told HeadData = refl
all_told HeadPlac = refl
all_told DateTime = refl
all_told DateMore = refl
all_told Phrase = refl
all_told Typed = refl
all_told Indi = refl
all_told IndiFact = refl
all_told IndiNamed = refl
all_told IndiBirth = refl
all_told IndiAdop = refl
all_told AdopFamc = refl
all_told IndiFamc = refl
all_told Notes = refl
all_told NameMore = refl
all_told NameTran = refl
all_told Fam = refl
all_told FamFact = refl
all_told FamNamed = refl
all_told FamAge = refl
all_told NonEvent = refl
all_told Chan = refl
all_told Crea = refl
all_told Asso = refl
all_told Cite = refl
all_told CiteData = refl
all_told Note = refl
all_told Leaf = refl
all_told Unchecked = refl

told_plain : (calendar dated : Bool) → (not calendar || dated) ≡ true → dated ≡ false → calendar ≡ false
told_plain false dated h e = refl
told_plain true dated h e = absurd (true≢false (sym h ∙ e))

module _ (tag : Bytes) (other : may_be_dated tag ≡ false) where
  found_first : (r : Row) (rest : Option Row) → is_told r ≡ true → has_kind has_calendar rest ≡ false → has_kind has_calendar (cond (bytes_eq r.tag tag) (Some r) rest) ≡ false
  found_first r rest told h = by (bytes_eq r.tag tag) refl
    where
      by : (b : Bool) → bytes_eq r.tag tag ≡ b → has_kind has_calendar (cond b (Some r) rest) ≡ false
      by true e = told_plain (has_calendar r.kind) (may_be_dated r.tag) told (ap may_be_dated (equal_bytes r.tag tag e) ∙ other)
      by false e = h

  found_plain : (rs : List Row) → list_all is_told rs ≡ true → has_kind has_calendar (find (λ r. bytes_eq r.tag tag) rs) ≡ false
  found_plain [] h = refl
  found_plain (r ∷ rs) h =
      let parts = and_parts (is_told r) (list_all is_told rs) h in
      found_first r (find (λ q. bytes_eq q.tag tag) rs) parts.0 (found_plain rs parts.1)

  pub plain_row : (context : Context) → is_dated (row context tag) ≡ false
  unfolding row
  plain_row context = found_plain (rows context) (all_told context)
