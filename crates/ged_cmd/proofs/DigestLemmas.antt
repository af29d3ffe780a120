-- What is known of digests that are told one after the other.
use Rattle.std.proofs.Common.{◌≡◌, ℕ, ◌+◌, ◌<◌, ◌≤◌, Bool, true, false, cond, IsTrue, List, [], ◌∷◌, ◌++◌, take, drop, length, get_or, slice_index_or, count_by, nat_lt, Option, None, Bor, ◌⊎◌, refl, sym, subst, ap, ◌∙◌, arith, append_assoc, append-nil, take-append-drop}
use Rattle.std.proofs.lemmas.Bool.{ltb-true, ltb-false}
use Rattle.std.proofs.lemmas.List.{get_or-map, length-map, take_all, take_more}
use Rattle.std.proofs.lemmas.List.Sums.{count_by_more_no, count_by_more_yes, sum_by-take-le}
use Rattle.clap.specs.Words.{Text}
use Rattle.ged_tool.specs.declared.Profile.{Profile}
use Rattle.ged_tool.specs.declared.Edition.{Edition}
use Rattle.ged_faults.specs.Faults.{status_of}
use Rattle.ged_faults.specs.declared.faults.Fault.TheVariants.{InFile, TooLong, ReadFailed, WriteFailed, Memory}
use Rattle.ged_faults.specs.declared.faults.Outcome.{Outcome}
use Rattle.ged_faults.specs.declared.faults.Outcome.TheVariants.{Done, Different, Failed}
use Rattle.ged_cmd.specs.Shelves.{ShelfCall, opening}
use Rattle.ged_cmd.specs.inner.Calling.{opening_all}
use Rattle.ged_cmd.specs.Tasks.{is_input}
use Rattle.ged_cmd.specs.Program.{AreDigested, and_file, and_input, and_nothing, Files, IsDigested, IsNotOpened, IsReadOn, IsWrittenOn, SomeFile, graver, read_in_all, written_in_all}
use Rattle.ged_cmd.specs.Streams.{Reader, Writer}
use Rattle.ged_cmd.specs.inner.Tasks.{names_of}

-- a file's name, among the names of all
within_names : (named : List (Bor Text)) (i : ℕ) → i < length named → i < length (names_of named)
within_names named i within = subst (λ (n : ℕ). i < n) (sym (length-map named (λ (name : Bor Text). name.now))) within

name_at : (named : List (Bor Text)) (i : ℕ) (d : Bor Text) → i < length named → get_or (names_of named) i [] ≡ (slice_index_or named i d).now
name_at named i d within = get_or-map (λ (name : Bor Text). name.now) named i d [] within

pub names_more : (named : List (Bor Text)) (i : ℕ) (d : Bor Text) → i < length named
    → take (i + 1) (names_of named) ≡ take i (names_of named) ++ (slice_index_or named i d).now ∷ []
names_more named i d within =
    take_more (names_of named) i [] (within_names named i within) ∙ ap (λ (name : Text). take i (names_of named) ++ name ∷ []) (name_at named i d within)

-- standard input was not read before, where it is named once at most
none_before : (names : List Text) (i : ℕ) (d : Text) → i < length names → is_input (get_or names i d) ≡ true → count_by is_input names ≤ 1
    → count_by is_input (take i names) ≡ 0
none_before names i d within is most =
    let more = count_by_more_yes is_input names i d within is in
    let least = sum_by-take-le (λ (n : Text). cond (is_input n) 1 0) names (i + 1) in
    omega (arith, more, least, most)

-- the names of all, where those of as many as there are are taken
pub all_names : (named : List (Bor Text)) (i : ℕ) → length named ≤ i → take i (names_of named) ≡ names_of named
all_names named i most = take_all i (names_of named) (subst (λ (n : ℕ). n ≤ i) (sym (length-map named (λ (name : Bor Text). name.now))) most)

pub unread_before : (named : List (Bor Text)) (i : ℕ) (d : Bor Text) → i < length named → count_by is_input (names_of named) ≤ 1
    → is_input (slice_index_or named i d).now ≡ true → count_by is_input (take i (names_of named)) ≡ 0
unread_before named i d within most is =
    none_before (names_of named) i [] (within_names named i within) (ap is_input (name_at named i d within) ∙ is) most

-- standard input is not among more names: the last one does not stand for it
pub still_unread : (named : List (Bor Text)) (i : ℕ) (d : Bor Text) → i < length named → count_by is_input (take (i + 1) (names_of named)) ≡ 0
    → (is_input (slice_index_or named i d).now ≡ false) × (count_by is_input (take i (names_of named)) ≡ 0)
still_unread named i d within none = go (is_input (slice_index_or named i d).now) refl
  where
    go : (b : Bool) → is_input (slice_index_or named i d).now ≡ b
        → (is_input (slice_index_or named i d).now ≡ false) × (count_by is_input (take i (names_of named)) ≡ 0)
    go true is =
        let more = count_by_more_yes is_input (names_of named) i [] (within_names named i within) (ap is_input (name_at named i d within) ∙ is) in
        absurd (omega (arith, more, none))
    go false is = (is, sym (count_by_more_no is_input (names_of named) i [] (within_names named i within) (ap is_input (name_at named i d within) ∙ is)) ∙ none)

-- standard input is not opened
none_opened : (made : List ShelfCall) (name : Text) → is_input name ≡ true → made ≡ made ++ opening_all (name ∷ [])
none_opened made name is = rw is (sym (append-nil made))

file_opened : (made : List ShelfCall) (name : Text) → is_input name ≡ false → made ++ opening name ∷ [] ≡ made ++ opening_all (name ∷ [])
file_opened made name is = rw is refl

module _ {D T : Type 0} (files : Files D T) (to_come : D → Option (List ℕ)) (failed : D → Bool) (profile : Profile) (edition : Edition) where
  -- once the output has failed, nothing is done for the files that are left
  nothing_more : (rest names : List Text) (input : Reader) (writer : Writer) (made : List ShelfCall) (outcome : Outcome)
      → AreDigested files to_come failed profile edition names input writer made outcome → IsTrue writer.failed
      → AreDigested files to_come failed profile edition (names ++ rest) input writer made outcome
  nothing_more [] names input writer made outcome told fails =
      subst (λ (ns : List Text). AreDigested files to_come failed profile edition ns input writer made outcome) (sym (append-nil names)) told
  nothing_more (name ∷ rest) names input writer made outcome told fails =
      subst (λ (ns : List Text). AreDigested files to_come failed profile edition ns input writer made outcome) (append_assoc names (name ∷ []) rest)
      (nothing_more rest (names ++ name ∷ []) input writer made outcome (and_nothing name told fails) fails)

  pub all_told : (names : List Text) (i : ℕ) (input : Reader) (writer : Writer) (made : List ShelfCall) (outcome : Outcome)
      → AreDigested files to_come failed profile edition (take i names) input writer made outcome → IsTrue writer.failed
      → AreDigested files to_come failed profile edition names input writer made outcome
  all_told names i input writer made outcome told fails =
      subst (λ (ns : List Text). AreDigested files to_come failed profile edition ns input writer made outcome) (take-append-drop i names)
      (nothing_more (drop i names) (take i names) input writer made outcome told fails)

  -- the digests of all files are told, where those are these
  pub whole_told : (names front : List Text) → front ≡ names → (input : Reader) (writer : Writer) (made : List ShelfCall) (outcome : Outcome)
      → AreDigested files to_come failed profile edition front input writer made outcome
      → AreDigested files to_come failed profile edition names input writer made outcome
  whole_told names front is input writer made outcome told =
      subst (λ (ns : List Text). AreDigested files to_come failed profile edition ns input writer made outcome) is told

  -- one file more, by its name or from standard input, of which `after` is what was done with it in all
  told_more : (names : List Text) (name : Text) (input reader after : Reader) (writer next : Writer) (made : List ShelfCall) (before outcome : Outcome)
      → AreDigested files to_come failed profile edition names input writer made before → IsWrittenOn writer next
      → (is_input name ≡ false → (after ≡ input) × (IsNotOpened (files.refuses name) None next outcome
      ⊎ SomeFile (files.opens name) to_come failed (λ file. IsDigested profile edition name file next outcome)))
      → (is_input name ≡ true → IsReadOn input reader × (after ≡ read_in_all input reader) × IsDigested profile edition name reader next outcome)
      → (b : Bool) → is_input name ≡ b
      → AreDigested files to_come failed profile edition (names ++ name ∷ []) after (written_in_all writer next) (made ++ opening_all (name ∷ [])) (graver before outcome)
  told_more names name input reader after writer next made before outcome told on named read true is =
      let (read_on, all, digested) = read is in
      subst (λ (r : Reader). AreDigested files to_come failed profile edition (names ++ name ∷ []) r (written_in_all writer next) (made ++ opening_all (name ∷ [])) (graver before outcome))
      (sym all)
      (subst (λ (calls : List ShelfCall). AreDigested files to_come failed profile edition (names ++ name ∷ []) (read_in_all input reader) (written_in_all writer next) calls (graver before outcome))
      (none_opened made name is) (and_input name reader next outcome told on is read_on digested))
  told_more names name input reader after writer next made before outcome told on named read false is =
      let (same, digested) = named is in
      subst (λ (r : Reader). AreDigested files to_come failed profile edition (names ++ name ∷ []) r (written_in_all writer next) (made ++ opening_all (name ∷ [])) (graver before outcome))
      (sym same)
      (subst (λ (calls : List ShelfCall). AreDigested files to_come failed profile edition (names ++ name ∷ []) input (written_in_all writer next) calls (graver before outcome))
      (file_opened made name is) (and_file name next outcome told on is digested))

  pub one_more : (given : List (Bor Text)) (i : ℕ) (d : Bor Text) → i < length given
      → (input reader after : Reader) (writer next : Writer) (made all : List ShelfCall) (before outcome gravest : Outcome)
      → AreDigested files to_come failed profile edition (take i (names_of given)) input writer made before → IsWrittenOn writer next
      → all ≡ made ++ opening_all ((slice_index_or given i d).now ∷ [])
      → (is_input (slice_index_or given i d).now ≡ false → (after ≡ input) × (IsNotOpened (files.refuses (slice_index_or given i d).now) None next outcome
      ⊎ SomeFile (files.opens (slice_index_or given i d).now) to_come failed (λ file. IsDigested profile edition (slice_index_or given i d).now file next outcome)))
      → (is_input (slice_index_or given i d).now ≡ true → IsReadOn input reader × (after ≡ read_in_all input reader)
      × IsDigested profile edition (slice_index_or given i d).now reader next outcome)
      → gravest ≡ graver before outcome
      → AreDigested files to_come failed profile edition (take (i + 1) (names_of given)) after (written_in_all writer next) all gravest
  one_more given i d within input reader after writer next made all before outcome gravest told on calls named read is =
      subst (λ (ns : List Text). AreDigested files to_come failed profile edition ns after (written_in_all writer next) all gravest)
      (sym (names_more given i d within))
      (subst (λ (o : Outcome). AreDigested files to_come failed profile edition (take i (names_of given) ++ (slice_index_or given i d).now ∷ []) after
      (written_in_all writer next) all o) (sym is)
      (subst (λ (cs : List ShelfCall). AreDigested files to_come failed profile edition (take i (names_of given) ++ (slice_index_or given i d).now ∷ []) after
      (written_in_all writer next) cs (graver before outcome)) (sym calls)
      (told_more (take i (names_of given)) (slice_index_or given i d).now input reader after writer next made before outcome told on named read
      (is_input (slice_index_or given i d).now) refl)))

-- only what is done has the status 0
zero_status : (outcome : Outcome) → status_of outcome ≡ 0 → outcome ≡ Done
zero_status Done e = refl
zero_status Different e = absurd (omega (arith, e))
zero_status (Failed which (InFile line kind)) e = absurd (omega (arith, e))
zero_status (Failed which TooLong) e = absurd (omega (arith, e))
zero_status (Failed which ReadFailed) e = absurd (omega (arith, e))
zero_status (Failed which WriteFailed) e = absurd (omega (arith, e))
zero_status (Failed which (Memory error)) e = absurd (omega (arith, e))

-- the gravest of all outcomes is done only where each is
pub all_done : (before later gravest : Outcome) → gravest ≡ graver before later → gravest ≡ Done → (before ≡ Done) × (later ≡ Done)
all_done before later gravest is done = go (nat_lt (status_of later) (status_of before)) refl (sym is ∙ done)
  where
    go : (b : Bool) → nat_lt (status_of later) (status_of before) ≡ b → cond b before later ≡ Done → (before ≡ Done) × (later ≡ Done)
    go true less is =
        let low : status_of before ≡ 0 = ap status_of is in absurd (omega (arith, ltb-true (status_of later) (status_of before) less, low))
    go false not_less is =
        let low : status_of later ≡ 0 = ap status_of is in
        (zero_status before (omega (arith, ltb-false (status_of later) (status_of before) not_less, low)), is)
