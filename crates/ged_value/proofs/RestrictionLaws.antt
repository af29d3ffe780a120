-- Lists of restrictions, one item after the other.
use Rattle.std.proofs.Common.{◌≡◌, ℕ, ◌-◌, ◌≤◌, ◌<◌, Bool, true, false, not, inl, inr, cond, List, [], ◌∷◌, ◌++◌, length, drop, Option, Some, None, refl, sym, ap, subst, ◌∙◌, arith, append_assoc, append-nil, length-append}
use Rattle.std.proofs.Math.Seq.{drop-length}
use Rattle.std.proofs.lemmas.List.{take-append-drop}
use Rattle.std.specs.Prelude.{◌==◌, IsTrue, IfSome, ◌↔◌}
use Rattle.std.specs.List.{list_all}
use Rattle.std.specs.Str.Pattern.{FindsCharPrefix, FindsCharSuffix, CutsPrefixes, CutsSuffixes, IsTrimStartMatches, IsTrimEndMatches}
use Rattle.std.proofs.lemmas.Bool.{and_parts, and_from, or_cases, or_parts, or_right, false≢true, false_from_ne_true}
use Rattle.std.proofs.lemmas.Bool.Decides.{Decides-eqb}
use Rattle.std.proofs.lemmas.Str.Pattern.{drop_at_char}
use Rattle.ged_value.specs.Words.{Bytes, is_extension_tag, is_tag_character}
use Rattle.ged_value.specs.Enumerations.{is_of_set, restrictions}
use Rattle.ged_value.specs.Restrictions.{are_spaces, SpellsList, RestrictionsText}
use Rattle.ged_value.specs.inner.RestrictionReading.{AreRestrictions, trim_start, trim_end}
use Rattle.ged_value.proofs.WordLaws.{both}
use Rattle.ged_value.proofs.DateLaws.{none_such}
use Rattle.ged_value.specs.inner.Cuts.{cut_at, marked}
use Rattle.ged_value.proofs.CutLaws.{has, has_none, has_neither, cut_again, cut_joined}

is_space : (b : ℕ) → (b == 32) ≡ true → b ≡ 32
is_space b h = (Decides-eqb b 32).0 h

-- a text that begins with no space, or ends with none
abbrev pub BeginsPlain : Bytes → Type 0
BeginsPlain text = (rest : Bytes) → text ≡ 32 ∷ rest → ⊥

abbrev pub EndsPlain : Bytes → Type 0
EndsPlain text = (front : Bytes) → text ≡ front ++ (32 ∷ []) → ⊥

-- spaces at the start
start_spaces : (spaces text : Bytes) → are_spaces spaces ≡ true → trim_start (spaces ++ text) ≡ trim_start text
start_spaces [] text h = refl
start_spaces (b ∷ bs) text h = let p = and_parts (b == 32) (are_spaces bs) h in rw (p.0, start_spaces bs text p.1) refl

start_plain_at : (t : Bool) (b : ℕ) (bs : Bytes) → (t ≡ true → b ≡ 32) → BeginsPlain (b ∷ bs) → cond t (trim_start bs) (b ∷ bs) ≡ b ∷ bs
start_plain_at true b bs e h = absurd (h bs (ap (λ x. x ∷ bs) (e refl)))
start_plain_at false b bs e h = refl

start_plain : (text : Bytes) → BeginsPlain text → trim_start text ≡ text
start_plain [] h = refl
start_plain (b ∷ bs) h = start_plain_at (b == 32) b bs (is_space b) h

pub trimmed_start : (spaces rest : Bytes) → are_spaces spaces ≡ true → BeginsPlain rest → trim_start (spaces ++ rest) ≡ rest
trimmed_start spaces rest h p = start_spaces spaces rest h ∙ start_plain rest p

-- the spaces that were left out at the start
start_joined_at : (t : Bool) (b : ℕ) (bs : Bytes) → (b == 32) ≡ t → ((spaces : Bytes) × (are_spaces spaces ≡ true) × (bs ≡ spaces ++ trim_start bs))
    → (spaces : Bytes) × (are_spaces spaces ≡ true) × ((b ∷ bs) ≡ spaces ++ cond t (trim_start bs) (b ∷ bs))
start_joined_at true b bs e h = (b ∷ h.0, and_from (b == 32) (are_spaces h.0) e h.1, ap (λ x. b ∷ x) h.2)
start_joined_at false b bs e h = ([], refl, refl)

pub start_joined : (text : Bytes) → (spaces : Bytes) × (are_spaces spaces ≡ true) × (text ≡ spaces ++ trim_start text)
start_joined [] = ([], refl, refl)
start_joined (b ∷ bs) = start_joined_at (b == 32) b bs refl (start_joined bs)

-- spaces at the end
last_space : (b : ℕ) (bs : Bytes) → are_spaces (b ∷ bs) ≡ true → (front : Bytes) × ((b ∷ bs) ≡ front ++ (32 ∷ []))
last_space b [] h = ([], ap (λ x. x ∷ []) (is_space b (and_parts (b == 32) true h).0))
last_space b (c ∷ cs) h =
    let p = and_parts (b == 32) (are_spaces (c ∷ cs)) h in
    let l = last_space c cs p.1 in
    (b ∷ l.0, ap (λ x. b ∷ x) l.1)

front_spaces : (a b : Bytes) → are_spaces (a ++ b) ≡ true → are_spaces a ≡ true
front_spaces [] b h = refl
front_spaces (x ∷ xs) b h = let p = and_parts (x == 32) (are_spaces (xs ++ b)) h in and_from (x == 32) (are_spaces xs) p.0 (front_spaces xs b p.1)

all_left_out : (text : Bytes) → are_spaces text ≡ true → trim_end text ≡ []
all_left_out [] h = refl
all_left_out (b ∷ bs) h = rw h refl

pub trimmed_end : (rest spaces : Bytes) → are_spaces spaces ≡ true → EndsPlain rest → trim_end (rest ++ spaces) ≡ rest
trimmed_end [] spaces h p = all_left_out spaces h
trimmed_end (b ∷ bs) spaces h p =
    let other : are_spaces (b ∷ (bs ++ spaces)) ≡ false = false_from_ne_true _ (λ t. let l = last_space b bs (front_spaces (b ∷ bs) spaces t) in p l.0 l.1) in
    rw other (ap (λ x. b ∷ x) (trimmed_end bs spaces h (λ front e. p (b ∷ front) (ap (λ x. b ∷ x) e))))

end_joined_at : (t : Bool) (b : ℕ) (bs : Bytes) → are_spaces (b ∷ bs) ≡ t → ((spaces : Bytes) × (are_spaces spaces ≡ true) × (bs ≡ trim_end bs ++ spaces))
    → (spaces : Bytes) × (are_spaces spaces ≡ true) × ((b ∷ bs) ≡ cond t [] (b ∷ trim_end bs) ++ spaces)
end_joined_at true b bs e h = (b ∷ bs, e, refl)
end_joined_at false b bs e h = (h.0, h.1, ap (λ x. b ∷ x) h.2)

pub end_joined : (text : Bytes) → (spaces : Bytes) × (are_spaces spaces ≡ true) × (text ≡ trim_end text ++ spaces)
end_joined [] = ([], refl, refl)
end_joined (b ∷ bs) = end_joined_at (are_spaces (b ∷ bs)) b bs refl (end_joined bs)

-- what `trim_start_matches` and `trim_end_matches` leave out at a space
start_cut : (ns : List ℕ) (s r : Bytes) → CutsPrefixes (FindsCharPrefix 32) s ns r → trim_start s ≡ trim_start r
start_cut [] s r h = ap trim_start (sym h)
start_cut (n ∷ ns) s r h =
    let first : h.0 ≡ 32 ∷ r = drop_at_char 32 h.0 0 n h.2 (omega arith) ∙ ap (λ x. 32 ∷ x) (sym h.3) in
    start_cut ns s h.0 h.1 ∙ ap trim_start first

start_full : (r : Bytes) (o : Option ℕ) → FindsCharPrefix 32 r o → IfSome o (λ n. n ≡ 0) → BeginsPlain r
unfolding lib.Utf8.encode
start_full r None f z = λ rest e. f rest e
start_full r (Some n) f z = absurd (omega (arith, f.ends))

pub start_matches : (s r : Bytes) → IsTrimStartMatches (FindsCharPrefix 32) s r → r ≡ trim_start s
start_matches s r h = sym (start_cut h.0.0 s r h.0.1 ∙ start_plain r (start_full r h.1.0 h.1.1 h.1.2))

end_cut : (ns : List ℕ) (s r : Bytes) → CutsSuffixes (FindsCharSuffix 32) s ns r → (spaces : Bytes) × (are_spaces spaces ≡ true) × (s ≡ r ++ spaces)
end_cut [] s r h = ([], refl, sym h ∙ sym (append-nil r))
end_cut (n ∷ ns) s r h =
    let m = h.0 in
    let last : drop (length m - n) m ≡ 32 ∷ [] = drop_at_char 32 m (length m - n) (length m) h.2.1 (omega arith) ∙ ap (λ x. 32 ∷ x) (drop-length m) in
    let whole : m ≡ r ++ (32 ∷ []) = sym (take-append-drop (length m - n) m) ∙ (λ k. sym h.3 k ++ last k) in
    let front = end_cut ns s m h.1 in
    (32 ∷ front.0, front.1, front.2 ∙ ap (λ x. x ++ front.0) whole ∙ append_assoc r (32 ∷ []) front.0)

end_full : (r : Bytes) (o : Option ℕ) → FindsCharSuffix 32 r o → IfSome o (λ n. n ≡ 0) → EndsPlain r
unfolding lib.Utf8.encode
end_full r None f z = λ front e. f front e
end_full r (Some n) f z = absurd (omega (arith, f.0))

pub end_matches : (s r : Bytes) → IsTrimEndMatches (FindsCharSuffix 32) s r → r ≡ trim_end s
end_matches s r h =
    let cuts = end_cut h.0.0 s r h.0.1 in
    sym (ap trim_end cuts.2 ∙ trimmed_end r cuts.0 cuts.1 (end_full r h.1.0 h.1.1 h.1.2))

-- an item has neither spaces nor commas
tag_lacks : (c : ℕ) (w : Bytes) → is_tag_character c ≡ false → is_extension_tag w ≡ true → has c w ≡ false
tag_lacks c [] f h = refl
tag_lacks c (b ∷ bs) f h =
    let parts = both _ (list_all is_tag_character bs) h in
    let score : b ≡ 95 = (Decides-eqb b 95).0 (both _ _ parts.0).0 in
    has_none is_tag_character c (b ∷ bs) f (and_from (is_tag_character b) (list_all is_tag_character bs) (rw score refl) parts.1)

item_lacks : (c : ℕ) (w : Bytes) → is_tag_character c ≡ false → list_all (λ x. not (has c x)) restrictions ≡ true → is_of_set restrictions w ≡ true → has c w ≡ false
item_lacks c w f table h = elim (or_cases _ _ h) [
  | inl one ↦ false_from_ne_true _ (λ t. false≢true (sym (none_such (has c) restrictions w t table) ∙ one))
  | inr tag ↦ tag_lacks c w f tag
]

abbrev is_item : Bytes → Bool
is_item w = is_of_set restrictions w

spaceless : (w : Bytes) → is_item w ≡ true → has 32 w ≡ false
spaceless w h = item_lacks 32 w refl refl h

commaless : (w : Bytes) → is_item w ≡ true → has 44 w ≡ false
commaless w h = item_lacks 44 w refl refl h

item_begins : (w rest : Bytes) → is_item w ≡ true → BeginsPlain (w ++ rest)
item_begins [] rest h = absurd (false≢true h)
item_begins (b ∷ bs) rest h = λ others e.
    let space : b ≡ 32 = cc in
    let other = or_parts (b == 32) (has 32 bs) (spaceless (b ∷ bs) h) in
    false≢true (sym other.0 ∙ (Decides-eqb b 32).1 space)

has_last : (front : Bytes) → has 32 (front ++ (32 ∷ [])) ≡ true
has_last [] = refl
has_last (b ∷ bs) = or_right (b == 32) _ (has_last bs)

item_ends : (w : Bytes) → is_item w ≡ true → EndsPlain w
item_ends w h front e = false≢true (sym (spaceless w h) ∙ ap (has 32) e ∙ has_last front)

spaces_commaless : (spaces : Bytes) → are_spaces spaces ≡ true → has 44 spaces ≡ false
spaces_commaless spaces h = has_none (λ b. b == 32) 44 spaces refl h

list_begins : (items : List Bytes) (text : Bytes) → list_all is_item items ≡ true → SpellsList items text → BeginsPlain text
list_begins [] text all h = absurd h
list_begins (w ∷ []) text all h = λ rest e. item_begins w [] (both (is_item w) true all).0 rest (append-nil w ∙ sym h ∙ e)
list_begins (w ∷ v ∷ ws) text all h = λ rest e. item_begins w _ (both (is_item w) (list_all is_item (v ∷ ws)) all).0 rest (sym h.4 ∙ e)

-- a list of several items is cut behind its first one
first_cut : (text w v : Bytes) (ws : List Bytes) (h : RestrictionsText (w ∷ v ∷ ws) text) → cut_at 44 text ≡ (w ++ h.1.0, Some (h.1.1 ++ h.1.2))
first_cut text w v ws h =
    let item = (both (is_item w) (list_all is_item (v ∷ ws)) h.0).0 in
    let before = h.1.0 in
    let spaces = (both (are_spaces before) (are_spaces h.1.1) h.1.3).0 in
    let joined : text ≡ (w ++ before) ++ (44 ∷ (h.1.1 ++ h.1.2)) = h.1.4 ∙ sym (append_assoc w before (44 ∷ (h.1.1 ++ h.1.2))) in
    ap (cut_at 44) joined ∙ cut_again 44 (w ++ before) (Some (h.1.1 ++ h.1.2)) (has_neither 44 w before (commaless w item) (spaces_commaless before spaces))

uncut : (text w : Bytes) → is_item w ≡ true → text ≡ w → cut_at 44 text ≡ (w, None)
uncut text w item e = ap (cut_at 44) (e ∙ sym (append-nil w)) ∙ cut_again 44 w None (commaless w item)

-- the spaces about the first items are left out again
first_word : (text w v : Bytes) (ws : List Bytes) (h : RestrictionsText (w ∷ v ∷ ws) text) → trim_end (w ++ h.1.0) ≡ w
first_word text w v ws h =
    trimmed_end w h.1.0 (both (are_spaces h.1.0) (are_spaces h.1.1) h.1.3).0 (item_ends w (both (is_item w) (list_all is_item (v ∷ ws)) h.0).0)

others_left : (text w v : Bytes) (ws : List Bytes) (h : RestrictionsText (w ∷ v ∷ ws) text) → trim_start (h.1.1 ++ h.1.2) ≡ h.1.2
others_left text w v ws h =
    trimmed_start h.1.1 h.1.2 (both (are_spaces h.1.0) (are_spaces h.1.1) h.1.3).1 (list_begins (v ∷ ws) h.1.2 (both (is_item w) (list_all is_item (v ∷ ws)) h.0).1 h.1.5)

-- a text is cut in one way
cut_or_not : (a b c : Bytes) → ◌≡◌ {A = Bytes × Option Bytes} (a, Some b) (c, None) → ⊥
cut_or_not a b c e = let parts : ◌≡◌ {A = Option Bytes} (Some b) None = ap (λ (p : Bytes × Option Bytes). p.1) e in cc

same_cut : (a b c d : Bytes) → ◌≡◌ {A = Bytes × Option Bytes} (a, Some b) (c, Some d) → (a ≡ c) × (b ≡ d)
same_cut a b c d e =
    let parts : ◌≡◌ {A = Option Bytes} (Some b) (Some d) = ap (λ (p : Bytes × Option Bytes). p.1) e in
    (ap (λ (p : Bytes × Option Bytes). p.0) e, cc)

-- a text that is cut at its first comma
module _ (text item others : Bytes) (cuts : cut_at 44 text ≡ (item, Some others)) where
  first_item : (items : List Bytes) → RestrictionsText items text → (is_item (trim_end item) ≡ true) × AreRestrictions (trim_start others)
  first_item [] h = absurd h.1
  first_item (w ∷ []) h = absurd (cut_or_not item others w (sym cuts ∙ uncut text w (both (is_item w) true h.0).0 h.1))
  first_item (w ∷ v ∷ ws) h =
      let all = both (is_item w) (list_all is_item (v ∷ ws)) h.0 in
      let same = same_cut item others (w ++ h.1.0) (h.1.1 ++ h.1.2) (sym cuts ∙ first_cut text w v ws h) in
      let word : trim_end item ≡ w = ap trim_end same.0 ∙ first_word text w v ws h in
      let left : trim_start others ≡ h.1.2 = ap trim_start same.1 ∙ others_left text w v ws h in
      (ap is_item word ∙ all.0, subst AreRestrictions (sym left) (v ∷ ws, (all.1, h.1.5)))

  item_before : (items : List Bytes) → is_item (trim_end item) ≡ true → RestrictionsText items (trim_start others) → AreRestrictions text
  item_before [] first h = absurd h.1
  item_before (v ∷ ws) first h =
      let before = end_joined item in
      let after = start_joined others in
      let whole : text ≡ item ++ (44 ∷ others) = cut_joined 44 text ∙ ap (λ (p : Bytes × Option Bytes). p.0 ++ marked 44 p.1) cuts in
      let joined : text ≡ trim_end item ++ (before.0 ++ (44 ∷ (after.0 ++ trim_start others))) =
      whole ∙ ap (λ x. x ++ (44 ∷ others)) before.2 ∙ append_assoc (trim_end item) before.0 (44 ∷ others) ∙ ap (λ x. trim_end item ++ (before.0 ++ (44 ∷ x))) after.2 in
      (trim_end item ∷ v ∷ ws, (and_from (is_item (trim_end item)) _ first h.0, (before.0, after.0, trim_start others, and_from (are_spaces before.0) _ before.1 after.1, joined, h.1)))

  pub refused : is_item (trim_end item) ≡ false → AreRestrictions text → ⊥
  refused other h = false≢true (sym other ∙ (first_item h.0 h.1).0)

  pub shorter : is_item (trim_end item) ≡ true → AreRestrictions (trim_start others) ↔ AreRestrictions text
  shorter first = (λ h. item_before h.0 first h.1, λ h. (first_item h.0 h.1).1)

-- a text without a comma
lone_item : (text : Bytes) → cut_at 44 text ≡ (text, None) → (items : List Bytes) → RestrictionsText items text → is_item text ≡ true
lone_item text cuts [] h = absurd h.1
lone_item text cuts (w ∷ []) h = ap is_item h.1 ∙ (both (is_item w) true h.0).0
lone_item text cuts (w ∷ v ∷ ws) h = absurd (cut_or_not (w ++ h.1.0) (h.1.1 ++ h.1.2) text (sym (first_cut text w v ws h) ∙ cuts))

pub lone : (text : Bytes) → cut_at 44 text ≡ (text, None) → IsTrue (is_item text) ↔ AreRestrictions text
lone text cuts = (λ t. (text ∷ [], (and_from (is_item text) true t refl, refl)), λ h. lone_item text cuts h.0 h.1)

-- each turn of the loop leaves a shorter text
pub shorter_start : (text : Bytes) → length (trim_start text) ≤ length text
shorter_start text = let j = start_joined text in omega (arith, ap length j.2, length-append j.0 (trim_start text))

pub cut_shorter : (text item others : Bytes) → text ≡ item ++ (44 ∷ others) → length (trim_start others) < length text
cut_shorter text item others e = omega (arith, ap length e, length-append item (44 ∷ others), shorter_start others)

-- a text has at most one list of items
lone_list : (text w : Bytes) (items : List Bytes) → is_item w ≡ true → text ≡ w → RestrictionsText items text → items ≡ w ∷ []
lone_list text w [] one e h = absurd h.1
lone_list text w (v ∷ []) one e h = ap (λ x. x ∷ []) (sym h.1 ∙ e)
lone_list text w (v ∷ u ∷ items) one e h = absurd (cut_or_not (v ++ h.1.0) (h.1.1 ++ h.1.2) w (sym (first_cut text v u items h) ∙ uncut text w one e))

pub same_list : (x y : List Bytes) (text : Bytes) → RestrictionsText x text → RestrictionsText y text → x ≡ y
same_list [] y text g h = absurd g.1
same_list (w ∷ []) y text g h = sym (lone_list text w y (both (is_item w) true g.0).0 g.1 h)
same_list (w ∷ u ∷ ws) [] text g h = absurd h.1
same_list (w ∷ u ∷ ws) (v ∷ []) text g h = lone_list text v (w ∷ u ∷ ws) (both (is_item v) true h.0).0 h.1 g
same_list (w ∷ u ∷ ws) (v ∷ t ∷ vs) text g h =
    let same = same_cut (w ++ g.1.0) (g.1.1 ++ g.1.2) (v ++ h.1.0) (h.1.1 ++ h.1.2) (sym (first_cut text w u ws g) ∙ first_cut text v t vs h) in
    let word : w ≡ v = sym (first_word text w u ws g) ∙ ap trim_end same.0 ∙ first_word text v t vs h in
    let rest : h.1.2 ≡ g.1.2 = sym (others_left text v t vs h) ∙ ap trim_start (sym same.1) ∙ others_left text w u ws g in
    let here : RestrictionsText (u ∷ ws) g.1.2 = ((both (is_item w) (list_all is_item (u ∷ ws)) g.0).1, g.1.5) in
    let there : RestrictionsText (t ∷ vs) g.1.2 = subst (RestrictionsText (t ∷ vs)) rest ((both (is_item v) (list_all is_item (t ∷ vs)) h.0).1, h.1.5) in
    (λ k. word k ∷ same_list (u ∷ ws) (t ∷ vs) g.1.2 here there k)
