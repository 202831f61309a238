-- What is held and right bears what bears by all texts.
use Rattle.std.proofs.Common.{◌≡◌, ◌∙◌, sym, ap, refl, ℕ, suc, Bool, true, false, cond, ◌&&◌, ◌||◌, is_some, List, [], ◌∷◌, filter, length, map, Option, Some, None}
use Rattle.std.specs.List.{AllByRecursion, find, list_any}
use Rattle.std.specs.Option.{option_map_or}
use Rattle.std.specs.Str.{bytes_eq}
use Rattle.law_register.specs.declared.answer.question.Reading.{Reading}
use Rattle.law_register.specs.declared.answer.question.Reading.TheVariants as reading
use Rattle.law_register.specs.declared.law.modification.ModSource.{ModSource}
use Rattle.law_register.specs.declared.law.modification.Modification.{Modification}
use Rattle.law_register.specs.declared.law.modification.Modification.TheVariants.{Textual, Force, Efficacy}
use Rattle.law_register.specs.declared.register.known.Known.{Known}
use Rattle.law_register.specs.declared.register.known.KnownMod.{KnownMod}
use Rattle.law_register.specs.Answer.PastKeys.{is_same_reading}
use Rattle.law_register.specs.Answer.Standing.{is_within}
use Rattle.law_register.specs.Law.Sources.{source_of}
use Rattle.law_register.proofs.Puts.{and_true, bytes_are, bytes_same, left_true, right_true}
use Rattle.law_register.specs.Provisions.Depending.{comes_from}
use Rattle.source_provisions.specs.Held.{HeldValue, HoldingValue, IsRight, holds, is_of, looks_at, mod_held, named_holds, names, stands_by, work_held}
use Rattle.law_register.specs.Provisions.Line.{work_in}
use Rattle.law_register.specs.Provisions.Looking.{is_after, looked_at, source_looked_at}
use Rattle.law_register.specs.Provisions.Trees.{borne, is_borne, named_stands, stands, trees, work_borne}
use Rattle.source_provisions.proofs.Looking.{some_passes}

reading_same : (a b : Reading) → is_same_reading a b ≡ true → a ≡ b
reading_same reading.Force reading.Force h = refl
reading_same reading.Efficacy reading.Efficacy h = refl
reading_same reading.Force reading.Efficacy h = absurd (let wrong : false ≡ true = h in cc)
reading_same reading.Efficacy reading.Force h = absurd (let wrong : false ≡ true = h in cc)

pub some_passed : {A : Type 0} (test : A → Bool) (a : A) (xs : List A) → test a ≡ true → list_any test (a ∷ xs) ≡ true
some_passed test a xs h = ap (λ b. b || list_any test xs) h

pub later_passed : {A : Type 0} (test : A → Bool) (a : A) (xs : List A) → list_any test xs ≡ true → list_any test (a ∷ xs) ≡ true
later_passed test a xs h = by (test a)
  where
    by : (b : Bool) → (b || list_any test xs) ≡ true
    by true = refl
    by false = h

-- the first of one, and of none
module _ (test : HeldValue → Bool) (P : HeldValue → Type 0) where
  one_found : (held : List HeldValue) → AllByRecursion P held → length (filter test held) ≡ 1
      → (h : HeldValue) × (find test held ≡ Some h) × (test h ≡ true) × P h
  one_found [] all is = absurd (let wrong : 0 ≡ 1 = is in cc)
  one_found (h ∷ hs) all is = by (test h) refl (one_found hs all.1) is
    where
      by : (b : Bool) → test h ≡ b → (length (filter test hs) ≡ 1 → (k : HeldValue) × (find test hs ≡ Some k) × (test k ≡ true) × P k)
          → length (cond b (h ∷ filter test hs) (filter test hs)) ≡ 1
          → (k : HeldValue) × (cond b (Some h) (find test hs) ≡ Some k) × (test k ≡ true) × P k
      by true here rest is = (h, refl, here, all.0)
      by false here rest is = rest is

  none_found : (held : List HeldValue) → length (filter test held) ≡ 0 → find test held ≡ None
  none_found [] is = refl
  none_found (h ∷ hs) is = by (test h) (none_found hs) is
    where
      by : (b : Bool) → (length (filter test hs) ≡ 0 → find test hs ≡ None) → length (cond b (h ∷ filter test hs) (filter test hs)) ≡ 0
          → cond b (Some h) (find test hs) ≡ None
      by true rest is = absurd (let wrong : suc (length (filter test hs)) ≡ 0 = is in cc)
      by false rest is = rest is

module _ (line : List Known) (known : Known) (holding : HoldingValue) (right : IsRight line known holding) (reading : Reading) (day : ℕ) where
  abbrev Says : HeldValue → Type 0
  Says h = (day : ℕ) → is_within h.spans day ≡ stands (trees line h.reading day) h.reading day h.work h.provision

  -- a provision that is looked at stands by what is held of it exactly where it stands
  held_says : (work wid : List ℕ) → looks_at line known work wid ≡ true
      → stands_by (find (is_of work wid reading) holding.held) day ≡ stands (trees line reading day) reading day work wid
  held_says work wid looks = by (one_found (is_of work wid reading) Says holding.held right.spans (right.each_once work wid reading ∙ ap (λ b. cond b 1 0) looks))
    where
      by : (h : HeldValue) × (find (is_of work wid reading) holding.held ≡ Some h) × (is_of work wid reading h ≡ true) × Says h
          → stands_by (find (is_of work wid reading) holding.held) day ≡ stands (trees line reading day) reading day work wid
      by (h, found, is, says) =
          let same_work : h.work ≡ work = bytes_same h.work work (left_true (bytes_eq h.work work) (bytes_eq h.provision wid && is_same_reading h.reading reading) is) in
          let others : (bytes_eq h.provision wid && is_same_reading h.reading reading) ≡ true = right_true (bytes_eq h.work work) (bytes_eq h.provision wid && is_same_reading h.reading reading) is in
          let same_wid : h.provision ≡ wid = bytes_same h.provision wid (left_true (bytes_eq h.provision wid) (is_same_reading h.reading reading) others) in
          let same_reading : h.reading ≡ reading = reading_same h.reading reading (right_true (bytes_eq h.provision wid) (is_same_reading h.reading reading) others) in
          ap (λ o. stands_by o day) found
          ∙ says day
          ∙ ap (λ r. stands (trees line r day) r day h.work h.provision) same_reading
          ∙ ap (λ w. stands (trees line reading day) reading day w h.provision) same_work
          ∙ ap (stands (trees line reading day) reading day work) same_wid

  held_of_none : (work wid : List ℕ) → looks_at line known work wid ≡ false → stands_by (find (is_of work wid reading) holding.held) day ≡ true
  held_of_none work wid none =
      ap (λ o. stands_by o day) (none_found (is_of work wid reading) Says holding.held (right.each_once work wid reading ∙ ap (λ b. cond b 1 0) none))

  -- a modification that stands looks at its provision, and where it does not none does
  looks : (m : KnownMod) (source : ModSource) (wid : List ℕ) → source_of m.body ≡ source → source.provision ≡ Some wid
      → m.live ≡ true → looked_at line known.act.day m.body ≡ true
      → (comes_from line known.act.day source.href m && names wid (source_of m.body)) ≡ true
  looks m source wid is named live looked =
      and_true (comes_from line known.act.day source.href m) (names wid (source_of m.body))
      (and_true m.live (looked_at line known.act.day m.body && bytes_eq (source_of m.body).href source.href) live
      (and_true (looked_at line known.act.day m.body) (bytes_eq (source_of m.body).href source.href) looked
      (bytes_are (source_of m.body).href source.href (ap (λ (s : ModSource). s.href) is))))
      (ap (names wid) is ∙ ap (λ p. option_map_or (λ w. bytes_eq w wid) p false) named ∙ bytes_are wid wid refl)

  abbrev Comes : ModSource → List ℕ → KnownMod → Bool
  Comes source wid m = comes_from line known.act.day source.href m && names wid (source_of m.body)

  looked_by_another : (source : ModSource) (wid : List ℕ) (m : KnownMod) → Comes source wid m ≡ true → is_after known.act.day (work_in source.href line) ≡ true
  looked_by_another source wid m is = by m.body (left_true (looked_at line known.act.day m.body) (bytes_eq (source_of m.body).href source.href) both)
      (bytes_same (source_of m.body).href source.href (right_true (looked_at line known.act.day m.body) (bytes_eq (source_of m.body).href source.href) both))
    where
      both : (looked_at line known.act.day m.body && bytes_eq (source_of m.body).href source.href) ≡ true
      both =
          right_true m.live (looked_at line known.act.day m.body && bytes_eq (source_of m.body).href source.href)
          (left_true (comes_from line known.act.day source.href m) (names wid (source_of m.body)) is)

      by : (body : Modification) → looked_at line known.act.day body ≡ true → (source_of body).href ≡ source.href → is_after known.act.day (work_in source.href line) ≡ true
      by (Textual other force edit) looked same =
          ap (λ w. is_after known.act.day (work_in w line)) (sym same)
          ∙ right_true (is_some other.provision) (is_after known.act.day (work_in other.href line)) looked
      by (Force other destination on effect) looked same = absurd (let wrong : false ≡ true = looked in cc)
      by (Efficacy other destination on effect) looked same = absurd (let wrong : false ≡ true = looked in cc)

  none_looks : (source : ModSource) (wid : List ℕ) → source.provision ≡ Some wid → source_looked_at line known.act.day source ≡ false
      → looks_at line known source.href wid ≡ false
  none_looks source wid named none = by (looks_at line known source.href wid) refl
    where
      by : (b : Bool) → looks_at line known source.href wid ≡ b → b ≡ false
      by false is = refl
      by true is =
          absurd (let wrong : true ≡ false =
          sym (some_passes (Comes source wid) (is_after known.act.day (work_in source.href line) ≡ true) (looked_by_another source wid) known.mods is)
          ∙ ap (λ p. is_some p && is_after known.act.day (work_in source.href line)) (sym named) ∙ none in cc)

  -- of one that stands, by its provision
  textual_holds : (source : ModSource) (p : Option (List ℕ)) → source.provision ≡ p
      → (source_looked_at line known.act.day source ≡ true → (wid : List ℕ) → source.provision ≡ Some wid → looks_at line known source.href wid ≡ true)
      → named_holds holding.held reading day source.href p
      ≡ cond (source_looked_at line known.act.day source) (named_stands (trees line reading day) reading day source.href p) true
  textual_holds source None named sees =
      sym (ap (λ o. cond (is_some o && is_after known.act.day (work_in source.href line)) (named_stands (trees line reading day) reading day source.href None) true) named)
  textual_holds source (Some wid) named sees = by (source_looked_at line known.act.day source) refl
    where
      by : (b : Bool) → source_looked_at line known.act.day source ≡ b
          → named_holds holding.held reading day source.href (Some wid) ≡ cond b (named_stands (trees line reading day) reading day source.href (Some wid)) true
      by true looked = held_says source.href wid (sees looked wid named)
      by false none = held_of_none source.href wid (none_looks source wid named none)

  body_holds : (m : KnownMod) (body : Modification) → m.body ≡ body → m.live ≡ true → ((test : KnownMod → Bool) → test m ≡ true → list_any test known.mods ≡ true)
      → holds holding.held reading day body ≡ is_borne line (trees line reading day) reading day known.act.day body
  body_holds m (Textual source force edit) is live among =
      textual_holds source source.provision refl (λ looked wid named.
      among (Comes source wid)
      (looks m source wid (ap source_of is) named live (ap (looked_at line known.act.day) is ∙ looked)))
  body_holds m (Force source destination on effect) is live among = refl
  body_holds m (Efficacy source destination on effect) is live among = refl

  live_holds : (m : KnownMod) → ((test : KnownMod → Bool) → test m ≡ true → list_any test known.mods ≡ true)
      → (m.live && holds holding.held reading day m.body) ≡ (m.live && is_borne line (trees line reading day) reading day known.act.day m.body)
  live_holds m among = by m.live refl
    where
      by : (b : Bool) → m.live ≡ b
          → (b && holds holding.held reading day m.body) ≡ (b && is_borne line (trees line reading day) reading day known.act.day m.body)
      by true live = body_holds m m.body refl live among
      by false live = refl

  all_hold : (ms : List KnownMod) → ((test : KnownMod → Bool) → list_any test ms ≡ true → list_any test known.mods ≡ true)
      → map (mod_held holding.held reading day) ms ≡ map (borne line (trees line reading day) reading day known.act.day) ms
  all_hold [] among = refl
  all_hold (m ∷ ms) among =
      ap (λ b. (let k : KnownMod = record m { live = b; carried = None } in k) ∷ map (mod_held holding.held reading day) ms)
      (live_holds m (λ test here. among test (some_passed test m ms here)))
      ∙ ap (λ ks. borne line (trees line reading day) reading day known.act.day m ∷ ks) (all_hold ms (λ test there. among test (later_passed test m ms there)))

  pub held_bears : work_held holding.held reading day known ≡ work_borne line (trees line reading day) reading day known
  held_bears = ap (λ ms. (let k : Known = record known { mods = ms; source_days = [] } in k)) (all_hold known.mods (λ test there. there))
