-- What is carried by what is kept of the sources of a work in a line is what the line gives.
use Rattle.std.proofs.Common.{◌≡◌, ◌∙◌, sym, ap, refl, ℕ, Bool, true, false, cond, ◌&&◌, ◌||◌, List, [], ◌∷◌, map, Option, Some, None, option_and_then, option_map}
use Rattle.std.specs.List.{AllByRecursion, find, list_any}
use Rattle.std.specs.Option.{option_map_or}
use Rattle.std.specs.Str.{bytes_eq}
use Rattle.desk_base.specs.declared.period.Period.{Period}
use Rattle.law_register.specs.declared.answer.question.Reading.{Reading}
use Rattle.law_register.specs.declared.answer.question.Reading.TheVariants as reading
use Rattle.law_register.specs.declared.register.carried.Carried.{Carried}
use Rattle.law_register.specs.declared.register.known.Known.{Known}
use Rattle.law_register.specs.declared.register.known.KnownMod.{KnownMod}
use Rattle.law_register.specs.Answer.Breakpoints.{has_day}
use Rattle.law_register.specs.Law.Sources.{source_of}
use Rattle.law_register.specs.Provisions.Carrying.{carried_of, carrying, days_in, mod_carrying, stands_in_spans}
use Rattle.law_register.specs.Provisions.Depending.{WorkDays, breakpoints_of, comes_from, days_along, source_days}
use Rattle.law_register.specs.Provisions.Line.{IsLine, work_in}
use Rattle.law_register.specs.Provisions.Looking.{looked_at}
use Rattle.law_register.specs.Provisions.Spans.{spans_of}
use Rattle.law_register.specs.Provisions.Trees.{WorkText, is_raised, stands, stands_in, text_in, trees, version_in}
use Rattle.law_register.proofs.Puts.{bytes_either, bytes_same}
use Rattle.version_cache.specs.Works.{WorkValue}
use Rattle.held_provisions.specs.Kept.{stands_by_version}
use Rattle.held_provisions.specs.Sources.{AreSources, Kept, carried_in, carrying_by, days_by, days_for, mod_carrying_by, mod_kept, stands_kept}
use Rattle.held_provisions.proofs.AscendingDays.{one_list}
use Rattle.held_provisions.proofs.FlagsAlike.{flags_alike}
use Rattle.held_provisions.proofs.KeptSources.{IsAmong, IsEither, IsSource, later_passed, mod_either}
use Rattle.held_provisions.proofs.LinesTold.{days_told, text_in_line, texts_told}
use Rattle.held_provisions.proofs.SourceDays.{kept_ascend, kept_has, sources_ascend, sources_have}

-- what is found in a list that was mapped is what is found in the list
pub found_mapped : {A B : Type 0} (f : A → B) (test : B → Bool) (xs : List A) → find test (map f xs) ≡ option_map f (find (λ (a : A). test (f a)) xs)
found_mapped f test [] = refl
found_mapped {A = A} f test (a ∷ xs) = by (test (f a)) (found_mapped f test xs)
  where
    by : (b : Bool) → find test (map f xs) ≡ option_map f (find (λ (x : A). test (f x)) xs)
        → cond b (Some (f a)) (find test (map f xs)) ≡ option_map f (cond b (Some a) (find (λ (x : A). test (f x)) xs))
    by true rest = refl
    by false rest = rest

module _ (line : List Known) (is : IsLine line) where
  module _ (href wid : List ℕ) (one : WorkValue) (source : IsSource line href one) where
    -- its text is found in those of the line
    text_found : (r : Reading) (day : ℕ) → text_in href (trees line r day) ≡ Some (text_in_line line r day source.work)
    text_found r day =
        ap (text_in href) (texts_told line r day is)
        ∙ found_mapped (text_in_line line r day) (λ (t : WorkText). bytes_eq t.known.act.work href) line
        ∙ ap (option_map (text_in_line line r day)) source.there

    stands_alike : (r : Reading) (day : ℕ) → stands_kept one r wid day ≡ stands (trees line r day) r day href wid
    stands_alike r day =
        ap (stands_by_version one.known r day wid) (source.versions r day)
        ∙ ap is_raised (flags_alike one.known source.work r day source.act source.mods wid (version_in line source.work r day).tree.body)
        ∙ sym (ap (stands_in r day wid) (text_found r day))

    days_alike : one.days ≡ days_in line href
    days_alike = source.days ∙ sym (ap (λ (k : Option Known). option_map_or (breakpoints_of line) k []) source.there)

    spans_alike : (r : Reading) → spans_of (stands_kept one r wid) one.days ≡ stands_in_spans line r href wid
    spans_alike r =
        ap (spans_of (stands_kept one r wid)) days_alike
        ∙ ap (λ (test : ℕ → Bool). spans_of test (days_in line href)) (λ i day. (stands_alike r day) i)

    carried_alike : carried_in one wid ≡ carried_of line href wid
    carried_alike =
        ap (λ (spans : List Period). (let c : Carried = record { force = spans; efficacy = spans_of (stands_kept one reading.Efficacy wid) one.days } in c))
        (spans_alike reading.Force)
        ∙ ap (λ (spans : List Period). (let c : Carried = record { force = stands_in_spans line reading.Force href wid; efficacy = spans } in c))
        (spans_alike reading.Efficacy)

  -- what is carried of a provision, and the days of its work
  found_carried : (href : List ℕ) (p : Option (List ℕ)) (o : Option WorkValue) → (one : WorkValue) × (o ≡ Some one) × IsSource line href one
      → option_and_then (λ (one : WorkValue). option_map (carried_in one) p) o ≡ option_map (carried_of line href) p
  found_carried href p o (one, found, source) = ap (option_and_then (λ (one : WorkValue). option_map (carried_in one) p)) found ∙ by p
    where
      by : (p : Option (List ℕ)) → option_map (carried_in one) p ≡ option_map (carried_of line href) p
      by None = refl
      by (Some wid) = ap (λ (c : Carried). Some c) (carried_alike href wid one source)

  carried_either : (href : List ℕ) (p : Option (List ℕ)) (b : Bool) (o : Option WorkValue) → IsEither line b href o
      → option_and_then (λ (one : WorkValue). option_map (carried_in one) p) o ≡ cond b (option_map (carried_of line href) p) None
  carried_either href p false o none = ap (option_and_then (λ (one : WorkValue). option_map (carried_in one) p)) none
  carried_either href p true o found = found_carried href p o found

  found_days : (href : List ℕ) (o : Option WorkValue) → (one : WorkValue) × (o ≡ Some one) × IsSource line href one
      → option_map_or (λ (one : WorkValue). one.days) o [] ≡ days_in line href
  found_days href o (one, found, source) =
      ap (λ (o : Option WorkValue). option_map_or (λ (one : WorkValue). one.days) o []) found ∙ days_alike href [] one source

  days_either : (href : List ℕ) (b : Bool) (o : Option WorkValue) → IsEither line b href o
      → option_map_or (λ (one : WorkValue). one.days) o [] ≡ cond b (days_in line href) []
  days_either href false o none = ap (λ (o : Option WorkValue). option_map_or (λ (one : WorkValue). one.days) o []) none
  days_either href true o found = found_days href o found

  -- of a work of the line found by its IRI a test says what it says of the only one that has it
  module _ (test : Known → Bool) (href : List ℕ) where
    own_found : (k : Known) (ks : List Known) → AllByRecursion (λ (k : Known). work_in k.act.work line ≡ Some k) ks → work_in href ks ≡ Some k
        → work_in href line ≡ Some k
    own_found k [] own found = absurd (let wrong : None ≡ Some k = found in cc)
    own_found k (x ∷ xs) own found = by (bytes_eq x.act.work href) refl (own_found k xs own.1) found
      where
        by : (b : Bool) → bytes_eq x.act.work href ≡ b → (work_in href xs ≡ Some k → work_in href line ≡ Some k)
            → cond b (Some x) (work_in href xs) ≡ Some k → work_in href line ≡ Some k
        by true it rest e = ap (λ w. work_in w line) (sym (bytes_same x.act.work href it)) ∙ own.0 ∙ e
        by false it rest e = rest e

    twice : (b : Bool) → (b || b) ≡ b
    twice true = refl
    twice false = refl

    never : (b : Bool) → (b || false) ≡ b
    never true = refl
    never false = refl

    only_one : (k : Known) → work_in href line ≡ Some k → (o : Option Known) → ((x : Known) → o ≡ Some x → work_in href line ≡ Some x)
        → (test k || option_map_or test o false) ≡ test k
    only_one k there None own = never (test k)
    only_one k there (Some x) own = ap (λ (y : Known). test k || test y) (same x k (sym (own x refl) ∙ there)) ∙ twice (test k)
      where
        same : (a b : Known) → Some a ≡ Some b → a ≡ b
        same a b e = cc

    any_named : (ks : List Known) → AllByRecursion (λ (k : Known). work_in k.act.work line ≡ Some k) ks
        → list_any (λ (k : Known). bytes_eq href k.act.work && test k) ks ≡ option_map_or test (work_in href ks) false
    any_named [] own = refl
    any_named (k ∷ ks) own =
        ap (λ b. (b && test k) || list_any (λ (x : Known). bytes_eq href x.act.work && test x) ks) (bytes_either href k.act.work)
        ∙ by (bytes_eq k.act.work href) refl (any_named ks own.1)
      where
        by : (b : Bool) → bytes_eq k.act.work href ≡ b
            → list_any (λ (x : Known). bytes_eq href x.act.work && test x) ks ≡ option_map_or test (work_in href ks) false
            → ((b && test k) || list_any (λ (x : Known). bytes_eq href x.act.work && test x) ks) ≡ option_map_or test (cond b (Some k) (work_in href ks)) false
        by true it rest =
            ap (λ b. test k || b) rest
            ∙ only_one k (ap (λ w. work_in w line) (sym (bytes_same k.act.work href it)) ∙ own.0) (work_in href ks) (λ x found. own_found x ks own.1 found)
        by false it rest = rest

  -- a day of the works from which modifications come is one of the works of the line on which their work depends
  module _ (act_day day : ℕ) where
    abbrev HasDay : Known → Bool
    HasDay k = has_day day (breakpoints_of line k)

    none_pass : (ks : List Known) → false ≡ list_any (λ (k : Known). false) ks
    none_pass [] = refl
    none_pass (k ∷ ks) = none_pass ks

    day_found : (o : Option Known) → has_day day (option_map_or (breakpoints_of line) o []) ≡ option_map_or HasDay o false
    day_found None = refl
    day_found (Some k) = refl

    one_mod : (live looked : Bool) (href : List ℕ)
        → has_day day (cond (live && looked) (days_in line href) [])
        ≡ list_any (λ (k : Known). (live && (looked && bytes_eq href k.act.work)) && HasDay k) line
    one_mod true true href = day_found (work_in href line) ∙ sym (any_named HasDay href line is.own)
    one_mod true false href = none_pass line
    one_mod false looked href = none_pass line

    both_pass : (p q r : Bool) → ((p && r) || (q && r)) ≡ ((p || q) && r)
    both_pass true true true = refl
    both_pass true true false = refl
    both_pass true false true = refl
    both_pass true false false = refl
    both_pass false q r = refl

    swapped : (p q r s : Bool) → ((p || q) || (r || s)) ≡ ((p || r) || (q || s))
    swapped true q r s = refl
    swapped false true true s = refl
    swapped false true false s = refl
    swapped false false r s = refl

    any_both : (p q : Known → Bool) (ks : List Known)
        → (list_any (λ (k : Known). p k && HasDay k) ks || list_any (λ (k : Known). q k && HasDay k) ks)
        ≡ list_any (λ (k : Known). (p k || q k) && HasDay k) ks
    any_both p q [] = refl
    any_both p q (k ∷ ks) =
        swapped (p k && HasDay k) (list_any (λ (x : Known). p x && HasDay x) ks) (q k && HasDay k) (list_any (λ (x : Known). q x && HasDay x) ks)
        ∙ ap (λ b. b || (list_any (λ (x : Known). p x && HasDay x) ks || list_any (λ (x : Known). q x && HasDay x) ks)) (both_pass (p k) (q k) (HasDay k))
        ∙ ap (λ b. ((p k || q k) && HasDay k) || b) (any_both p q ks)

    abbrev days_looked_at : KnownMod → List ℕ
    days_looked_at m = cond (m.live && looked_at line act_day m.body) (days_in line (source_of m.body).href) []

    all_mods : (ms : List KnownMod) → list_any (λ (m : KnownMod). has_day day (days_looked_at m)) ms
        ≡ list_any (λ (k : Known). list_any (comes_from line act_day k.act.work) ms && HasDay k) line
    all_mods [] = none_pass line
    all_mods (m ∷ ms) =
        ap (λ b. b || list_any (λ (x : KnownMod). has_day day (days_looked_at x)) ms) (one_mod m.live (looked_at line act_day m.body) (source_of m.body).href)
        ∙ ap (λ b. list_any (λ (k : Known). comes_from line act_day k.act.work m && HasDay k) line || b) (all_mods ms)
        ∙ any_both (λ (k : Known). comes_from line act_day k.act.work m) (λ (k : Known). list_any (comes_from line act_day k.act.work) ms) line

  module _ (known : Known) (kept : Kept) (are : AreSources line known kept) where
    mod_alike : (m : KnownMod) (ms : List KnownMod) → IsAmong line known kept are (m ∷ ms)
        → mod_carrying_by kept known.act.day m ≡ mod_carrying line known.act.day m
    mod_alike m ms among =
        ap (λ (c : Option Carried). (let k : KnownMod = record m { carried = c } in k))
        (carried_either (source_of m.body).href (source_of m.body).provision (m.live && looked_at line known.act.day m.body)
        (mod_kept kept known.act.day m) (mod_either line known kept are m ms among))

    mods_alike : (ms : List KnownMod) → IsAmong line known kept are ms → map (mod_carrying_by kept known.act.day) ms ≡ map (mod_carrying line known.act.day) ms
    mods_alike [] among = refl
    mods_alike (m ∷ ms) among =
        ap (λ (k : KnownMod). k ∷ map (mod_carrying_by kept known.act.day) ms) (mod_alike m ms among)
        ∙ ap (λ (ks : List KnownMod). mod_carrying line known.act.day m ∷ ks) (mods_alike ms (λ test there. among test (later_passed test m ms there)))

    each_day : (day : ℕ) (ms : List KnownMod) → IsAmong line known kept are ms
        → list_any (λ (m : KnownMod). has_day day (days_for kept known.act.day m)) ms
        ≡ list_any (λ (m : KnownMod). has_day day (days_looked_at known.act.day day m)) ms
    each_day day [] among = refl
    each_day day (m ∷ ms) among =
        ap (λ (days : List ℕ). has_day day days || list_any (λ (x : KnownMod). has_day day (days_for kept known.act.day x)) ms)
        (days_either (source_of m.body).href (m.live && looked_at line known.act.day m.body) (mod_kept kept known.act.day m)
        (mod_either line known kept are m ms among))
        ∙ ap (λ b. has_day day (days_looked_at known.act.day day m) || b) (each_day day ms (λ test there. among test (later_passed test m ms there)))

    same_days : (day : ℕ) → has_day day (days_by kept known.act.day known.mods) ≡ has_day day (source_days line known (days_along line))
    same_days day =
        kept_has kept known.act.day day known.mods
        ∙ each_day day known.mods (λ test there. there)
        ∙ all_mods known.act.day day known.mods
        ∙ sym (sources_have line known day line)
        ∙ ap (λ (ws : List WorkDays). has_day day (source_days line known ws)) (sym (days_told line is))

    all_days : days_by kept known.act.day known.mods ≡ source_days line known (days_along line)
    all_days =
        one_list (days_by kept known.act.day known.mods) (source_days line known (days_along line)) (kept_ascend kept known.act.day known.mods)
        (sources_ascend line known (days_along line)) same_days

    pub carried_by_sources : carrying_by kept known ≡ carrying line known
    carried_by_sources =
        ap (λ (ms : List KnownMod). (let k : Known = record known { mods = ms; source_days = days_by kept known.act.day known.mods } in k))
        (mods_alike known.mods (λ test there. there))
        ∙ ap (λ (days : List ℕ). (let k : Known = record known { mods = map (mod_carrying line known.act.day) known.mods; source_days = days } in k)) all_days
