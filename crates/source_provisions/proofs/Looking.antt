-- What is not looked at changes nothing, and whoever depends on a work is of an earlier day.
use Rattle.std.proofs.Common.{◌≡◌, ◌∙◌, sym, ap, refl, ℕ, ◌<◌, Bool, true, false, cond, ◌&&◌, ◌||◌, is_some, nat_lt, List, [], ◌∷◌, ◌++◌, append_assoc, map, Some, None, arith}
use Rattle.std.proofs.lemmas.Bool.Decides.{nat_tests}
use Rattle.std.proofs.lemmas.List.{append-nil}
use Rattle.std.specs.List.{AllByRecursion, list_any}
use Rattle.std.specs.Str.{bytes_eq}
use Rattle.law_register.specs.declared.answer.question.Reading.{Reading}
use Rattle.law_register.specs.declared.law.modification.Modification.{Modification}
use Rattle.law_register.specs.declared.law.modification.Modification.TheVariants.{Textual, Force, Efficacy}
use Rattle.law_register.specs.declared.register.known.Known.{Known}
use Rattle.law_register.specs.declared.register.known.KnownMod.{KnownMod}
use Rattle.law_register.specs.Answer.Replay.{replay_on}
use Rattle.law_register.specs.Answer.Standing.{alone, mod_alone}
use Rattle.law_register.specs.Law.Sources.{names_provision, source_of}
use Rattle.law_register.proofs.ApartIds.{none_left, none_right}
use Rattle.law_register.proofs.Puts.{bytes_same, left_true, right_true}
use Rattle.law_register.specs.Provisions.Depending.{IsChain, comes_from, depends}
use Rattle.law_register.specs.Provisions.Line.{work_in}
use Rattle.law_register.specs.Provisions.Looking.{is_after, looked_at, names_any}
use Rattle.law_register.specs.Provisions.Trees.{WorkText, borne, is_borne, source_stands, text_alone, text_on, texts_after, trees, work_borne}
use Rattle.source_provisions.proofs.Uncarried.{always}

module _ (line : List Known) (texts : List WorkText) (reading : Reading) (day act_day : ℕ) where
  -- a modification whose provision is not looked at is borne
  pub always_borne : (m : Modification) → looked_at line act_day m ≡ false → is_borne line texts reading day act_day m ≡ true
  always_borne m none = ap (λ b. cond b (source_stands texts reading day (source_of m)) true) none

  pub borne_alone : (m : KnownMod) → is_borne line texts reading day act_day m.body ≡ true → borne line texts reading day act_day m ≡ mod_alone m
  borne_alone m is = ap (λ b. (let k : KnownMod = record m { live = b; carried = None } in k)) (ap (λ b. m.live && b) is ∙ always m.live)

  all_alone : (ms : List KnownMod) → list_any (λ m. looked_at line act_day m.body) ms ≡ false → map (borne line texts reading day act_day) ms ≡ map mod_alone ms
  all_alone [] none = refl
  all_alone (m ∷ ms) none =
      ap (λ k. k ∷ map (borne line texts reading day act_day) ms)
      (borne_alone m (always_borne m.body (none_left (looked_at line act_day m.body) (list_any (λ k. looked_at line act_day k.body) ms) none)))
      ∙ ap (λ ks. mod_alone m ∷ ks) (all_alone ms (none_right (looked_at line act_day m.body) (list_any (λ k. looked_at line act_day k.body) ms) none))

pub nothing_looked_at : (line : List Known) (texts : List WorkText) (reading : Reading) (day : ℕ) (known : Known)
    → list_any (λ m. looked_at line known.act.day m.body) known.mods ≡ false → work_borne line texts reading day known ≡ alone known
nothing_looked_at line texts reading day known none =
    ap (λ ms. (let k : Known = record known { mods = ms; source_days = [] } in k)) (all_alone line texts reading day known.act.day known.mods none)

-- what names no provision is not looked at
unnamed : (line : List Known) (act_day : ℕ) (m : Modification) → names_provision m ≡ false → looked_at line act_day m ≡ false
unnamed line act_day (Textual source force edit) none = ap (λ b. b && is_after act_day (work_in source.href line)) none
unnamed line act_day (Force source destination on effect) none = refl
unnamed line act_day (Efficacy source destination on effect) none = refl

pub all_unnamed : (line : List Known) (act_day : ℕ) (ms : List KnownMod) → list_any (λ m. names_provision m.body) ms ≡ false → list_any (λ m. looked_at line act_day m.body) ms ≡ false
all_unnamed line act_day [] none = refl
all_unnamed line act_day (m ∷ ms) none =
    ap (λ b. b || list_any (λ k. looked_at line act_day k.body) ms) (unnamed line act_day m.body (none_left (names_provision m.body) (list_any (λ k. names_provision k.body) ms) none))
    ∙ all_unnamed line act_day ms (none_right (names_provision m.body) (list_any (λ k. names_provision k.body) ms) none)

pub unnamed_alone : (line : List Known) (texts : List WorkText) (reading : Reading) (day : ℕ) (known : Known) → names_any known ≡ false
    → work_borne line texts reading day known ≡ alone known
unnamed_alone line texts reading day known none = nothing_looked_at line texts reading day known (all_unnamed line known.act.day known.mods none)

-- where no modification names a provision each text is made by itself
module _ (line : List Known) (reading : Reading) (day : ℕ) where
  made_alone : (texts : List WorkText) (known : Known) → names_any known ≡ false → text_on line reading day texts known ≡ text_alone reading day known
  made_alone texts known none =
      ap (λ (k : Known). (let text : WorkText = record { known = known; version = replay_on k reading day } in text)) (unnamed_alone line texts reading day known none)

  all_made_alone : (texts : List WorkText) (works : List Known) → list_any names_any works ≡ false
      → texts_after line reading day texts works ≡ texts ++ map (text_alone reading day) works
  all_made_alone texts [] none = sym (append-nil texts)
  all_made_alone texts (known ∷ works) none =
      ap (λ (text : WorkText). texts_after line reading day (texts ++ text ∷ []) works) (made_alone texts known (none_left (names_any known) (list_any names_any works) none))
      ∙ all_made_alone (texts ++ text_alone reading day known ∷ []) works (none_right (names_any known) (list_any names_any works) none)
      ∙ append_assoc texts (text_alone reading day known ∷ []) (map (text_alone reading day) works)

pub all_by_themselves : (works : List Known) (reading : Reading) (day : ℕ) → list_any names_any works ≡ false
    → trees works reading day ≡ map (text_alone reading day) works
unfolding trees
all_by_themselves works reading day none = all_made_alone works reading day [] works none

-- who depends on a work of a line is of an earlier day
pub some_passes : {A : Type 0} (test : A → Bool) (P : Type 0) → ((a : A) → test a ≡ true → P) → (xs : List A) → list_any test xs ≡ true → P
some_passes test P one [] is = absurd (let wrong : false ≡ true = is in cc)
some_passes test P one (x ∷ xs) is = by (test x) refl (some_passes test P one xs) is
  where
    by : (b : Bool) → test x ≡ b → (list_any test xs ≡ true → P) → (b || list_any test xs) ≡ true → P
    by true here rest is = one x here
    by false here rest is = rest is

looked_at_after : (line : List Known) (act_day : ℕ) (m : Modification) → looked_at line act_day m ≡ true → is_after act_day (work_in (source_of m).href line) ≡ true
looked_at_after line act_day (Textual source force edit) is = right_true (is_some source.provision) (is_after act_day (work_in source.href line)) is
looked_at_after line act_day (Force source destination on effect) is = absurd (let wrong : false ≡ true = is in cc)
looked_at_after line act_day (Efficacy source destination on effect) is = absurd (let wrong : false ≡ true = is in cc)

comes_after : (line : List Known) (act_day : ℕ) (work : List ℕ) (m : KnownMod) → comes_from line act_day work m ≡ true → is_after act_day (work_in work line) ≡ true
comes_after line act_day work m is =
    let both : (looked_at line act_day m.body && bytes_eq (source_of m.body).href work) ≡ true = right_true m.live (looked_at line act_day m.body && bytes_eq (source_of m.body).href work) is in
    ap (λ w. is_after act_day (work_in w line)) (sym (bytes_same (source_of m.body).href work (right_true (looked_at line act_day m.body) (bytes_eq (source_of m.body).href work) both)))
    ∙ looked_at_after line act_day m.body (left_true (looked_at line act_day m.body) (bytes_eq (source_of m.body).href work) both)

pub depends_after : (line : List Known) (known : Known) (work : List ℕ) → depends line known work ≡ true → is_after known.act.day (work_in work line) ≡ true
depends_after line known work is =
    some_passes (comes_from line known.act.day work) (is_after known.act.day (work_in work line) ≡ true) (comes_after line known.act.day work) known.mods is

test_says : (a b : ℕ) → nat_lt a b ≡ true → a < b
test_says a b h = grind (arith, nat_tests)

later_yet : (a b c : ℕ) → a < b → b < c → a < c
later_yet a b c h k = omega (arith, h, k)

all_later : (a b : ℕ) → a < b → (works : List Known) → AllByRecursion (λ (k : Known). b < k.act.day) works → AllByRecursion (λ (k : Known). a < k.act.day) works
all_later a b h [] later = tt
all_later a b h (k ∷ ks) later = (later_yet a b k.act.day h later.0, all_later a b h ks later.1)

pub chain_goes_on : (line : List Known) (known : Known) (works : List Known) → AllByRecursion (λ (k : Known). work_in k.act.work line ≡ Some k) works
    → IsChain line known works → AllByRecursion (λ (k : Known). known.act.day < k.act.day) works
chain_goes_on line known [] there chain = tt
chain_goes_on line known (next ∷ works) there chain =
    let first : known.act.day < next.act.day =
    test_says known.act.day next.act.day (ap (is_after known.act.day) (sym there.0) ∙ depends_after line known next.act.work chain.0) in
    (first, all_later known.act.day next.act.day first works (chain_goes_on line next works there.1 chain.1))
