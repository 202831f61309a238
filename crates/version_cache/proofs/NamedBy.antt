-- What holds of each day that is named by what is known of a work.
use Rattle.std.proofs.Common.{◌≡◌, ◌∙◌, sym, ap, refl, ℕ, Bool, true, false, cond, ◌||◌, List, [], ◌∷◌}
use Rattle.std.specs.List.{AllByRecursion, list_any}
use Rattle.std.specs.Ordering.{nat_cmp}
use Rattle.std.specs.declared.cmp.Ordering.TheVariants.{Equal}
use Rattle.std.proofs.lemmas.Cmp.{ranked}
use Rattle.law_register.specs.declared.law.modification.Modification.{Modification}
use Rattle.law_register.specs.declared.register.known.Known.{Known}
use Rattle.law_register.specs.declared.register.known.KnownMod.{KnownMod}
use Rattle.law_register.specs.Answer.Breakpoints.{breakpoints, days_of, insert_days, live_days, period_days}
use Rattle.law_register.proofs.ApartIds.{none_left, none_right}
use Rattle.law_register.proofs.InsertedKeys.{inserted_any}

-- each day of a modification that stands is so
abbrev pub EachIf : (ℕ → Type 0) → Bool → Modification → Type 0
EachIf P true body = AllByRecursion P (days_of body)
EachIf P false body = Unit {0}

-- each day of those that stand
abbrev pub EachDay : (ℕ → Type 0) → List KnownMod → Type 0
EachDay P [] = Unit {0}
EachDay P (m ∷ ms) = EachIf P m.live m.body × EachDay P ms

either_way : (a b c : Bool) → (a || (b || c)) ≡ ((a || b) || c)
either_way true b c = refl
either_way false b c = refl

module _ (test : ℕ → Bool) where
  alike : (x y : ℕ) → nat_cmp x y ≡ Equal → test x ≡ test y
  alike x y h = ap test (ranked x y Equal (sym h))

  joined : (news days : List ℕ) → list_any test (insert_days news days) ≡ (list_any test news || list_any test days)
  joined [] days = refl
  joined (new ∷ news) days =
      inserted_any nat_cmp test alike (insert_days news days) new
      ∙ ap (λ b. test new || b) (joined news days)
      ∙ either_way (test new) (list_any test news) (list_any test days)

  none_each : (days : List ℕ) → list_any test days ≡ false → AllByRecursion (λ d. test d ≡ false) days
  none_each [] h = tt
  none_each (d ∷ ds) h = (none_left (test d) (list_any test ds) h, none_each ds (none_right (test d) (list_any test ds) h))

  none_if : (b : Bool) (body : Modification) → list_any test (cond b (days_of body) []) ≡ false → EachIf (λ d. test d ≡ false) b body
  none_if true body h = none_each (days_of body) h
  none_if false body h = tt

  none_live : (ms : List KnownMod) → list_any test (live_days ms) ≡ false → EachDay (λ d. test d ≡ false) ms
  none_live [] h = tt
  none_live (m ∷ ms) h =
      let both : (list_any test (cond m.live (days_of m.body) []) || list_any test (live_days ms)) ≡ false = sym (joined (cond m.live (days_of m.body) []) (live_days ms)) ∙ h in (
        none_if m.live m.body (none_left (list_any test (cond m.live (days_of m.body) [])) (list_any test (live_days ms)) both),
        none_live ms (none_right (list_any test (cond m.live (days_of m.body) [])) (list_any test (live_days ms)) both),
      )

  none_others : (known : Known) → list_any test (breakpoints known) ≡ false → (list_any test known.source_days || list_any test (live_days known.mods)) ≡ false
  none_others known h =
      sym (joined known.source_days (live_days known.mods))
      ∙ none_right (list_any test (period_days known.act.force)) (list_any test (insert_days known.source_days (live_days known.mods)))
      (sym (joined (period_days known.act.force) (insert_days known.source_days (live_days known.mods))) ∙ h)

  -- where no breakpoint passes a test, no day of a modification that stands does
  pub none_named : (known : Known) → list_any test (breakpoints known) ≡ false → EachDay (λ d. test d ≡ false) known.mods
  none_named known h = none_live known.mods (none_right (list_any test known.source_days) (list_any test (live_days known.mods)) (none_others known h))

  -- nor does a day of the works on which the work depends
  pub none_of_sources : (known : Known) → list_any test (breakpoints known) ≡ false → AllByRecursion (λ d. test d ≡ false) known.source_days
  none_of_sources known h = none_each known.source_days (none_left (list_any test known.source_days) (list_any test (live_days known.mods)) (none_others known h))

module _ (P Q : ℕ → Type 0) (weaker : (d : ℕ) → P d → Q d) where
  pub each_weaker : (days : List ℕ) → AllByRecursion P days → AllByRecursion Q days
  each_weaker [] h = tt
  each_weaker (d ∷ ds) h = (weaker d h.0, each_weaker ds h.1)

  if_weaker : (b : Bool) (body : Modification) → EachIf P b body → EachIf Q b body
  if_weaker true body h = each_weaker (days_of body) h
  if_weaker false body h = tt

  pub day_weaker : (ms : List KnownMod) → EachDay P ms → EachDay Q ms
  day_weaker [] h = tt
  day_weaker (m ∷ ms) h = (if_weaker m.live m.body h.0, day_weaker ms h.1)
