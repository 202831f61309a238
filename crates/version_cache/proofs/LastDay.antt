-- The last breakpoint by a day, and what bears then.
use Rattle.std.proofs.Common.{◌≡◌, sym, refl, ℕ, ◌<◌, ◌≤◌, Bool, true, false, cond, ◌&&◌, nat_le, nat_lt, List, [], ◌∷◌, Option, Some, None, arith}
use Rattle.std.proofs.lemmas.Bool.Decides.{nat_tests}
use Rattle.std.proofs.lemmas.Cmp.{ranked}
use Rattle.std.specs.List.{AllByRecursion, list_any}
use Rattle.std.specs.List.Sorted.{IsStrictlySortedBy}
use Rattle.std.specs.Option.{option_or}
use Rattle.std.specs.Ordering.{nat_cmp}
use Rattle.std.specs.declared.cmp.Ordering.TheVariants.{Less}
use Rattle.law_register.specs.declared.answer.question.Reading.{Reading}
use Rattle.law_register.specs.declared.register.known.Known.{Known}
use Rattle.law_register.specs.Answer.Breakpoints.{breakpoints}
use Rattle.law_register.specs.Answer.Order.{order}
use Rattle.law_register.proofs.ApartIds.{none_both, none_left, none_right}
use Rattle.law_register.proofs.NamedDays.{breakpoints_ascend}
use Rattle.version_cache.specs.Days.{last_until, order_by}
use Rattle.version_cache.specs.Steady.{CarrySteadily}
use Rattle.version_cache.proofs.Still.{order_none, order_still}

-- an option whose day is none, or is before one
abbrev IsBeforeLast : ℕ → Option ℕ → Type 0
IsBeforeLast d None = Unit {0}
IsBeforeLast d (Some last) = d < last

module _ (day : ℕ) where
  -- what the last of these days by the day says of them
  abbrev pub IsLast : List ℕ → Option ℕ → Type 0
  IsLast days None = list_any (λ d. nat_le d day) days ≡ false
  IsLast days (Some last) = (last ≤ day) × (list_any (λ d. nat_lt last d && nat_le d day) days ≡ false)

  later_last : (d : ℕ) (ds : List ℕ) → AllByRecursion (λ e. nat_cmp d e ≡ Less) ds → IsBeforeLast d (last_until day ds)
  later_last d [] h = tt
  later_last d (e ∷ es) h = by (last_until day es) (later_last d es h.1)
    where
      here : (t : Bool) → IsBeforeLast d (cond t (Some e) None)
      here true = ranked d e Less (sym h.0)
      here false = tt

      by : (o : Option ℕ) → IsBeforeLast d o → IsBeforeLast d (option_or o (cond (nat_le e day) (Some e) None))
      by None k = here (nat_le e day)
      by (Some last) k = k

  none_after : (from : ℕ) (ds : List ℕ) → list_any (λ d. nat_le d day) ds ≡ false → list_any (λ d. nat_lt from d && nat_le d day) ds ≡ false
  none_after from [] h = refl
  none_after from (d ∷ ds) h =
      none_both (nat_lt from d && nat_le d day) (list_any (λ e. nat_lt from e && nat_le e day) ds)
      (never (nat_lt from d) (nat_le d day) (none_left (nat_le d day) (list_any (λ e. nat_le e day) ds) h))
      (none_after from ds (none_right (nat_le d day) (list_any (λ e. nat_le e day) ds) h))
    where
      never : (a b : Bool) → b ≡ false → (a && b) ≡ false
      never true b h = h
      never false b h = refl

  before_it : (last d : ℕ) → d < last → (nat_lt last d && nat_le d day) ≡ false
  before_it last d h = grind (arith, nat_tests)

  itself : (d : ℕ) → (nat_lt d d && nat_le d day) ≡ false
  itself d = grind (arith, nat_tests)

  reached : (d : ℕ) → nat_le d day ≡ true → d ≤ day
  reached d h = grind (arith, nat_tests)

  -- in an ascending list
  pub last_is : (ds : List ℕ) → IsStrictlySortedBy nat_cmp ds → IsLast ds (last_until day ds)
  unfolding IsStrictlySortedBy
  last_is [] up = refl
  last_is (d ∷ ds) up = by (last_until day ds) (last_is ds up.1) (later_last d ds up.0)
    where
      here : (t : Bool) → nat_le d day ≡ t → list_any (λ e. nat_le e day) ds ≡ false → IsLast (d ∷ ds) (cond t (Some d) None)
      here true e none = (reached d e, none_both (nat_lt d d && nat_le d day) (list_any (λ e. nat_lt d e && nat_le e day) ds) (itself d) (none_after d ds none))
      here false e none = none_both (nat_le d day) (list_any (λ e. nat_le e day) ds) e none

      by : (o : Option ℕ) → IsLast ds o → IsBeforeLast d o → IsLast (d ∷ ds) (option_or o (cond (nat_le d day) (Some d) None))
      by None is before = here (nat_le d day) refl is
      by (Some last) is before = (is.0, none_both (nat_lt last d && nat_le d day) (list_any (λ e. nat_lt last e && nat_le e day) ds) (before_it last d before) is.1)

  order_at : (known : Known) → CarrySteadily known → (r : Reading) (o : Option ℕ) → IsLast (breakpoints known) o → order known r day ≡ order_by known r o
  order_at known steady r None is = order_none day known r is
  order_at known steady r (Some last) is = order_still last day known steady r is.0 is.1

  -- what bears on a day is what bears on the last breakpoint that is not after it, or nothing
  pub order_by_last : (known : Known) → CarrySteadily known → (r : Reading) → order known r day ≡ order_by known r (last_until day (breakpoints known))
  order_by_last known steady r = order_at known steady r (last_until day (breakpoints known)) (last_is (breakpoints known) (breakpoints_ascend known))
