-- The days on which a text may change ascend, each once, and are exactly those that are named.
use Rattle.std.proofs.Common.{◌≡◌, ◌∙◌, sym, ap, refl, ℕ, ◌==◌, ◌&&◌, ◌||◌, Bool, true, false, cond, List, [], ◌∷◌}
use Rattle.std.specs.List.{list_any}
use Rattle.std.specs.List.Sorted.{IsStrictlySortedBy}
use Rattle.std.specs.Ordering.{nat_cmp}
use Rattle.std.specs.declared.cmp.Ordering.TheVariants.{Equal}
use Rattle.std.proofs.lemmas.Cmp.{nat_cmp_total, ranked}
use Rattle.law_register.specs.declared.register.known.Known.{Known}
use Rattle.law_register.specs.declared.register.known.KnownMod.{KnownMod}
use Rattle.law_register.specs.Answer.Breakpoints.{breakpoints, days_of, days_with, has_day, insert_days, live_days, period_days}
use Rattle.law_register.proofs.InsertedKeys.{inserted_any, inserted_ascends}

days_ascend : (news days : List ℕ) → IsStrictlySortedBy nat_cmp days → IsStrictlySortedBy nat_cmp (insert_days news days)
days_ascend [] days up = up
days_ascend (new ∷ news) days up = inserted_ascends nat_cmp nat_cmp_total (insert_days news days) new (days_ascend news days up)

live_ascend : (ms : List KnownMod) → IsStrictlySortedBy nat_cmp (live_days ms)
unfolding IsStrictlySortedBy
live_ascend [] = tt
live_ascend (m ∷ ms) = days_ascend (cond m.live (days_of m.body) []) (live_days ms) (live_ascend ms)

pub with_ascend : (known : Known) (others : List ℕ) → IsStrictlySortedBy nat_cmp (days_with known others)
with_ascend known others =
    days_ascend (period_days known.act.force) (insert_days others (live_days known.mods)) (days_ascend others (live_days known.mods) (live_ascend known.mods))

pub breakpoints_ascend : (known : Known) → IsStrictlySortedBy nat_cmp (breakpoints known)
breakpoints_ascend known = with_ascend known known.source_days

same_day : (day x y : ℕ) → nat_cmp x y ≡ Equal → (day == x) ≡ (day == y)
same_day day x y h = ap (λ n. day == n) (ranked x y Equal (sym h))

either_way : (a b c : Bool) → (a || (b || c)) ≡ ((a || b) || c)
either_way true b c = refl
either_way false b c = refl

days_joined : (day : ℕ) (news days : List ℕ) → has_day day (insert_days news days) ≡ (has_day day news || has_day day days)
days_joined day [] days = refl
days_joined day (new ∷ news) days =
    inserted_any nat_cmp (λ d. day == d) (same_day day) (insert_days news days) new
    ∙ ap (λ b. (day == new) || b) (days_joined day news days)
    ∙ either_way (day == new) (has_day day news) (has_day day days)

if_live : (day : ℕ) (b : Bool) (days : List ℕ) → has_day day (cond b days []) ≡ (b && has_day day days)
if_live day true days = refl
if_live day false days = refl

live_named : (day : ℕ) (ms : List KnownMod) → has_day day (live_days ms) ≡ list_any (λ m. m.live && has_day day (days_of m.body)) ms
live_named day [] = refl
live_named day (m ∷ ms) =
    days_joined day (cond m.live (days_of m.body) []) (live_days ms)
    ∙ ap (λ b. b || has_day day (live_days ms)) (if_live day m.live (days_of m.body))
    ∙ ap (λ b. (m.live && has_day day (days_of m.body)) || b) (live_named day ms)

pub with_named : (known : Known) (others : List ℕ) (day : ℕ)
    → has_day day (days_with known others)
    ≡ (has_day day (period_days known.act.force) || (has_day day others || list_any (λ m. m.live && has_day day (days_of m.body)) known.mods))
with_named known others day =
    days_joined day (period_days known.act.force) (insert_days others (live_days known.mods))
    ∙ ap (λ b. has_day day (period_days known.act.force) || b) (days_joined day others (live_days known.mods))
    ∙ ap (λ b. has_day day (period_days known.act.force) || (has_day day others || b)) (live_named day known.mods)

pub breakpoints_named : (known : Known) (day : ℕ)
    → has_day day (breakpoints known)
    ≡ (has_day day (period_days known.act.force) || (has_day day known.source_days || list_any (λ m. m.live && has_day day (days_of m.body)) known.mods))
breakpoints_named known = with_named known known.source_days
