-- The days of the works on which one depends: they ascend, and each is a breakpoint of one of these.
use Rattle.std.proofs.Common.{◌≡◌, ◌∙◌, sym, ap, refl, ℕ, ◌==◌, Bool, true, false, cond, ◌&&◌, ◌||◌, List, [], ◌∷◌, map}
use Rattle.std.proofs.lemmas.Cmp.{nat_cmp_total, ranked}
use Rattle.std.specs.List.{list_any}
use Rattle.std.specs.List.Sorted.{IsStrictlySortedBy}
use Rattle.std.specs.Ordering.{nat_cmp}
use Rattle.std.specs.declared.cmp.Ordering.TheVariants.{Equal}
use Rattle.law_register.specs.declared.register.known.Known.{Known}
use Rattle.law_register.specs.declared.register.known.KnownMod.{KnownMod}
use Rattle.law_register.specs.Answer.Breakpoints.{has_day, insert_days}
use Rattle.law_register.specs.Provisions.Depending.{WorkDays, breakpoints_of, depends, source_days}
use Rattle.law_register.proofs.InsertedKeys.{inserted_any, inserted_ascends}
use Rattle.held_provisions.specs.Sources.{Kept, days_by, days_for}
use Rattle.held_provisions.proofs.LinesTold.{days_in_line}

days_ascend : (news days : List ℕ) → IsStrictlySortedBy nat_cmp days → IsStrictlySortedBy nat_cmp (insert_days news days)
days_ascend [] days up = up
days_ascend (new ∷ news) days up = inserted_ascends nat_cmp nat_cmp_total (insert_days news days) new (days_ascend news days up)

pub sources_ascend : (line : List Known) (known : Known) (ws : List WorkDays) → IsStrictlySortedBy nat_cmp (source_days line known ws)
unfolding IsStrictlySortedBy
sources_ascend line known [] = tt
sources_ascend line known (w ∷ ws) = days_ascend (cond (depends line known w.known.act.work) w.days []) (source_days line known ws) (sources_ascend line known ws)

pub kept_ascend : (kept : Kept) (act_day : ℕ) (ms : List KnownMod) → IsStrictlySortedBy nat_cmp (days_by kept act_day ms)
unfolding IsStrictlySortedBy
kept_ascend kept act_day [] = tt
kept_ascend kept act_day (m ∷ ms) = days_ascend (days_for kept act_day m) (days_by kept act_day ms) (kept_ascend kept act_day ms)

same_day : (day x y : ℕ) → nat_cmp x y ≡ Equal → (day == x) ≡ (day == y)
same_day day x y h = ap (λ n. day == n) (ranked x y Equal (sym h))

either_way : (a b c : Bool) → (a || (b || c)) ≡ ((a || b) || c)
either_way true b c = refl
either_way false b c = refl

days_joined : (day : ℕ) (news days : List ℕ) → has_day day (insert_days news days) ≡ (has_day day news || has_day day days)
days_joined day [] days = refl
days_joined day (new ∷ news) days =
    inserted_any nat_cmp (λ d. day == d) (same_day day) (insert_days news days) new
    ∙ ap (λ b. (day == new) || b) (days_joined day news days)
    ∙ either_way (day == new) (has_day day news) (has_day day days)

-- a day of those where a test passes
pub if_passed : (day : ℕ) (b : Bool) (days : List ℕ) → has_day day (cond b days []) ≡ (b && has_day day days)
if_passed day true days = refl
if_passed day false days = refl

pub kept_has : (kept : Kept) (act_day day : ℕ) (ms : List KnownMod)
    → has_day day (days_by kept act_day ms) ≡ list_any (λ m. has_day day (days_for kept act_day m)) ms
kept_has kept act_day day [] = refl
kept_has kept act_day day (m ∷ ms) =
    days_joined day (days_for kept act_day m) (days_by kept act_day ms)
    ∙ ap (λ b. has_day day (days_for kept act_day m) || b) (kept_has kept act_day day ms)

pub sources_have : (line : List Known) (known : Known) (day : ℕ) (works : List Known)
    → has_day day (source_days line known (map (days_in_line line) works))
    ≡ list_any (λ (k : Known). depends line known k.act.work && has_day day (breakpoints_of line k)) works
sources_have line known day [] = refl
sources_have line known day (k ∷ ks) =
    days_joined day (cond (depends line known k.act.work) (breakpoints_of line k) []) (source_days line known (map (days_in_line line) ks))
    ∙ ap (λ b. b || has_day day (source_days line known (map (days_in_line line) ks))) (if_passed day (depends line known k.act.work) (breakpoints_of line k))
    ∙ ap (λ b. (depends line known k.act.work && has_day day (breakpoints_of line k)) || b) (sources_have line known day ks)
