-- A work that is made by what it carries in a line is right for the line.
use Rattle.std.proofs.Common.{◌≡◌, ◌∙◌, sym, ap, refl, subst, ℕ, ◌+◌, ◌-◌, ◌≤◌, Bool, true, false, cond, nat_le, List, [], ◌∷◌, length, map, Some, arith}
use Rattle.std.proofs.lemmas.List.Sums.{sum_by-cons}
use Rattle.std.specs.List.{sum_by}
use Rattle.desk_base.specs.declared.id.Id.{Id}
use Rattle.law_register.specs.declared.answer.question.Reading.{Reading}
use Rattle.law_register.specs.declared.answer.question.Reading.TheVariants.{Force, Efficacy}
use Rattle.law_register.specs.declared.register.known.Known.{Known}
use Rattle.law_register.specs.declared.register.known.KnownMod.{KnownMod}
use Rattle.law_register.specs.Answer.Applied.{begins_with, ids_applied}
use Rattle.law_register.specs.Answer.Breakpoints.{breakpoints}
use Rattle.law_register.specs.Answer.Costs.{revision_cost}
use Rattle.law_register.specs.Answer.Renewing.{both_costs}
use Rattle.law_register.specs.Answer.Replay.{replay_on}
use Rattle.law_register.specs.Answer.Standing.{alone, mod_alone}
use Rattle.law_register.specs.Provisions.Carrying.{carrying, mod_carrying}
use Rattle.law_register.specs.Provisions.Costs.{cost_over, full, revision_cost_in}
use Rattle.law_register.specs.Provisions.Depending.{breakpoints_of}
use Rattle.law_register.specs.Provisions.Line.{work_in}
use Rattle.law_register.specs.Provisions.Trees.{order_in, version_in}
use Rattle.version_cache.specs.Works.{IsAlike, IsFor, WorkValue, work_of}
use Rattle.held_provisions.specs.Sources.{IsKeptFor}

-- what carries is by itself what it was
mods_alone : (line : List Known) (act_day : ℕ) (ms : List KnownMod) → map mod_alone (map (mod_carrying line act_day) ms) ≡ map mod_alone ms
mods_alone line act_day [] = refl
mods_alone line act_day (m ∷ ms) = ap (λ (ks : List KnownMod). mod_alone m ∷ ks) (mods_alone line act_day ms)

pub carrying_alone : (line : List Known) (known : Known) → alone (carrying line known) ≡ alone known
carrying_alone line known =
    ap (λ (ms : List KnownMod). (let k : Known = record known { mods = ms; source_days = [] } in k)) (mods_alone line known.act.day known.mods)

module _ (line : List Known) (known : Known) (by_itself : alone known ≡ known) where
  -- what is known of one that was made
  pub made_known : (carried : Known) (value : WorkValue) → carried ≡ carrying line known → value ≡ work_of carried → value.known ≡ known
  made_known carried value is made =
      ap (λ (v : WorkValue). v.known) made ∙ ap alone is ∙ carrying_alone line known ∙ by_itself

  -- it is right, where it is for what carries
  pub made_right : (carried : Known) (value : WorkValue) → carried ≡ carrying line known → IsFor carried value → work_in known.act.work line ≡ Some known
      → ((reading : Reading) (day : ℕ) → replay_on (carrying line known) reading day ≡ version_in line known reading day)
      → breakpoints (carrying line known) ≡ breakpoints_of line known → IsKeptFor line value
  made_right carried value is made there versions days = record {
    work = known;
    alike = subst (IsAlike value.known) (ap alone is ∙ carrying_alone line known ∙ by_itself) made.alike;
    there = there;
    versions = λ reading day.
        (made.tables.right reading).versions day
        ∙ ap (λ (r : Reading). replay_on carried r day) (made.tables.readings reading)
        ∙ ap (λ (k : Known). replay_on k reading day) is
        ∙ versions reading day;
    days = made.days ∙ ap breakpoints is ∙ days;
  }

-- so many ids are applied at most
applied_few : (before ids : List Id) → ids_applied before ids ≤ length ids
applied_few before ids = by (begins_with before ids)
  where
    by : (b : Bool) → cond b (length ids - length before) (length ids) ≤ length ids
    by true = omega arith
    by false = omega arith

day_few : (before ids : List Id) (b : Bool) → cond b (ids_applied before ids) 0 ≤ length ids
day_few before ids true = applied_few before ids
day_few before ids false = omega arith

cost_few : (order : ℕ → List Id) (touched : ℕ) (before : List Id) (days : List ℕ) → cost_over order touched before days ≤ sum_by (λ day. length (order day)) days
cost_few order touched before [] = omega arith
cost_few order touched before (day ∷ days) =
    let one : cond (nat_le touched day) (ids_applied before (order day)) 0 ≤ length (order day) = day_few before (order day) (nat_le touched day) in
    let rest : cost_over order touched (order day) days ≤ sum_by (λ day. length (order day)) days = cost_few order touched (order day) days in
    omega (arith, one, rest, sum_by-cons (λ day. length (order day)) day days)

sum_both : (f g : ℕ → ℕ) (days : List ℕ) → sum_by f days + sum_by g days ≡ sum_by (λ day. f day + g day) days
sum_both f g [] = refl
sum_both f g (day ∷ days) =
    let rest = sum_both f g days in
    omega (arith, rest, sum_by-cons f day days, sum_by-cons g day days, sum_by-cons (λ d. f d + g d) day days)

module _ (line : List Known) (known : Known) where
  abbrev bearing : Reading → ℕ → ℕ
  bearing reading day = length (order_in line known reading day)

  revising_few : (reading : Reading) → revision_cost_in line known reading 0 ≤ sum_by (bearing reading) (breakpoints_of line known)
  unfolding revision_cost_in
  revising_few reading = cost_few (order_in line known reading) 0 [] (breakpoints_of line known)

  pub made_costs : (carried : Known) → carried ≡ carrying line known
      → ((reading : Reading) → revision_cost (carrying line known) reading 0 ≡ revision_cost_in line known reading 0)
      → both_costs carried (Some 0) ≤ full line known
  made_costs carried is costs = subst (λ (k : Known). both_costs k (Some 0) ≤ full line known) (sym is) whole
    where
      whole : both_costs (carrying line known) (Some 0) ≤ full line known
      whole =
          let first : revision_cost_in line known Force 0 ≤ sum_by (bearing Force) (breakpoints_of line known) = revising_few Force in
          let second : revision_cost_in line known Efficacy 0 ≤ sum_by (bearing Efficacy) (breakpoints_of line known) = revising_few Efficacy in
          let sum : sum_by (bearing Force) (breakpoints_of line known) + sum_by (bearing Efficacy) (breakpoints_of line known) ≡ full line known =
          sum_both (bearing Force) (bearing Efficacy) (breakpoints_of line known) in
          omega (arith, first, second, sum, costs Force, costs Efficacy)
