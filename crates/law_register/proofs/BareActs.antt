-- An act that nothing modifies stays as enacted, and keeping its versions costs nothing.
use Rattle.std.proofs.Common.{◌≡◌, ◌∙◌, ap, ap₂, ℕ, ◌+◌, nat_le, Bool, true, false, cond, List, [], ◌∷◌, map, Option, Some, None, refl}
use Rattle.desk_base.specs.declared.id.Id.{Id}
use Rattle.law_register.specs.Answer.Breakpoints.{breakpoints}
use Rattle.law_register.specs.Answer.Applied.{ids_applied}
use Rattle.law_register.specs.Answer.Costs.{cost_after, revision_cost}
use Rattle.law_register.specs.Answer.Order.{due_of, order}
use Rattle.law_register.specs.Answer.Renewing.{both_costs}
use Rattle.law_register.specs.Answer.Replay.{as_enacted, replay_on, replayed}
use Rattle.law_register.specs.declared.answer.due.Due.{Due}
use Rattle.law_register.specs.declared.answer.question.Reading.{Reading}
use Rattle.law_register.specs.declared.answer.question.Reading.TheVariants.{Force, Efficacy}
use Rattle.law_register.specs.declared.register.known.Known.{Known}

module _ (known : Known) (alone : known.mods ≡ []) where
  none_bears : (reading : Reading) (day : ℕ) → order known reading day ≡ []
  none_bears reading day = ap (λ mods. map (λ (due : Due). due.id) (due_of reading day mods mods)) alone

  pub stays_as_enacted : (reading : Reading) (day : ℕ) → replay_on known reading day ≡ as_enacted known.act
  stays_as_enacted reading day = ap (replayed known.mods (as_enacted known.act)) (none_bears reading day)

  nothing : (b : Bool) → cond b (ids_applied [] []) 0 ≡ 0
  nothing true = refl
  nothing false = refl

  all_cost_nothing : (reading : Reading) (touched : ℕ) (days : List ℕ) → cost_after known reading touched [] days ≡ 0
  all_cost_nothing reading touched [] = refl
  all_cost_nothing reading touched (day ∷ days) =
      ap (λ (ids : List Id). cond (nat_le touched day) (ids_applied [] ids) 0 + cost_after known reading touched ids days) (none_bears reading day)
      ∙ ap₂ (λ a b. a + b) (nothing (nat_le touched day)) (all_cost_nothing reading touched days)

  revised_for_nothing : (reading : Reading) (touched : ℕ) → revision_cost known reading touched ≡ 0
  unfolding revision_cost
  revised_for_nothing reading touched = all_cost_nothing reading touched (breakpoints known)

  pub kept_for_nothing : (touched : Option ℕ) → both_costs known touched ≡ 0
  kept_for_nothing None = refl
  kept_for_nothing (Some touched) = ap₂ (λ a b. a + b) (revised_for_nothing Force touched) (revised_for_nothing Efficacy touched)
