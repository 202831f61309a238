-- What follows of how a run told something: why the sink failed, and that no other status came of it.
use Rattle.std.proofs.Common.{◌≡◌, ◌≢◌, ◌⊎◌, ◌≤◌, ◌∙◌, inl, inr, ℕ, List, Option, Result, ap, arith, subst, sym}
use Rattle.desk_base.specs.Streams.{Rose, risen}
use Rattle.dossier_text.specs.Reports.{Told}
use Rattle.law_follow.specs.Opening.{HasFirstCause}
use Rattle.law_keeper.specs.Keepers.{Holding}
use Rattle.law_office.specs.Opening.{HasRefusalCause, StaysUnlessFailed}
use Rattle.law_register.specs.declared.desk.damage.Damage.{Damage}
use Rattle.law_register.specs.declared.desk.damage.Damage.TheVariants as damage
use Rattle.law_register.specs.declared.desk.open_fault.OpenFault.{OpenFault}
use Rattle.law_register.specs.declared.desk.open_fault.OpenFault.TheVariants as fails
use Rattle.lawdesk.specs.Telling.{EndsWith, IsToldInPart, IsToldWhole, Tells, TellsUnopened, told_damage}

rose_once : (before now : ℕ) → now ≡ risen before → Rose before now
rose_once before now is = subst (λ (n : ℕ). risen before ≤ n) (sym is) (omega arith)

module _ {W : Type 0} (written : W → Option (List ℕ)) (faults : W → ℕ) (sink sink_new : W) (status : ℕ) where
  -- a fault of the sink is the cause of a 4, and there is none else
  pub four_cause : (told : Told) → told.status ≢ 4 → Tells written faults sink sink_new status told
      → status ≡ 4 → faults sink_new ≡ risen (faults sink)
  four_cause told other (inl whole) four = absurd (other (sym whole.status_is ∙ four))
  four_cause told other (inr (inl part)) four = part.rises
  four_cause told other (inr (inr ends)) four = let seven : status ≡ 7 = ends.status_is in absurd (omega (arith, seven, four))

  pub four_stays : (told : Told) → Tells written faults sink sink_new status told → status ≢ 4 → faults sink_new ≡ faults sink
  four_stays told (inl whole) other = whole.stays
  four_stays told (inr (inl part)) other = absurd (other part.status_is)
  four_stays told (inr (inr ends)) other = ap faults ends.same

  -- it ends with its own status, with 4 or with 7
  pub one_of_three : (told : Told) → Tells written faults sink sink_new status told → (status ≡ told.status) ⊎ ((status ≡ 4) ⊎ (status ≡ 7))
  one_of_three told (inl whole) = inl whole.status_is
  one_of_three told (inr (inl part)) = inr (inl part.status_is)
  one_of_three told (inr (inr ends)) = inr (inr ends.status_is)

  six_is_not_four : (damage : Damage) → (told_damage damage).status ≢ 4
  six_is_not_four damage four = let wrong : 6 ≡ 4 = four in omega (arith, wrong)

  pub unopened_cause : (fault : OpenFault) → TellsUnopened written faults sink sink_new status fault
      → status ≡ 4 → faults sink_new ≡ risen (faults sink)
  unopened_cause (fails.Damaged broken) tells four = four_cause (told_damage broken) (six_is_not_four broken) tells four
  unopened_cause fails.Failed ends four = let five : status ≡ 5 = ends.status_is in absurd (omega (arith, five, four))
  unopened_cause fails.Memory ends four = let seven : status ≡ 7 = ends.status_is in absurd (omega (arith, seven, four))

  pub unopened_stays : (fault : OpenFault) → TellsUnopened written faults sink sink_new status fault
      → status ≢ 4 → faults sink_new ≡ faults sink
  unopened_stays (fails.Damaged broken) tells other = four_stays (told_damage broken) tells other
  unopened_stays fails.Failed ends other = ap faults ends.same
  unopened_stays fails.Memory ends other = ap faults ends.same

  -- the status of a register that was not opened
  pub unopened_status : (fault : OpenFault) → TellsUnopened written faults sink sink_new status fault
      → (status ≡ 4) ⊎ ((status ≡ 5) ⊎ ((status ≡ 6) ⊎ (status ≡ 7)))
  unopened_status (fails.Damaged broken) (inl whole) = inr (inr (inl whole.status_is))
  unopened_status (fails.Damaged broken) (inr (inl part)) = inl part.status_is
  unopened_status (fails.Damaged broken) (inr (inr ends)) = inr (inr (inr ends.status_is))
  unopened_status fails.Failed ends = inr (inl ends.status_is)
  unopened_status fails.Memory ends = inr (inr (inr ends.status_is))

  -- why the keeper failed
  pub opening_cause : (h : Holding) (before now : ℕ) (fault : OpenFault) → HasFirstCause h before now fault
      → TellsUnopened written faults sink sink_new status fault → status ≡ 5 → now ≡ risen before
  opening_cause h before now (fails.Damaged broken) cause (inl whole) five =
      let six : status ≡ 6 = whole.status_is in absurd (omega (arith, six, five))
  opening_cause h before now (fails.Damaged broken) cause (inr (inl part)) five =
      let four : status ≡ 4 = part.status_is in absurd (omega (arith, four, five))
  opening_cause h before now (fails.Damaged broken) cause (inr (inr ends)) five =
      let seven : status ≡ 7 = ends.status_is in absurd (omega (arith, seven, five))
  opening_cause h before now fails.Failed cause ends five = cause.0
  opening_cause h before now fails.Memory cause ends five =
      let seven : status ≡ 7 = ends.status_is in absurd (omega (arith, seven, five))

  pub opening_stays : (h : Holding) (before now : ℕ) (fault : OpenFault) → HasFirstCause h before now fault
      → TellsUnopened written faults sink sink_new status fault → status ≢ 5 → h.tells → now ≡ before
  opening_stays h before now (fails.Damaged broken) cause tells other told = cause.1 told
  opening_stays h before now fails.Failed cause ends other told = absurd (other ends.status_is)
  opening_stays h before now fails.Memory cause ends other told = cause.0

  -- the same of the opening of an office
  pub refusal_cause : (fault : OpenFault) (before now : ℕ) → TellsUnopened written faults sink sink_new status fault
      → HasRefusalCause before now fault → status ≡ 5 → Rose before now
  refusal_cause (fails.Damaged broken) before now (inl whole) cause five =
      let six : status ≡ 6 = whole.status_is in absurd (omega (arith, six, five))
  refusal_cause (fails.Damaged broken) before now (inr (inl part)) cause five =
      let four : status ≡ 4 = part.status_is in absurd (omega (arith, four, five))
  refusal_cause (fails.Damaged broken) before now (inr (inr ends)) cause five =
      let seven : status ≡ 7 = ends.status_is in absurd (omega (arith, seven, five))
  refusal_cause fails.Failed before now ends cause five = rose_once before now cause
  refusal_cause fails.Memory before now ends cause five =
      let seven : status ≡ 7 = ends.status_is in absurd (omega (arith, seven, five))

  pub refusal_stays : (fault : OpenFault) (before now : ℕ) → TellsUnopened written faults sink sink_new status fault
      → StaysUnlessFailed before now fault → status ≡ 6 → now ≡ before
  refusal_stays (fails.Damaged broken) before now tells stays six = stays
  refusal_stays fails.Failed before now ends stays six =
      let five : status ≡ 5 = ends.status_is in absurd (omega (arith, five, six))
  refusal_stays fails.Memory before now ends stays six = stays
