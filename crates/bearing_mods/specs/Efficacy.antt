-- How efficacy modifications change the period of efficacy, and on which days there is efficacy.
use Rattle.std.specs.Prelude.{ℕ, min, max, Bool, true, false, not, ◌&&◌, ◌||◌, List, [], ◌∷◌, Some, None}
use Rattle.desk_base.specs.declared.period.Period.{Period}
use Rattle.desk_base.specs.Periods.{includes, ends_after_its_start}
use Rattle.bearing_mods.specs.declared.efficacy.Efficacy.{Efficacy}
use Rattle.bearing_mods.specs.declared.efficacy.EfficacyEffect.{EfficacyEffect}
use Rattle.bearing_mods.specs.declared.efficacy.EfficacyEffect.TheVariants.{Entry, Ended, Retroactive, Postponed, Prorogued, Extra, Inapplied}
use Rattle.bearing_mods.specs.declared.efficacy.CountedEfficacy.{CountedEfficacy}
use Rattle.bearing_mods.specs.Dates.{put_off}

-- the period after one effect: an entry sets the start, an end sets the end, retroactivity takes the earlier of
-- start and date, a postponement the later, a prorogation puts the end off, extra efficacy takes the end away, and
-- an inapplication leaves the period
abbrev pub efficacy_after : Period → EfficacyEffect → Period
efficacy_after p (Entry date) = record { start = date; end = p.end }
efficacy_after p (Ended date) = record { start = p.start; end = Some date }
efficacy_after p (Retroactive date) = record { start = min p.start date; end = p.end }
efficacy_after p (Postponed date) = record { start = max p.start date; end = p.end }
efficacy_after p (Prorogued date) = record { start = p.start; end = put_off p.end date }
efficacy_after p Extra = record { start = p.start; end = None }
efficacy_after p (Inapplied days) = p

-- the period after the effects of counted modifications, one after the other
abbrev pub efficacy_period : Period → List CountedEfficacy → Period
efficacy_period period [] = period
efficacy_period period (one ∷ others) = efficacy_period (efficacy_after period one.effect) others

-- an effect is an inapplication whose days include this one
abbrev pub inapplies : EfficacyEffect → ℕ → Bool
inapplies (Entry date) day = false
inapplies (Ended date) day = false
inapplies (Retroactive date) day = false
inapplies (Postponed date) day = false
inapplies (Prorogued date) day = false
inapplies Extra day = false
inapplies (Inapplied days) day = includes days day

-- the days of an inapplication end after their start
abbrev pub days_end_after_their_start : EfficacyEffect → Bool
days_end_after_their_start (Inapplied days) = ends_after_its_start days
days_end_after_their_start effect = true

-- some counted inapplication includes the day
abbrev pub is_inapplied : List CountedEfficacy → ℕ → Bool
is_inapplied [] day = false
is_inapplied (one ∷ others) day = inapplies one.effect day || is_inapplied others day

-- the efficacy as of a day: it holds where the period includes the day, and no counted inapplication does
abbrev pub efficacy_at : Period → List CountedEfficacy → ℕ → Efficacy
efficacy_at force counted day = record {
  period = efficacy_period force counted;
  holds = includes (efficacy_period force counted) day && not (is_inapplied counted day);
}
