-- How force modifications change the period in which a thing is in force.
use Rattle.std.specs.Prelude.{max, List, [], ◌∷◌, Some, None}
use Rattle.desk_base.specs.declared.period.Period.{Period}
use Rattle.bearing_mods.specs.declared.force.ForceEffect.{ForceEffect}
use Rattle.bearing_mods.specs.declared.force.ForceEffect.TheVariants.{Entry, Postponed, Ended, Prorogued, ReEnacted}
use Rattle.bearing_mods.specs.declared.force.CountedForce.{CountedForce}
use Rattle.bearing_mods.specs.Dates.{put_off}

-- the period after one effect: an entry sets the start, a postponement takes the later of start and date, an end
-- sets the end, a prorogation puts the end off, and a re-enactment sets the start and takes the end away
abbrev pub force_after : Period → ForceEffect → Period
force_after p (Entry date) = record { start = date; end = p.end }
force_after p (Postponed date) = record { start = max p.start date; end = p.end }
force_after p (Ended date) = record { start = p.start; end = Some date }
force_after p (Prorogued date) = record { start = p.start; end = put_off p.end date }
force_after p (ReEnacted date) = record { start = date; end = None }

-- the period after the effects of counted modifications, one after the other
abbrev pub force_at : Period → List CountedForce → Period
force_at period [] = period
force_at period (one ∷ others) = force_at (force_after period one.effect) others
