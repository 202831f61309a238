-- Those to come decide.
use Rattle.std.proofs.Common.{◌≡◌, drop}
use Rattle.version_cache.specs.Days.{last_until}
use Rattle.version_cache.proofs.calendar.days_are_counted.Given as goal

abbrev pub invariant-loop-day : goal.invariant-loop-day
invariant-loop-day l = last_until 0 (drop l.day-index l.days) ≡ last_until 0 l.days
