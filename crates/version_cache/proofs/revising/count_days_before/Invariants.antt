-- Those counted, and those to come.
use Rattle.std.proofs.Common.{◌≡◌, ◌+◌, ◌≤◌, drop, length}
use Rattle.version_cache.specs.Days.{days_before}
use Rattle.version_cache.proofs.revising.count_days_before.Given as goal

abbrev pub invariant-loop-day : goal.invariant-loop-day
invariant-loop-day l = record {
  count : l.count + length (days_before l.touched (drop l.day-index l.days)) ≡ length (days_before l.touched l.days);
  most : l.count ≤ l.day-index;
}
