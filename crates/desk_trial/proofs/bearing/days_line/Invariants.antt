use Rattle.std.proofs.Common.{◌≡◌, ◌++◌, string_bytes, drop}
use Rattle.desk_trial.specs.Bearing as spec
use Rattle.desk_trial.proofs.bearing.days_line.Given as goal

-- the line so far, and the text of the others behind it, are all of the line
abbrev pub invariant-loop-day : goal.invariant-loop-day
invariant-loop-day l =
    string_bytes l.line ++ spec.spaced_days (drop l.day-index l.days) ≡ spec.days_text l.days
