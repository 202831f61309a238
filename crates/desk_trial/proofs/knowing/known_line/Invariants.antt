use Rattle.std.proofs.Common.{◌≡◌, ◌++◌, Some, string_bytes, drop}
use Rattle.desk_trial.specs.Knowing as spec
use Rattle.desk_trial.proofs.knowing.known_line.Given as goal

-- the line so far, and the text of the ids behind it, are all of the line
abbrev pub invariant-loop-modification : goal.invariant-loop-modification
invariant-loop-modification l =
    string_bytes l.line ++ spec.mods_text (drop l.modification-index l.modification-items) ≡ spec.known_line (Some l.known)
