use Rattle.std.proofs.Common.{◌≡◌, ◌++◌, string_bytes, drop}
use Rattle.desk_trial.specs.Bearing as spec
use Rattle.desk_trial.proofs.bearing.order_line.Given as goal

-- the line so far, and the text of the others behind it, are all of the line
abbrev pub invariant-loop-id : goal.invariant-loop-id
invariant-loop-id l =
    string_bytes l.line ++ spec.spaced_ids (drop l.id-index l.ids) ≡ spec.order_text l.ids
