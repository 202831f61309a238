use Rattle.std.proofs.Common.{◌≡◌, map, take}
use Rattle.serde_json.specs.View.{view}
use Rattle.akn_json.specs.Printing.Answers.{missed_data}
use Rattle.akn_json.proofs.printing.values.unapplied_value.Given as goal

abbrev pub invariant-loop-missed : goal.invariant-loop-missed
invariant-loop-missed l = map view l.list.items ≡ map missed_data (take l.missed-index l.unapplied)
