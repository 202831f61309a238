-- The members that are left are at these keys alone as all are.
use Rattle.std.proofs.Common.{◌≡◌, drop}
use Rattle.json.specs.Value.{members_view}
use Rattle.akn_json.specs.Reading.Values.{are_known}
use Rattle.akn_json.proofs.reading.fields.has_only.Given as goal

abbrev pub invariant-loop-name : goal.invariant-loop-name
invariant-loop-name l = are_known l.required l.optional (members_view (drop l.name-index l.name-items)) ≡ are_known l.required l.optional (members_view l.name-items)
