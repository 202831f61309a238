-- The members that are left are at the key as all are.
use Rattle.std.proofs.Common.{◌≡◌, drop}
use Rattle.json.specs.Value.{members_view}
use Rattle.akn_json.specs.Reading.Values.{are_named}
use Rattle.akn_json.proofs.reading.modifications.are_named.Given as goal

abbrev pub invariant-loop-name : goal.invariant-loop-name
invariant-loop-name l = are_named l.key (members_view (drop l.name-index l.name-items)) ≡ are_named l.key (members_view l.name-items)
