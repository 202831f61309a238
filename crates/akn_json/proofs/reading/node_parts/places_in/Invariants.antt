-- The members that are left are at the keys of a node as all are, and the places are those of the members before them.
use Rattle.std.proofs.Common.{◌≡◌, drop, take}
use Rattle.json.specs.Value.{members_view}
use Rattle.akn_json.specs.Reading.Parts.{ArePlacesOf}
use Rattle.akn_json.specs.Reading.Values.{members_seen, are_known}
use Rattle.akn_json.specs.declared.reading.tables.TheConstants.{NODE}
use Rattle.akn_json.proofs.reading.node_parts.places_in.Given as goal

abbrev pub invariant-loop-at : goal.invariant-loop-at
invariant-loop-at l =
    (are_known NODE.required NODE.optional (members_view (drop l.at l.members)) ≡ are_known NODE.required NODE.optional (members_view l.members))
    × ArePlacesOf l.members l.places (members_seen (take l.at l.members))
