-- The next member is put to those before it, at its place.
use Rattle.std.proofs.Common.{ℕ, ◌<◌, length, take, arith}
use Rattle.akn_json.specs.Reading.Values.{seen, members_seen}
use Rattle.akn_json.specs.declared.reading.tables.TheConstants.{NODE}
use Rattle.akn_json.proofs.Parts.{places_next, shown_here, known_behind}
use Rattle.akn_json.proofs.reading.node_parts.places_in.Goals as goal

pub loop-at-preserved : goal.loop-at-preserved
loop-at-preserved c =
    let all = c.args.members.now in
    let i : ℕ = c.loop-at.at in
    let x = c.index-members-at.result in
    let within : i < length all = omega arith in (
      known_behind NODE.required NODE.optional all i x within c.index-members-at.is c.in-Some.ensures.known c.loop-at.invariant.0,
      places_next all i x c.in-Some.next within c.index-members-at.is
          (c.in-Some.ensures.put all (members_seen (take i all)) (seen x.1) (shown_here all i x within c.index-members-at.is) c.loop-at.invariant.1),
    )
