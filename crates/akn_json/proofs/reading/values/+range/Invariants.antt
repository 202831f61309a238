-- The values that are left are in range as all are. Each call goes over a value that nests less deep.
use Rattle.std.proofs.Common.{◌≡◌, ◌+◌, ◌*◌, drop}
use Rattle.json.specs.Tree.{depth, items_depth, members_depth}
use Rattle.json.specs.Value.{value_view, items_view, members_view}
use Rattle.akn_json.specs.Reading.Values.{are_items_in_range, are_members_in_range}
use Rattle.akn_json.proofs.reading.values.+range.Given as goal

abbrev pub decreases-is_in_range : goal.decreases-is_in_range
decreases-is_in_range l = 2 * depth (value_view l.value.now)

abbrev pub decreases-are_items_in_range : goal.decreases-are_items_in_range
decreases-are_items_in_range l = 2 * items_depth (items_view l.items.now.items) + 1

abbrev pub decreases-are_members_in_range : goal.decreases-are_members_in_range
decreases-are_members_in_range l = 2 * members_depth (members_view l.members.now.items) + 1

abbrev pub invariant-are_items_in_range-loop-item : goal.invariant-are_items_in_range-loop-item
invariant-are_items_in_range-loop-item l = are_items_in_range (items_view (drop l.item-index l.item-items)) ≡ are_items_in_range (items_view l.item-items)

abbrev pub invariant-are_members_in_range-loop-member : goal.invariant-are_members_in_range-loop-member
invariant-are_members_in_range-loop-member l =
    are_members_in_range (members_view (drop l.member-index l.member-items)) ≡ are_members_in_range (members_view l.member-items)
