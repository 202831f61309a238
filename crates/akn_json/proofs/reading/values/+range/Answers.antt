-- Each call goes over what nests one level less deep.
use Rattle.std.proofs.Common.{rules, ℕ, ◌+◌, ◌*◌, ◌<◌, ◌≤◌, sym, subst, arith}
use Rattle.json.specs.Tree.{depth, items_depth, members_depth}
use Rattle.json.specs.Value.{value_view, items_view, members_view}
use Rattle.akn_json.proofs.Nesting.{array_low, object_low, borrowed_item, borrowed_member}
use Rattle.akn_json.proofs.reading.values.+range.Goals as goal

pub is_in_range-are_items_in_range-requires : goal.is_in_range-are_items_in_range-requires
is_in_range-are_items_in_range-requires t c =
    let below = array_low c.args.value.now c.in-Array.items (depth (value_view c.args.value.now)) c.in-Array.is (omega arith) in
    let falls : 2 * items_depth (items_view c.in-Array.items.items) + 1 < 2 * depth (value_view c.args.value.now) = omega (arith, below) in
    (search (rules, falls), omega (arith, below, c.requires.depth))

pub is_in_range-are_members_in_range-requires : goal.is_in_range-are_members_in_range-requires
is_in_range-are_members_in_range-requires t c =
    let below = object_low c.args.value.now c.in-Object.members (depth (value_view c.args.value.now)) c.in-Object.is (omega arith) in
    let falls : 2 * members_depth (members_view c.in-Object.members.items) + 1 < 2 * depth (value_view c.args.value.now) = omega (arith, below) in
    (search (rules, falls), omega (arith, below, c.requires.depth))

pub are_items_in_range-is_in_range-requires : goal.are_items_in_range-is_in_range-requires
are_items_in_range-is_in_range-requires t c =
    let xs = c.deref-item-items.result.now in
    let x = c.item-item.result in
    let below : depth (value_view x) ≤ items_depth (items_view c.args.items.now.items) =
    subst (λ ys. depth (value_view x) ≤ items_depth (items_view ys)) c.deref-item-items.ensures.value
    (subst (λ y. depth (value_view y) ≤ items_depth (items_view xs)) (sym c.item-item.is) (borrowed_item xs c.loop-item.item-index x (omega arith))) in
    let falls : 2 * depth (value_view x) < 2 * items_depth (items_view c.args.items.now.items) + 1 = omega (arith, below) in
    (search (rules, falls), omega (arith, below, c.requires.depth))

pub are_members_in_range-is_in_range-requires : goal.are_members_in_range-is_in_range-requires
are_members_in_range-is_in_range-requires t c =
    let xs = c.deref-member-items.result.now in
    let x = c.member-item.result in
    let below : depth (value_view x.1) ≤ members_depth (members_view c.args.members.now.items) =
    subst (λ ys. depth (value_view x.1) ≤ members_depth (members_view ys)) c.deref-member-items.ensures.value
    (subst (λ y. depth (value_view y.1) ≤ members_depth (members_view xs)) (sym c.member-item.is) (borrowed_member xs c.loop-member.member-index x (omega arith))) in
    let falls : 2 * depth (value_view x.1) < 2 * members_depth (members_view c.args.members.now.items) + 1 = omega (arith, below) in
    (search (rules, falls), omega (arith, below, c.requires.depth))
