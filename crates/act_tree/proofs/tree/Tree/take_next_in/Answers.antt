use Rattle.act_tree.proofs.StayingNodes.{nodes_stay, index_stays, same_stay}
use Rattle.std.proofs.Common.{rules, ◌≡◌, ◌∙◌, sym, ap, true, is_some}
use Rattle.act_tree.specs.Changes.{merged}
use Rattle.act_tree.specs.Seen.{has_node, tree_view, provision_at}
use Rattle.act_tree.specs.Slots.{at, number, size}
use Rattle.act_tree.specs.Trees.{TreeValue}
use Rattle.act_tree.proofs.MergedNodes.{root_alone, some_behind, behind_within, may_join, merged_arena}
use Rattle.act_tree.proofs.SlotsOfNodes.{node_within}
use Rattle.act_tree.proofs.TakingAway.{may_be_taken}
use Rattle.act_tree.specs.declared.limits.TheConstants.{MAX_DEPTH}
use Rattle.act_tree.proofs.LowTexts.{still_low, changed_low, merged_low}
use Rattle.act_tree.proofs.tree.Tree.take_next_in.Goals as goal

pub next-requires-clause-within : goal.next-requires-clause-within
next-requires-clause-within c = node_within c.args.self.now c.args.id c.requires.node

pub next-requires-clause-above : goal.next-requires-clause-above
unfolding has_node tree_view provision_at
next-requires-clause-above c =
    let arena = c.args.self.now.arena in
    let other : c.args.id ≡ 0 → ⊥ = root_alone (at arena) (number arena) (size arena) c.args.self.now.whole c.args.id c.requires.next in
    (may_be_taken arena c.args.id c.args.self.now.whole c.requires.node other).1.0

pub unwrap-next-requires : goal.unwrap-next-requires
unfolding has_node tree_view provision_at
unwrap-next-requires c =
    let arena = c.args.self.now.arena in
    let some : is_some c.next.result ≡ true = ap is_some c.next.ensures ∙ some_behind (at arena) (number arena) (size arena) c.args.self.now.whole c.args.id c.requires.node c.requires.next in
    search (rules, some)

pub refs_of_both-requires-clause-within : goal.refs_of_both-requires-clause-within
refs_of_both-requires-clause-within c = node_within c.args.self.now c.args.id c.requires.node

pub below_both-requires-clause-within : goal.below_both-requires-clause-within
below_both-requires-clause-within c = node_within c.args.self.now c.args.id c.requires.node

pub refs_of_both-requires-clause-next : goal.refs_of_both-requires-clause-next
unfolding has_node tree_view provision_at
refs_of_both-requires-clause-next c =
    let arena = c.args.self.now.arena in
    let other : c.args.id ≡ 0 → ⊥ = root_alone (at arena) (number arena) (size arena) c.args.self.now.whole c.args.id c.requires.next in
    behind_within arena c.args.id c.unwrap-next.result c.args.self.now.whole c.requires.node other (sym c.next.ensures ∙ c.unwrap-next.ensures)

pub below_both-requires-clause-next : goal.below_both-requires-clause-next
unfolding has_node tree_view provision_at
below_both-requires-clause-next c =
    let arena = c.args.self.now.arena in
    let other : c.args.id ≡ 0 → ⊥ = root_alone (at arena) (number arena) (size arena) c.args.self.now.whole c.args.id c.requires.next in
    behind_within arena c.args.id c.unwrap-next.result c.args.self.now.whole c.requires.node other (sym c.next.ensures ∙ c.unwrap-next.ensures)

pub join-requires-clause-can : goal.join-requires-clause-can
unfolding has_node tree_view provision_at
join-requires-clause-can c =
    let arena = c.args.self.now.arena in
    let other : c.args.id ≡ 0 → ⊥ = root_alone (at arena) (number arena) (size arena) c.args.self.now.whole c.args.id c.requires.next in
    may_join arena c.args.id c.unwrap-next.result c.args.self.now.whole c.requires.node other (sym c.next.ensures ∙ c.unwrap-next.ensures) c.in_ok-below.below.items c.in_ok-below.ensures

pub invariant_of-self : goal.invariant_of-self
unfolding has_node tree_view provision_at
invariant_of-self c =
    let arena = c.args.self.now.arena in
    let other : c.args.id ≡ 0 → ⊥ = root_alone (at arena) (number arena) (size arena) c.args.self.now.whole c.args.id c.requires.next in
    let joined = merged_arena arena c.args.id c.unwrap-next.result c.args.self.now.whole c.requires.node other (sym c.next.ensures ∙ c.unwrap-next.ensures) c.in_ok-below.below.items c.in_ok-below.ensures
    c.join.new.self c.args.content c.in_ok-refs.refs c.join.ensures.numbers c.join.ensures.size c.in_ok-refs.ensures c.join.ensures.joined in
    record { whole = joined.whole; low = still_low MAX_DEPTH _ _ _ joined.reads (changed_low (merged c.args.content) (merged_low c.args.content) _ _) c.args.self.now.low }

pub returns-clause-tree : goal.returns-clause-tree
unfolding has_node tree_view provision_at
returns-clause-tree c =
    let arena = c.args.self.now.arena in
    let other : c.args.id ≡ 0 → ⊥ = root_alone (at arena) (number arena) (size arena) c.args.self.now.whole c.args.id c.requires.next in
    ap {B = TreeValue} (λ body. record { numbering = c.args.self.now.numbering; limit = c.args.self.now.limit; body = body; changes = c.args.self.now.changes })
    (merged_arena arena c.args.id c.unwrap-next.result c.args.self.now.whole c.requires.node other (sym c.next.ensures ∙ c.unwrap-next.ensures) c.in_ok-below.below.items c.in_ok-below.ensures
    c.join.new.self c.args.content c.in_ok-refs.refs c.join.ensures.numbers c.join.ensures.size c.in_ok-refs.ensures c.join.ensures.joined).reads

pub returns-clause-stay : goal.returns-clause-stay
returns-clause-stay c = nodes_stay c.args.self.now _ (index_stays c.args.self.now.arena c.args.self.now.whole c.join.new.self c.join.ensures.numbers)

pub returns-in_err-refs-clause-stay : goal.returns-in_err-refs-clause-stay
returns-in_err-refs-clause-stay c = same_stay c.args.self.now

pub returns-in_err-below-clause-stay : goal.returns-in_err-below-clause-stay
returns-in_err-below-clause-stay c = same_stay c.args.self.now
