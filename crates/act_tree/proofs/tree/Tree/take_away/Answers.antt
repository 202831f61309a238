use Rattle.act_tree.proofs.StayingNodes.{nodes_stay, index_stays}
use Rattle.std.proofs.Common.{ap}
use Rattle.act_tree.specs.Seen.{has_node, tree_view, provision_at}
use Rattle.act_tree.specs.Trees.{TreeValue}
use Rattle.act_tree.specs.Arena.{provision_in}
use Rattle.act_tree.specs.Slots.{at}
use Rattle.act_tree.proofs.TakingAway.{Left, may_be_taken, left_removed}
use Rattle.act_tree.specs.declared.limits.TheConstants.{MAX_DEPTH}
use Rattle.act_tree.proofs.LowTexts.{still_low, removed_low}
use Rattle.act_tree.proofs.tree.Tree.take_away.Goals as goal

pub take_off-requires-clause-within : goal.take_off-requires-clause-within
unfolding has_node
take_off-requires-clause-within c = (may_be_taken c.args.self.now.arena c.args.id c.args.self.now.whole c.requires.node c.requires.provision).0

pub take_off-requires-clause-above : goal.take_off-requires-clause-above
unfolding has_node
take_off-requires-clause-above c = (may_be_taken c.args.self.now.arena c.args.id c.args.self.now.whole c.requires.node c.requires.provision).1.0

pub take_off-requires-clause-apart : goal.take_off-requires-clause-apart
unfolding has_node
take_off-requires-clause-apart c = (may_be_taken c.args.self.now.arena c.args.id c.args.self.now.whole c.requires.node c.requires.provision).1.1

pub invariant_of-self : goal.invariant_of-self
unfolding has_node
invariant_of-self c =
    let left : Left c.args.self.now.arena c.take_off.new.self (provision_in (at c.args.self.now.arena c.args.id)).wid =
    left_removed c.args.self.now.arena c.take_off.new.self c.args.id c.args.self.now.whole c.requires.node c.requires.provision c.take_off.ensures.numbers c.take_off.ensures.size c.take_off.ensures.taken in
    record { whole = left.holds.whole; low = still_low MAX_DEPTH _ _ _ left.holds.reads (removed_low (provision_in (at c.args.self.now.arena c.args.id)).wid _) c.args.self.now.low }

pub returns-clause-tree : goal.returns-clause-tree
unfolding has_node tree_view provision_at
returns-clause-tree c =
    let left : Left c.args.self.now.arena c.take_off.new.self (provision_in (at c.args.self.now.arena c.args.id)).wid =
    left_removed c.args.self.now.arena c.take_off.new.self c.args.id c.args.self.now.whole c.requires.node c.requires.provision c.take_off.ensures.numbers c.take_off.ensures.size c.take_off.ensures.taken in
    ap {B = TreeValue} (λ body. record { numbering = c.args.self.now.numbering; limit = c.args.self.now.limit; body = body; changes = c.args.self.now.changes }) left.holds.reads

pub returns-clause-says : goal.returns-clause-says
unfolding has_node provision_at
returns-clause-says c =
    let left : Left c.args.self.now.arena c.take_off.new.self (provision_in (at c.args.self.now.arena c.args.id)).wid =
    left_removed c.args.self.now.arena c.take_off.new.self c.args.id c.args.self.now.whole c.requires.node c.requires.provision c.take_off.ensures.numbers c.take_off.ensures.size c.take_off.ensures.taken in
    left.says

pub returns-clause-stay : goal.returns-clause-stay
returns-clause-stay c = nodes_stay c.args.self.now _ (index_stays c.args.self.now.arena c.args.self.now.whole c.take_off.new.self c.take_off.ensures.numbers)
