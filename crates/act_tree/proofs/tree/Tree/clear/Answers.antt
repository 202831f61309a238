use Rattle.act_tree.proofs.StayingNodes.{nodes_stay, index_stays}
use Rattle.std.proofs.Common.{ap}
use Rattle.act_tree.specs.Arena.{provision_in}
use Rattle.act_tree.specs.Seen.{tree_view, provision_at}
use Rattle.act_tree.specs.Slots.{at}
use Rattle.act_tree.specs.Trees.{TreeValue}
use Rattle.act_tree.proofs.TakingAway.{may_be_emptied, left_emptied}
use Rattle.act_tree.specs.declared.limits.TheConstants.{MAX_DEPTH}
use Rattle.act_tree.proofs.LowTexts.{still_low, removed_low}
use Rattle.act_tree.proofs.tree.Tree.clear.Goals as goal

pub take_all-requires-clause-within : goal.take_all-requires-clause-within
take_all-requires-clause-within c = (may_be_emptied c.args.self.now.arena c.root.result c.root.ensures c.args.self.now.whole).0

pub take_all-requires-clause-children : goal.take_all-requires-clause-children
take_all-requires-clause-children c = (may_be_emptied c.args.self.now.arena c.root.result c.root.ensures c.args.self.now.whole).1.0

pub take_all-requires-clause-apart : goal.take_all-requires-clause-apart
take_all-requires-clause-apart c = (may_be_emptied c.args.self.now.arena c.root.result c.root.ensures c.args.self.now.whole).1.1

pub invariant_of-self : goal.invariant_of-self
invariant_of-self c =
    let left = left_emptied c.args.self.now.arena c.root.result c.root.ensures c.args.self.now.whole c.take_all.new.self c.take_all.ensures.numbers c.take_all.ensures.size c.take_all.ensures.relisted in
    record { whole = left.holds.whole; low = still_low MAX_DEPTH _ _ _ left.holds.reads (removed_low (provision_in (at c.args.self.now.arena 0)).wid _) c.args.self.now.low }

pub returns-clause-tree : goal.returns-clause-tree
unfolding tree_view provision_at
returns-clause-tree c =
    ap {B = TreeValue} (λ body. record { numbering = c.args.self.now.numbering; limit = c.args.self.now.limit; body = body; changes = c.args.self.now.changes })
    (left_emptied c.args.self.now.arena c.root.result c.root.ensures c.args.self.now.whole c.take_all.new.self c.take_all.ensures.numbers c.take_all.ensures.size c.take_all.ensures.relisted).holds.reads

pub returns-clause-says : goal.returns-clause-says
unfolding provision_at
returns-clause-says c =
    (left_emptied c.args.self.now.arena c.root.result c.root.ensures c.args.self.now.whole c.take_all.new.self c.take_all.ensures.numbers c.take_all.ensures.size c.take_all.ensures.relisted).says

pub returns-clause-stay : goal.returns-clause-stay
returns-clause-stay c = nodes_stay c.args.self.now _ (index_stays c.args.self.now.arena c.args.self.now.whole c.take_all.new.self c.take_all.ensures.numbers)
