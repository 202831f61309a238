use Rattle.std.proofs.Common.{ap}
use Rattle.act_tree.specs.Seen.{tree_view}
use Rattle.act_tree.specs.Trees.{TreeValue}
use Rattle.act_tree.specs.declared.limits.TheConstants.{MAX_DEPTH}
use Rattle.act_tree.proofs.LowTexts.{as_low}
use Rattle.act_tree.proofs.LowNodes.{body_low}
use Rattle.act_tree.proofs.tree.Tree.copy.Goals as goal

pub invariant_of-result : goal.invariant_of-result
invariant_of-result c = record { whole = c.in_ok-arena.ensures.whole; low = as_low MAX_DEPTH _ _ c.in_ok-arena.ensures.reads (body_low c.args.self.now) }

pub returns-clause-tree : goal.returns-clause-tree
unfolding tree_view
returns-clause-tree c =
    let t = c.args.self.now in
    ap {B = TreeValue} (λ body. record { numbering = t.numbering; limit = t.limit; body = body; changes = t.changes }) c.in_ok-arena.ensures.reads
