use Rattle.std.proofs.Common.{ap}
use Rattle.act_tree.specs.Seen.{tree_view}
use Rattle.act_tree.specs.Trees.{TreeValue}
use Rattle.act_tree.specs.declared.limits.TheConstants.{MAX_DEPTH}
use Rattle.act_tree.proofs.LowTexts.{as_low}
use Rattle.act_tree.proofs.LowNodes.{body_low}
use Rattle.act_tree.proofs.tree.Tree.lay_text.Goals as goal

pub invariant_of-self : goal.invariant_of-self
invariant_of-self c = record { whole = c.in_ok-arena.ensures.whole; low = as_low MAX_DEPTH _ _ c.in_ok-arena.ensures.reads (body_low c.args.self.now) }

pub returns-clause-same : goal.returns-clause-same
unfolding tree_view
returns-clause-same c =
    ap {B = TreeValue} (λ body. record { numbering = c.args.self.now.numbering; limit = c.args.self.now.limit; body = body; changes = c.args.self.now.changes }) c.in_ok-arena.ensures.reads

pub returns-clause-own : goal.returns-clause-own
returns-clause-own c was = c.in_ok-arena.ensures.own
