use Rattle.std.proofs.Common.{ap, None, arith}
use Rattle.act_tree.specs.Branches.{branches_of}
use Rattle.act_tree.specs.Seen.{tree_view}
use Rattle.act_tree.specs.Trees.{TreeValue}
use Rattle.act_tree.proofs.EidTexts.{no_roots}
use Rattle.act_tree.specs.declared.limits.TheConstants.{MAX_DEPTH}
use Rattle.act_tree.proofs.LowTexts.{as_low, heights_enacted}
use Rattle.act_tree.proofs.tree.Tree.plant.Goals as goal

pub plant-requires-clause-apart : goal.plant-requires-clause-apart
plant-requires-clause-apart c = no_roots c.args.numbering None (branches_of c.args.body.now)

pub invariant_of-result : goal.invariant_of-result
invariant_of-result c =
    record {
      whole = c.in_ok-arena.ensures.whole;
      low = as_low MAX_DEPTH _ _ c.in_ok-arena.ensures.reads (omega (arith, heights_enacted c.args.numbering None (branches_of c.args.body.now), c.requires.depth));
    }

pub returns-clause-tree : goal.returns-clause-tree
unfolding tree_view
returns-clause-tree c = ap {B = TreeValue} (λ bs. record { numbering = c.args.numbering; limit = c.args.limit; body = bs; changes = 0 }) c.in_ok-arena.ensures.reads
