-- The nodes left have few refs exactly where all have, for those passed do.
use Rattle.std.proofs.Common.{◌≡◌, drop}
use Rattle.act_tree.specs.Branches.{branches_of}
use Rattle.act_tree.specs.Limits.{have_few_refs}
use Rattle.act_tree.specs.Specs.{specs_view}
use Rattle.act_tree.proofs.node_spec.+refs.Given as goal

abbrev pub invariant-Nodes::have_few_refs-loop-node : goal.invariant-Nodes::have_few_refs-loop-node
invariant-Nodes::have_few_refs-loop-node l =
    have_few_refs (branches_of (specs_view (drop l.node-index l.node-items))) ≡ have_few_refs (branches_of (specs_view l.node-items))
