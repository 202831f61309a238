-- The nodes so far are laid down.
use Rattle.std.proofs.Common.{map, option_map, take}
use Rattle.act_tree.specs.Branches.{branches_of}
use Rattle.act_tree.specs.Eids.{enacted}
use Rattle.act_tree.specs.Planted.{AreLaid}
use Rattle.act_tree.specs.Specs.{spec_view}
use Rattle.act_tree.proofs.laying.+laying.Given as goal

abbrev pub invariant-lay_all-loop-node : goal.invariant-lay_all-loop-node
invariant-lay_all-loop-node l =
    AreLaid l.initial.arena l.arena l.ids.items (branches_of (map (enacted l.numbering (option_map (λ s. s.now) l.wid)) (map spec_view (take l.node-index l.node-items))))
