-- How many provisions the text of an act may have.
use Rattle.std.specs.Prelude.{ℕ}
use Rattle.act_tree.specs.declared.limits.NodeLimit.{NodeLimit}
use Rattle.act_tree.specs.declared.limits.NodeLimit.TheVariants.{Plain, Wide}
use Rattle.act_tree.specs.declared.limits.TheConstants.{MAX_NODES, MAX_WIDE_NODES}

-- the most provisions of a text of a limit
abbrev pub most_nodes : NodeLimit → ℕ
most_nodes Plain = MAX_NODES
most_nodes Wide = MAX_WIDE_NODES
