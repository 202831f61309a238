-- Those looked at so far are typed.
use Rattle.std.proofs.Common.{take}
use Rattle.std.specs.Prelude.{All}
use Rattle.act_tree.specs.Specs.{spec_view}
use Rattle.entry_codec.specs.Typed.{IsNode}
use Rattle.entry_codec.proofs.typed.+typed.Given as goal

abbrev pub invariant-nodes_are_typed-loop-one : goal.invariant-nodes_are_typed-loop-one
invariant-nodes_are_typed-loop-one l = All (λ n. IsNode (spec_view n)) (take l.one-index l.one-items)
