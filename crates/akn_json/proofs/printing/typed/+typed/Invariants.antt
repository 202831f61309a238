-- Those looked at so far are typed.
use Rattle.std.proofs.Common.{take}
use Rattle.std.specs.Prelude.{All}
use Rattle.act_tree.specs.Specs.{spec_view}
use Rattle.akn_json.specs.Printing.Typed.{IsTypedNode}
use Rattle.akn_json.proofs.printing.typed.+typed.Given as goal

abbrev pub invariant-nodes_are_typed-loop-one : goal.invariant-nodes_are_typed-loop-one
invariant-nodes_are_typed-loop-one l = All (λ n. IsTypedNode (spec_view n)) (take l.one-index l.one-items)
