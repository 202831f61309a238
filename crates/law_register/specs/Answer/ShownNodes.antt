-- The provisions of an answer, as a clause sees them.
use Rattle.std.specs.Prelude.{◌+◌, ◌≤◌, List, [], ◌∷◌, map, max}
use Rattle.std.proofs.Common.{arith}
use denote.Param.Weighed.{most}
use Rattle.act_tree.specs.Branches.{Branch, branch, branches_of, tallest, heights-branches_of}
use Rattle.law_register.specs.Answer.Shown.{Shown}
use Rattle.law_register.specs.declared.answer.answer_node.AnswerNode.{AnswerNode}

-- a provision of an answer, with all beneath it
abbrev pub shown_view : AnswerNode → Branch Shown
shown_view n =
    branch (record {
      wid = n.wid;
      eid = n.eid;
      bears = n.bears;
      own = record { element = n.element; num = n.num; heading = n.heading; content = n.content; refs = n.refs };
    }) (branches_of n.children)

-- provisions of an answer, side by side
abbrev pub shown_list : List AnswerNode → List (Branch Shown)
shown_list ns = map shown_view ns

pub most_le-shown : (ns : List AnswerNode) → most (λ n. max (tallest n.children + 1) 0) ns ≤ tallest (shown_list ns)
most_le-shown [] = omega arith
most_le-shown (n ∷ ns) = omega (arith, heights-branches_of n.children, most_le-shown ns)
