-- How high the provisions of an answer are with one more of them.
use Rattle.std.proofs.Common.{ℕ, ◌+◌, ◌≤◌, List, [], ◌∷◌, ◌++◌, arith}
use Rattle.act_tree.specs.Branches.{height, tallest}
use Rattle.law_register.specs.declared.answer.answer_node.AnswerNode.{AnswerNode}
use Rattle.law_register.specs.Answer.ShownNodes.{shown_view, shown_list}

-- provisions with one more behind them
pub one_more_low : (most : ℕ) (ns : List AnswerNode) (n : AnswerNode) → tallest (shown_list ns) ≤ most → height (shown_view n) ≤ most → tallest (shown_list (ns ++ n ∷ [])) ≤ most
one_more_low most [] n low one = omega (arith, one)
one_more_low most (m ∷ ns) n low one = omega (arith, low, one, one_more_low most ns n (omega (arith, low)) one)
