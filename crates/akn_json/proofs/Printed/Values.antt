-- The value of provisions side by side is built from the values of each.
use Rattle.std.proofs.Common.{◌≡◌, ◌∙◌, ap, sym, refl, ℕ, ◌+◌, ◌<◌, List, [], ◌∷◌, ◌++◌, length, get_or, map, take}
use Rattle.std.proofs.lemmas.List.{map_push, take_more}
use Rattle.serde_json.specs.Data.{Data, item}
use Rattle.serde_json.specs.View.{items_of, view}
use Rattle.serde_json.specs.declared.value.Value.{Value}
use Rattle.act_tree.specs.Branches.{branches_of}
use Rattle.akn_json.specs.Printing.Answers.{node_data, nodes_data}
use Rattle.law_register.specs.Answer.ShownNodes.{shown_view, shown_list}
use Rattle.law_register.specs.declared.answer.answer_node.AnswerNode.{AnswerNode}

-- the data of a provision
abbrev pub shown_node_data : AnswerNode → Data
shown_node_data n = node_data (shown_view n)

pub nodes_data-shown_list : (ns : List AnswerNode) → items_of (map shown_node_data ns) ≡ nodes_data (branches_of (shown_list ns))
nodes_data-shown_list [] = refl
nodes_data-shown_list (n ∷ ns) = ap (item (shown_node_data n)) (nodes_data-shown_list ns)

-- one more provision, at the end of those whose values are built
pub more_values : (vs : List Value) (v : Value) (ns : List AnswerNode) (i : ℕ) (n : AnswerNode) → i < length ns → n ≡ get_or ns i n
    → view v ≡ shown_node_data n → map view vs ≡ map shown_node_data (take i ns) → map view (vs ++ v ∷ []) ≡ map shown_node_data (take (i + 1) ns)
more_values vs v ns i n inside is here before =
    map_push view vs v ∙ ap (λ ds. ds ++ view v ∷ []) before ∙ ap (λ d. map shown_node_data (take i ns) ++ d ∷ []) here
    ∙ sym (map_push shown_node_data (take i ns) n) ∙ ap (map shown_node_data) (ap (λ m. take i ns ++ m ∷ []) is ∙ sym (take_more ns i n inside))
