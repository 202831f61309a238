use Rattle.std.proofs.Common.{◌≡◌, ◌∙◌, sym, ap, Bool, true, false}
use Rattle.act_tree.specs.Branches.{branches_of}
use Rattle.act_tree.specs.EidLevels.{all_going_on}
use Rattle.act_tree.specs.Faults.{all_owns}
use Rattle.act_tree.specs.Seen.{tree_view}
use Rattle.textual_mods.specs.Insertions.{goes_on_again, is_root, one_among}
use Rattle.textual_mods.specs.Substitutions.{left_below}
use Rattle.textual_mods.proofs.InsertedTrees.{none_on_top, one_on, root_told}
use Rattle.textual_mods.proofs.inserting.goes_on_taken.Goals as goal

pub returns-then-eq : goal.returns-then-eq
returns-then-eq c =
    let t = c.args.tree.now in
    let new = branches_of c.args.new.now in
    let siblings = all_owns (left_below t c.args.gone.now c.args.parent) in
    let n = (tree_view t).numbering in
    let root : is_root t c.args.parent ≡ true = sym (root_told t c.args.parent c.root.result c.eq.result c.requires.node c.root.ensures.root c.eq.ensures) ∙ c.if-eq.true in
    sym (ap (λ (s : Bool). goes_on_again n s new siblings) root ∙ ap (λ ls. one_among ls (all_going_on n true siblings)) (none_on_top n new))

pub returns : goal.returns
returns c =
    let t = c.args.tree.now in
    let new = branches_of c.args.new.now in
    let siblings = all_owns (left_below t c.args.gone.now c.args.parent) in
    let n = (tree_view t).numbering in
    let other : is_root t c.args.parent ≡ false = sym (root_told t c.args.parent c.root.result c.eq.result c.requires.node c.root.ensures.root c.eq.ensures) ∙ c.if-eq.false in
    c.go_on_again.ensures ∙ sym (one_on (all_going_on n false siblings) n new) ∙ sym (ap (λ (s : Bool). goes_on_again n s new siblings) other)
