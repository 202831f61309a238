use Rattle.std.proofs.Common.{subst, sym}
use Rattle.act_tree.specs.NodesStay.{NodesStay}
use Rattle.act_tree.proofs.StayingNodes.{counted}
use Rattle.act_tree.proofs.tree.Tree.replace.Goals.{then-place-eq0+in_ok-put_all, else-place-eq0+in_ok-put_instead}
use Rattle.act_tree.specs.declared.tree.Tree.{Tree}
use Rattle.act_tree.proofs.tree.Tree.replace.Goals as goal

pub returns-clause-stay : goal.returns-clause-stay
returns-clause-stay g c =
    let P : Tree → Type 0 = λ t. NodesStay c.args.self.now t in
    counted c.args.self.now c.if-place-eq0.self c.count_change.new.self _
    (elim c.if-place-eq0.branch [
      | then-place-eq0+in_ok-put_all w ↦ subst P (sym w.self-is) w.in_ok-put_all.ensures.stay
      | else-place-eq0+in_ok-put_instead w ↦ subst P (sym w.self-is) w.in_ok-put_instead.ensures.stay
    ])
    c.count_change.ensures.tree c.count_change.ensures.nodes c.count_change.ensures.says
