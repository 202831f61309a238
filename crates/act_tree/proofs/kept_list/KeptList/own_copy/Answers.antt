use Rattle.std.proofs.Common.{◌∙◌, ◌-◌, Bool, false, List, ap, get_or, length}
use Rattle.std.specs.Prelude.{vec_len, vec_capacity}
use Rattle.act_tree.proofs.Pieces.{owned_seen}
use Rattle.act_tree.proofs.kept_list.KeptList.own_copy.Goals as goal

pub invariant_of-result : goal.invariant_of-result
invariant_of-result g c =
    let a = c.self.inside in
    let told = c.in_ok-written.ensures in
    owned_seen g.row.SIZE a.own.items c.in_ok-own.own.items a.pieces c.in_ok-pieces.pieces a.written.items c.in_ok-written.written.items a.count (vec_capacity a.own - vec_len a.own) a.is_own c.args.self.now c.self.view_is
    c.self.invariant c.in_ok-own.ensures c.in_ok-pieces.ensures (λ owned. told.own owned ∙ ap (λ (bs : List Bool). length bs) c.deref.ensures.value) c.pieces_for-count.result told.kept c.pieces_for-count.ensures.low
    c.pieces_for-count.ensures.enough (λ k. told.alike k ∙ ap (λ (bs : List Bool). get_or bs k false) c.deref.ensures.value)
