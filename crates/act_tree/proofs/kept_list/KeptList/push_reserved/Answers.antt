use Rattle.std.proofs.Common.{◌-◌, arith}
use Rattle.std.specs.Prelude.{vec_len, vec_capacity}
use Rattle.act_tree.proofs.Pieces.{push_seen}
use Rattle.act_tree.proofs.kept_list.KeptList.push_reserved.Goals as goal

pub invariant_of-self : goal.invariant_of-self
invariant_of-self g c =
    let a = c.self.inside in
    push_seen g.row.SIZE a.own.items c.push_reserved.new.self.items a.pieces a.written.items c.note.new.written.items a.count c.len.result (vec_capacity a.own - vec_len a.own) c.args.value a.is_own c.args.self.now
    c.self.view_is c.requires.own c.self.invariant (omega (arith, c.len.ensures, a.own.ok.0)) c.note.ensures c.push_reserved.ensures.items
