use Rattle.std.proofs.Common.{◌-◌}
use Rattle.std.specs.Prelude.{vec_len, vec_capacity}
use Rattle.act_tree.proofs.Pieces.{set_seen}
use Rattle.act_tree.proofs.kept_list.KeptList.at_mut.Goals as goal

pub invariant_of-self-lent : goal.invariant_of-self-lent
invariant_of-self-lent g c = λ w.
    let a = c.self.inside in
    set_seen g.row.SIZE a.own.items a.pieces a.written.items c.note.new.written.items a.count c.args.place (vec_capacity a.own - vec_len a.own) w a.is_own c.args.self.now c.self.view_is c.requires.own
    c.self.invariant c.note.ensures
