use Rattle.std.proofs.Common.{◌-◌, List, subst, arith}
use Rattle.std.specs.Prelude.{vec_len, vec_capacity}
use Rattle.act_tree.specs.KeptLists.{ArePieces}
use Rattle.act_tree.proofs.Pieces.{kept_seen, kept_same}
use Rattle.act_tree.proofs.kept_list.KeptList.keep_own.Goals as goal

pub invariant_of-result : goal.invariant_of-result
invariant_of-result g c =
    let a = c.self.inside in
    let made = c.renew.new.pieces in
    let are : ArePieces g.row.SIZE a.own.items made = subst (λ (xs : List g.row.T.Denot). ArePieces g.row.SIZE xs made) c.deref.ensures.value c.in_ok-renew.ensures.fresh in
    kept_seen g.row.SIZE a.own.items c.new.result.items made c.in_ok-pieces.pieces c.new-2.result.items c.len.result are c.in_ok-pieces.ensures c.new-2.ensures.items (omega (arith, c.len.ensures, a.own.ok.0))

pub returns-clause-items : goal.returns-clause-items
returns-clause-items g c =
    let a = c.self.inside in
    let made = c.renew.new.pieces in
    let are : ArePieces g.row.SIZE a.own.items made = subst (λ (xs : List g.row.T.Denot). ArePieces g.row.SIZE xs made) c.deref.ensures.value c.in_ok-renew.ensures.fresh in
    kept_same g.row.SIZE a.own.items a.pieces made c.in_ok-pieces.pieces (vec_capacity a.own - vec_len a.own) a.is_own c.args.self.now c.self.view_is c.requires are c.in_ok-pieces.ensures
