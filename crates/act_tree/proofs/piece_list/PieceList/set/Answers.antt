use Rattle.std.proofs.Common.{◌/◌, refl, slice_set}
use Rattle.act_tree.proofs.Grown.{on_err}
use Rattle.act_tree.proofs.Pieces.{blocks_set, blocks_same}
use Rattle.act_tree.proofs.piece_list.PieceList.set.Goals as goal

pub invariant_of-self : goal.invariant_of-self
invariant_of-self g c =
    let bs = c.self.inside.blocks.items in
    let k = c.args.place / 16 in
    (blocks_same 16 bs c.args.self.now c.self.invariant c.self.view_is k c.index_mut.result.now c.set.new.self (slice_set bs k c.set.new.self) c.index_mut.ensures.value c.in_err-set.ensures.err refl).1

pub returns-in_err-set-clause-err : goal.returns-in_err-set-clause-err
returns-in_err-set-clause-err g c =
    let bs = c.self.inside.blocks.items in
    let k = c.args.place / 16 in
    on_err c.from_residual.result _ (blocks_same 16 bs c.args.self.now c.self.invariant c.self.view_is k c.index_mut.result.now c.set.new.self (slice_set bs k c.set.new.self) c.index_mut.ensures.value c.in_err-set.ensures.err refl).0

pub invariant_of-self-2 : goal.invariant_of-self-2
invariant_of-self-2 g c =
    let bs = c.self.inside.blocks.items in
    let k = c.args.place / 16 in
    (blocks_set 16 bs c.args.self.now c.self.invariant c.self.view_is c.args.place c.args.piece c.index_mut.result.now c.set.new.self (slice_set bs k c.set.new.self) c.requires c.index_mut.ensures.value c.in_ok-set.ensures.ok
    refl).1

pub returns-clause-ok : goal.returns-clause-ok
returns-clause-ok g c =
    let bs = c.self.inside.blocks.items in
    let k = c.args.place / 16 in
    (blocks_set 16 bs c.args.self.now c.self.invariant c.self.view_is c.args.place c.args.piece c.index_mut.result.now c.set.new.self (slice_set bs k c.set.new.self) c.requires c.index_mut.ensures.value c.in_ok-set.ensures.ok
    refl).0
