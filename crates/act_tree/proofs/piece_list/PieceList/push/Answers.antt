use Rattle.std.proofs.Common.{◌≡◌, ◌+◌, ◌-◌, refl, length, slice_set, arith}
use Rattle.act_tree.proofs.Grown.{on_err}
use Rattle.act_tree.proofs.Pieces.{blocks_more, blocks_same, blocks_seen, some_room}
use Rattle.act_tree.proofs.piece_list.PieceList.push.Goals as goal

pub invariant_of-self : goal.invariant_of-self
invariant_of-self g c =
    let bs = c.self.inside.blocks.items in
    let v = c.args.self.now in
    let n = c.len-last.result - 1 in
    (blocks_same 16 bs v c.self.invariant c.self.view_is n c.index_mut.result.now c.push.new.self (slice_set bs n c.push.new.self) c.index_mut.ensures.value c.in_err-push.ensures.err refl).1

pub returns-in_err-push-clause-err : goal.returns-in_err-push-clause-err
returns-in_err-push-clause-err g c =
    let bs = c.self.inside.blocks.items in
    let v = c.args.self.now in
    let n = c.len-last.result - 1 in
    on_err c.from_residual.result _ (blocks_same 16 bs v c.self.invariant c.self.view_is n c.index_mut.result.now c.push.new.self (slice_set bs n c.push.new.self) c.index_mut.ensures.value c.in_err-push.ensures.err refl).0

pub invariant_of-self-2 : goal.invariant_of-self-2
invariant_of-self-2 g c =
    let bs = c.self.inside.blocks.items in
    let v = c.args.self.now in
    let n = c.len-last.result - 1 in
    let room = some_room (length v) (length bs) (blocks_seen 16 bs v c.self.invariant c.self.view_is).enough (c.is_full.ensures.room c.if-is_full.false) in
    let last : length bs ≡ n + 1 = omega (arith, room.0, c.len-last.ensures, c.self.inside.blocks.ok.0) in
    (blocks_more 16 bs v c.self.invariant c.self.view_is n c.args.piece c.index_mut.result.now c.push.new.self (slice_set bs n c.push.new.self) last room.1 c.index_mut.ensures.value c.in_ok-push.ensures.ok refl).1

pub returns-clause-ok : goal.returns-clause-ok
returns-clause-ok g c =
    let bs = c.self.inside.blocks.items in
    let v = c.args.self.now in
    let n = c.len-last.result - 1 in
    let room = some_room (length v) (length bs) (blocks_seen 16 bs v c.self.invariant c.self.view_is).enough (c.is_full.ensures.room c.if-is_full.false) in
    let last : length bs ≡ n + 1 = omega (arith, room.0, c.len-last.ensures, c.self.inside.blocks.ok.0) in
    (blocks_more 16 bs v c.self.invariant c.self.view_is n c.args.piece c.index_mut.result.now c.push.new.self (slice_set bs n c.push.new.self) last room.1 c.index_mut.ensures.value c.in_ok-push.ensures.ok refl).0
