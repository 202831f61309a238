use Rattle.std.proofs.Common.{◌-◌, ◌+◌, ◌≡◌, length, arith, leb-true, leb-false}
use Rattle.act_tree.proofs.Pieces.{blocks_seen, last_long, last_full, last_not_full}
use Rattle.act_tree.proofs.piece_list.PieceList.is_full.Goals as goal

pub returns-clause-full : goal.returns-clause-full
returns-clause-full g c = λ told.
    let bs = c.self.inside.blocks.items in
    let v = c.args.self.now in
    let n = c.len-count.result - 1 in
    let seen = blocks_seen 16 bs v c.self.invariant c.self.view_is in
    let last : length bs ≡ n + 1 = omega (arith, c.if-count-eq0.false, c.len-count.ensures, c.self.inside.blocks.ok.0) in
    last_full (length v) (length bs) n (length c.as_slice.result.now) seen.enough seen.ended last (last_long 16 bs v c.self.invariant c.self.view_is n c.index.result.now c.as_slice.result.now last c.index.ensures c.as_slice.ensures)
    (leb-true _ _ told)

pub returns-clause-room : goal.returns-clause-room
returns-clause-room g c = λ told.
    let bs = c.self.inside.blocks.items in
    let v = c.args.self.now in
    let n = c.len-count.result - 1 in
    let seen = blocks_seen 16 bs v c.self.invariant c.self.view_is in
    let last : length bs ≡ n + 1 = omega (arith, c.if-count-eq0.false, c.len-count.ensures, c.self.inside.blocks.ok.0) in
    last_not_full (length v) (length bs) n (length c.as_slice.result.now) seen.enough seen.ended last (last_long 16 bs v c.self.invariant c.self.view_is n c.index.result.now c.as_slice.result.now last c.index.ensures c.as_slice.ensures)
    (leb-false _ _ told)
