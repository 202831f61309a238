use Rattle.std.proofs.Common.{length}
use Rattle.act_tree.proofs.Pieces.{blocks_next, blocks_seen, full_blocks}
use Rattle.act_tree.proofs.piece_list.PieceList.begin.Goals as goal

pub invariant_of-self-2 : goal.invariant_of-self-2
invariant_of-self-2 g c =
    let bs = c.self.inside.blocks.items in
    let v = c.args.self.now in
    let seen = blocks_seen 16 bs v c.self.invariant c.self.view_is in
    (blocks_next 16 bs v c.self.invariant c.self.view_is c.args.piece c.in_ok-made.made c.push.new.self.items c.in_ok-pieces.pieces.items c.push-2.new.self.items
    (full_blocks (length v) (length bs) seen.enough seen.ended c.requires) c.in_ok-made.ensures c.in_ok-push.ensures.items c.in_ok-pieces.ensures.items c.in_ok-push-2.ensures.items).1
