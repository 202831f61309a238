-- The copies so far are of the values of the first blocks' pieces.
use Rattle.std.proofs.Common.{◌≡◌, ◌++◌, take}
use Rattle.act_tree.specs.KeptLists.{joined_pieces}
use Rattle.act_tree.proofs.piece_list.add_blocks.Given as goal

abbrev pub invariant-loop-block : goal.invariant-loop-block
invariant-loop-block g l = l.all.items ≡ l.initial.all.items ++ joined_pieces (joined_pieces (take l.block-index l.blocks))
