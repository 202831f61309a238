-- The copies so far are of the values of the first pieces.
use Rattle.std.proofs.Common.{◌≡◌, ◌++◌, take}
use Rattle.act_tree.specs.KeptLists.{joined_pieces}
use Rattle.act_tree.proofs.piece_list.add_pieces.Given as goal

abbrev pub invariant-loop-piece : goal.invariant-loop-piece
invariant-loop-piece g l = l.all.items ≡ l.initial.all.items ++ joined_pieces (take l.piece-index l.pieces)
