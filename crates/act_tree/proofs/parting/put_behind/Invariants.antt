-- What is put so far, and what is to be put behind it, are all of it.
use Rattle.std.proofs.Common.{◌≡◌, ◌++◌, drop}
use Rattle.act_tree.specs.Siblings.{put_behind}
use Rattle.act_tree.proofs.parting.put_behind.Given as goal

abbrev pub invariant-loop-number : goal.invariant-loop-number
invariant-loop-number l = l.all.items ++ put_behind l.id l.other (drop l.number-index l.numbers) ≡ put_behind l.id l.other l.numbers
