-- The pieces so far are as the values stand.
use Rattle.act_tree.specs.KeptLists.{IsNoted, AreFresh}
use Rattle.act_tree.proofs.kept_list.renew.Given as goal

abbrev pub invariant-loop-place : goal.invariant-loop-place
invariant-loop-place g l = record {
  noted : IsNoted l.size l.items l.pieces l.written.items;
  fresh : AreFresh l.place l.pieces l.written.items;
}
