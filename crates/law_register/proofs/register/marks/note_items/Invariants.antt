-- The marks of the items passed are noted behind those from before, and there is room for what is left.
use Rattle.std.proofs.Common.{◌≡◌, ◌+◌, ◌≤◌, ◌++◌, length, map, take, vec_len, vec_capacity}
use Rattle.law_register.specs.Register.Marks.{item_body}
use Rattle.law_register.proofs.register.marks.note_items.Given as goal

abbrev pub invariant-loop-item : goal.invariant-loop-item
invariant-loop-item l = record {
  items : l.all.items ≡ l.initial.all.items ++ map item_body (take l.item-index l.items);
  len : vec_len l.all ≡ vec_len l.initial.all + l.item-index;
  room : vec_len l.all + length l.items ≤ vec_capacity l.all + l.item-index;
}
