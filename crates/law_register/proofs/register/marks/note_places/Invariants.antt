-- What is noted, and the marks of what is left, are what was there before and the marks of all, and there is room for what is left.
use Rattle.std.proofs.Common.{◌≡◌, ◌+◌, ◌≤◌, ◌++◌, length, drop, vec_len, vec_capacity}
use Rattle.law_register.specs.Register.Marks.{places}
use Rattle.law_register.proofs.register.marks.note_places.Given as goal

abbrev pub invariant-loop-place : goal.invariant-loop-place
invariant-loop-place l = record {
  items : l.all.items ++ places l.at l.place (drop l.place l.mods) ≡ l.initial.all.items ++ places l.at 0 l.mods;
  len : vec_len l.all ≡ vec_len l.initial.all + l.place;
  room : vec_len l.all + length l.mods ≤ vec_capacity l.all + l.place;
}
