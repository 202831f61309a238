-- The orders of the days passed, and those of the days to come; and what is due from the days of the last.
use Rattle.std.proofs.Common.{◌≡◌, ◌++◌, drop, length, map}
use Rattle.law_register.specs.Answer.Order.{order}
use Rattle.replay_core.specs.Starts.{due_by}
use Rattle.replay_core.proofs.orders.orders_at.Given as goal

abbrev pub invariant-loop-day : goal.invariant-loop-day
invariant-loop-day l = record {
  orders : l.orders.items ++ map (order l.known l.reading) (drop l.day-index l.days) ≡ map (order l.known l.reading) l.days;
  starts : length l.starts.items ≡ length l.known.mods;
  due : l.dues.keys ≡ due_by l.known.mods l.starts.items;
}
