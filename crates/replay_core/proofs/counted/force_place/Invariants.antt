-- None of those passed has the new one before it.
use Rattle.std.proofs.Common.{◌≡◌, ◌++◌, take, drop}
use Rattle.bearing_mods.specs.Turns.{force_turn}
use Rattle.law_register.specs.Answer.Counted.{take_turn}
use Rattle.replay_core.proofs.counted.force_place.Given as goal

abbrev pub invariant-loop-index : goal.invariant-loop-index
invariant-loop-index l = take_turn force_turn l.new l.list ≡ take l.index l.list ++ take_turn force_turn l.new (drop l.index l.list)
