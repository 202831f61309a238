-- The modifications passed, from the last on, are counted.
use Rattle.std.proofs.Common.{drop}
use Rattle.replay_core.specs.Groups.{CountsForce, CountsEfficacy}
use Rattle.replay_core.proofs.counted.gather.Given as goal

abbrev pub invariant-loop-index : goal.invariant-loop-index
invariant-loop-index l = record {
  forces : CountsForce l.groups l.day (drop l.index l.mods);
  efficacies : CountsEfficacy l.groups l.day (drop l.index l.mods);
}
