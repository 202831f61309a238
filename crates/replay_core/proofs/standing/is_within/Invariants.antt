-- None of those passed includes the day, so the rest decides.
use Rattle.std.proofs.Common.{◌≡◌, drop}
use Rattle.law_register.specs.Answer.Standing.{is_within}
use Rattle.replay_core.proofs.standing.is_within.Given as goal

abbrev pub invariant-loop-span : goal.invariant-loop-span
invariant-loop-span l = is_within (drop l.span-index l.spans) l.day ≡ is_within l.spans l.day
