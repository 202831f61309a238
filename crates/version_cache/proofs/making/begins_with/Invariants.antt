-- Those passed are the same, so the rest decides.
use Rattle.std.proofs.Common.{◌≡◌, drop}
use Rattle.law_register.specs.Answer.Applied.{begins_with}
use Rattle.version_cache.proofs.making.begins_with.Given as goal

abbrev pub invariant-loop-index : goal.invariant-loop-index
invariant-loop-index l = begins_with (drop l.index l.firsts) (drop l.index l.ids) ≡ begins_with l.firsts l.ids
