-- None of those passed has the id.
use Rattle.std.proofs.Common.{◌≡◌, drop}
use Rattle.std.specs.List.{find}
use Rattle.law_register.specs.Answer.Counted.{is_same_id}
use Rattle.law_register.proofs.answer.replaying.find_known.Given as goal

abbrev pub invariant-loop-known : goal.invariant-loop-known
invariant-loop-known l = find (λ m. is_same_id m.id l.id) (drop l.known-index l.mods) ≡ find (λ m. is_same_id m.id l.id) l.mods
