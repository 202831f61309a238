-- The works made are right and are those passed; those to come have theirs ahead of them; and what the rest costs.
use Rattle.std.proofs.Common.{◌≡◌, ◌+◌, ◌≤◌, ◌++◌, drop, map, Some}
use Rattle.std.specs.List.{AllByRecursion, sum_by}
use Rattle.law_register.specs.declared.register.known.Known.{Known}
use Rattle.law_register.specs.Answer.Soundness.{IsSound}
use Rattle.law_register.specs.Answer.Standing.{alone}
use Rattle.law_register.specs.Provisions.Costs.{full}
use Rattle.law_register.specs.Provisions.Line.{work_in}
use Rattle.held_provisions.specs.Needing.{HaveAhead}
use Rattle.held_provisions.proofs.MadeAll.{IsMade, known_made}
use Rattle.held_provisions.proofs.making.make_all.Given as goal

abbrev pub invariant-loop-known : goal.invariant-loop-known
invariant-loop-known g l = record {
  known : map known_made l.made.made.items ++ drop l.known-index l.needed ≡ l.needed;
  right : AllByRecursion (IsMade (map g.T.InLine.known_of l.works)) l.made.made.items;
  there : AllByRecursion (λ (k : Known). work_in k.act.work (map g.T.InLine.known_of l.works) ≡ Some k) (drop l.known-index l.needed);
  ahead : HaveAhead (map g.T.InLine.known_of l.works) (map g.T.InLine.known_of l.works) (map known_made l.made.made.items) (drop l.known-index l.needed);
  alone : AllByRecursion (λ (k : Known). alone k ≡ k) (drop l.known-index l.needed);
  sound : AllByRecursion IsSound (drop l.known-index l.needed);
  steps : l.steps + sum_by (full (map g.T.InLine.known_of l.works)) (drop l.known-index l.needed)
      ≤ l.initial.steps + sum_by (full (map g.T.InLine.known_of l.works)) l.needed;
}
