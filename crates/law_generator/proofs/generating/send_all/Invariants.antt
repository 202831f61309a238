-- So far the desk has the entries of the course, the draws have its state, no fault was counted, and no more steps were
-- taken than its commands may.
use Rattle.std.proofs.Common.{ℕ, ◌≡◌, ◌≤◌, ◌+◌}
use Rattle.law_register.specs.Desk.States.{standing}
use Rattle.law_generator.specs.Courses as spec
use Rattle.law_generator.specs.Courses.{AreJudgedWithin, IsReady}
use Rattle.law_generator.proofs.generating.send_all.Given as goal

abbrev pub invariant-loop-done : goal.invariant-loop-done
invariant-loop-done g l = record {
  entries : (g.D.Desk.state l.desk).entries ≡ (spec.course l.seed l.done).entries;
  draws : l.draws.state ≡ (spec.course l.seed l.done).state;
  ready : IsReady (standing (g.D.Desk.state l.desk));
  counted : (g.D.Desk.state l.desk).faults ≡ (g.D.Desk.state l.initial.desk).faults;
  stepped : (most : ℕ → ℕ) → AreJudgedWithin (λ d. (g.D.Desk.state d).entries) g.D.Desk.judging l.seed most
      → l.steps ≤ l.initial.steps + spec.course_cost most l.seed l.done;
  within : l.done ≤ l.count;
}
