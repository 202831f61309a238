-- With each line the table that is kept stays right.
use Rattle.table_trial.specs.Keeping.{Holds}
use Rattle.table_trial.proofs.tell_lines.Given as goal

abbrev pub invariant-loop-line : goal.invariant-loop-line
invariant-loop-line g l = Holds l.register.entries l.kept
