-- What is kept so far is right and stands in line, the rows so far and those of what is left are all, and what is left costs what is left
-- of all.
use Rattle.std.proofs.Common.{◌≡◌, ◌++◌, ◌+◌, ◌≤◌, drop, take}
use Rattle.std.specs.List.{sum_by}
use Rattle.std.specs.Map.{keys_of}
use Rattle.law_register.specs.Answer.Renewing.{costs_from}
use Rattle.law_register.specs.Provisions.Carrying.{held_now}
use Rattle.law_refs.specs.Handing.{rows_opened}
use Rattle.law_office.specs.Tables.{kept_in}
use Rattle.law_office.proofs.Adding.{AreSoFar}
use Rattle.law_office.proofs.InLine.{works_of}
use Rattle.law_office.proofs.tabling.add_all.Given as goal

abbrev pub invariant-loop-dated : goal.invariant-loop-dated
invariant-loop-dated g l = record {
  kept : AreSoFar l.register.entries (kept_in l.tables) (works_of (drop l.dated-index l.line));
  keys : keys_of l.tables.entries ≡ works_of (take l.dated-index l.line);
  rows : l.rows ++ rows_opened l.register.entries (works_of (drop l.dated-index l.line)) ≡ rows_opened l.register.entries (works_of l.line);
  steps : l.steps + sum_by (λ work. costs_from (held_now l.register.entries work) 0) (works_of (drop l.dated-index l.line))
      ≤ l.initial.steps + sum_by (λ work. costs_from (held_now l.register.entries work) 0) (works_of l.line);
}
