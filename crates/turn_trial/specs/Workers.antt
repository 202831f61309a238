-- What is known of callers with passes of one lock.
use Rattle.std.specs.Prelude.{List, length}
use Rattle.std.specs.List.{AllWithin}
use Rattle.atomic_table.specs.Seated.{TableId}
use Rattle.turn_lock.specs.Passes.{IsPassOf}
use Rattle.turn_trial.specs.declared.worker.Worker.{Worker}

-- the pass of each is one of these turns
abbrev pub AllOf : TableId → List Worker → Type 0
AllOf turns workers = AllWithin (λ (worker : Worker). IsPassOf turns worker.pass) workers 0 (length workers)
