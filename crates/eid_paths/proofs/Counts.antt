-- How many levels a text spells.
use Rattle.std.proofs.Common.{ℕ, ◌+◌, List, length}
use Rattle.std.specs.Prelude.{Result, Ok, Err}
use Rattle.eid_paths.specs.declared.level.Level.{Level}
use Rattle.eid_paths.specs.declared.eid_fault.EidFault.{EidFault}

-- so many levels, and those of a reading; or its fault
abbrev pub counted : ℕ → Result (List Level) EidFault → Result ℕ EidFault
counted n (Ok levels) = Ok (n + length levels)
counted n (Err fault) = Err fault
