-- Why a job was not done.
use Rattle.std.specs.Prelude.{ℕ}
use Rattle.dossier_text.specs.declared.stop.Stop.{Stop}
use Rattle.dossier_text.specs.declared.stop.Stop.TheVariants as stops

-- the status that says why
abbrev pub stop_status : Stop → ℕ
stop_status stops.Source = 3
stop_status stops.Sink = 4
stop_status stops.Memory = 7
