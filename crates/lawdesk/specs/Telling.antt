-- How what a run tells is written: a status and bytes, of which the bytes are written and the status is the run's. Each form of the
-- command line says by this what it tells.
use Rattle.std.specs.Prelude.{ℕ, ◌≡◌, ◌⊎◌, List, Option, Result, Ok, Err}
use Rattle.akn_json.specs.Printing.Damages.{damage_data}
use Rattle.desk_base.specs.Streams.{AppendsFront, risen}
use Rattle.dossier_text.specs.Reports.{Told, line_of}
use Rattle.dossier_text.specs.Runs.{IsWritten}
use Rattle.dossier_text.specs.Views.{report_view}
use Rattle.dossier_text.specs.declared.report.Report.{Report}
use Rattle.law_register.specs.declared.desk.damage.Damage.{Damage}
use Rattle.law_register.specs.declared.desk.open_fault.OpenFault.{OpenFault}
use Rattle.law_register.specs.declared.desk.open_fault.OpenFault.TheVariants as fails

-- what keeps a register from being opened
abbrev pub told_damage : Damage → Told
told_damage damage = record { status = 6; bytes = line_of (damage_data damage) }

-- a sink before and after, which clauses see by these functions, and the status of the run
module _ {W : Type 0} (written : W → Option (List ℕ)) (faults : W → ℕ) (sink sink_new : W) (status : ℕ) where
  -- the run ends so, and nothing was written
  pub record EndsWith (number : ℕ) : Type 0 where
    pub status_is : status ≡ number
    pub same : sink_new ≡ sink

  -- what is told was written, and nothing else
  pub record IsToldWhole (told : Told) : Type 0 where
    pub status_is : status ≡ told.status
    pub bytes : IsWritten (written sink) (written sink_new) told.bytes
    pub stays : faults sink_new ≡ faults sink

  -- the sink failed at it: a front part of what is told was written, and nothing else
  pub record IsToldInPart (told : Told) : Type 0 where
    pub status_is : status ≡ 4
    pub bytes : AppendsFront (written sink) (written sink_new) told.bytes
    pub rises : faults sink_new ≡ risen (faults sink)

  -- one of both, or there was not enough memory to make what is told
  abbrev pub Tells : Told → Type 0
  Tells told = IsToldWhole told ⊎ (IsToldInPart told ⊎ EndsWith 7)

  -- what keeps the register from being opened is told: what is damaged, by its line
  abbrev pub TellsUnopened : OpenFault → Type 0
  TellsUnopened (fails.Damaged damage) = Tells (told_damage damage)
  TellsUnopened fails.Failed = EndsWith 5
  TellsUnopened fails.Memory = EndsWith 7

  -- what is reported of what is kept is told, or why there is no report
  abbrev pub TellsReport : Result Report OpenFault → Type 0
  TellsReport (Ok report) = Tells (report_view report)
  TellsReport (Err fault) = TellsUnopened fault
