-- What a run of `report` leaves: a table of what the register that a keeper keeps knows, or what keeps it from being made.
use Rattle.std.specs.Prelude.{ℕ, ◌≡◌, Bool, true, false, List, Option, Result, Ok, Err, ◌⊎◌}
use Rattle.akn_json.specs.Printing.Refusals.{query_data}
use Rattle.law_journal.specs.Grammar.{Listing}
use Rattle.law_keeper.specs.Keepers.{Holding}
use Rattle.law_office.specs.Opening.{opened_of}
use Rattle.law_register.specs.declared.answer.queries.QueryRule.{QueryRule}
use Rattle.law_register.specs.declared.desk.damage.Damage.{Damage}
use Rattle.law_register.specs.declared.desk.open_fault.OpenFault.{OpenFault}
use Rattle.law_register.specs.declared.register.entry.Entry.{Entry}
use Rattle.law_reports.specs.Correspondences.{correspondence}
use Rattle.law_reports.specs.Dangling.{IsDanglingTable}
use Rattle.law_reports.specs.Lifecycles.{lifecycle}
use Rattle.law_reports.specs.Unapplied.{IsUnapplied}
use Rattle.lawdesk.specs.Kept.{HasKeptCause, RanKept}
use Rattle.lawdesk.specs.Telling.{told_damage}
use Rattle.dossier_text.specs.Reports.{Told, line_of}
use Rattle.dossier_text.specs.declared.report.Report.{Report}
use Rattle.lawdesk.specs.declared.report_job.ReportJob.{ReportJob}
use Rattle.lawdesk.specs.declared.report_job.ReportJob.TheVariants.{Lifecycle, Correspondence, Unapplied, Dangling}

-- a table is told, and one that a rule refuses is refused with it
abbrev pub told_table : Result (List ℕ) QueryRule → Told
told_table (Ok bytes) = record { status = 0; bytes = bytes }
told_table (Err rule) = record { status = 9; bytes = line_of (query_data rule) }

-- this is told where a job asks for a table of these entries
abbrev pub IsReport : ReportJob → List Entry → Told → Type 0
IsReport (Lifecycle work) entries told = told ≡ told_table (lifecycle entries work)
IsReport (Correspondence work first second) entries told = told ≡ told_table (correspondence entries work first second)
IsReport (Unapplied day) entries told = (told.status ≡ 0) × IsUnapplied entries day told.bytes
IsReport (Dangling day) entries told = (told.status ≡ 0) × IsDanglingTable entries day told.bytes

-- a job asks for what the register says by itself, without what an office keeps of it
abbrev pub asks_register : ReportJob → Bool
asks_register (Dangling day) = false
asks_register job = true

-- this is told where these entries were opened, or damage was found
abbrev pub IsReportOf : ReportJob → Result (List Entry) Damage → Told → Type 0
IsReportOf job (Ok entries) told = IsReport job entries told
IsReportOf job (Err damage) told = told ≡ told_damage damage

-- this is told of the list of a keeper
abbrev pub IsReported : ReportJob → Listing → Told → Type 0
IsReported job list told = IsReportOf job (opened_of list) told

-- the statuses with which a report is done: 0 its table is written, 6 what is kept is damaged, 9 a rule refuses it
abbrev pub IsReportDone : ℕ → Type 0
IsReportDone status = (status ≡ 0) ⊎ ((status ≡ 6) ⊎ (status ≡ 9))

-- the statuses of `report`: beside these, 4 and 5 for a sink and a keeper that failed, 7 for want of memory
abbrev pub IsReportStatus : ℕ → Type 0
IsReportStatus status = IsReportDone status ⊎ ((status ≡ 4) ⊎ ((status ≡ 5) ⊎ (status ≡ 7)))

-- those with which no fault of the keeper was counted
abbrev pub IsFineReport : ℕ → Type 0
IsFineReport status = (status ≡ 0) ⊎ (status ≡ 9)

abbrev pub HasReportCause : ℕ → ℕ → Result Report OpenFault → Type 0
HasReportCause before now report = HasKeptCause IsReportDone IsFineReport before now report

-- what a run of `report` leaves, of a keeper and a sink that clauses see by these functions
abbrev pub RanReport : {K W : Type 0} → (K → Holding) → (K → ℕ) → (W → Option (List ℕ)) → (W → ℕ)
    → ReportJob → K → K → W → W → ℕ → Type 0
RanReport holding faults written write_faults job keeper keeper_new sink sink_new status =
    RanKept IsReportDone IsFineReport holding faults written write_faults (IsReported job) keeper keeper_new sink sink_new status
