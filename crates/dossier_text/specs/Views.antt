-- A report, as a clause sees it.
use Rattle.dossier_text.specs.Reports.{Told}
use Rattle.dossier_text.specs.declared.report.Report.{Report}

-- what a report tells
abbrev pub report_view : Report → Told
report_view report = record { status = report.status; bytes = report.bytes.items }
