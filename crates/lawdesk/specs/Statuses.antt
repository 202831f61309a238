-- The statuses that the program ends with.
use Rattle.std.specs.Prelude.{ℕ, ◌≡◌, ◌⊎◌}
use Rattle.lawdesk.specs.Batching.{IsBatchStatus}
use Rattle.lawdesk.specs.Checking.{IsCheckStatus}
use Rattle.lawdesk.specs.Exporting.{IsExportStatus}
use Rattle.lawdesk.specs.Following.{IsFollowStatus}
use Rattle.lawdesk.specs.Generating.{IsGenerateStatus}
use Rattle.dossier_text.specs.Runs.{IsTextStatus}
use Rattle.lawdesk.specs.Serving.{IsServeStatus}
use Rattle.lawdesk.specs.Reporting.{IsReportStatus}

-- those of the forms of the command line, and 2 for words that are no form
abbrev pub IsStatus : ℕ → Type 0
IsStatus status = (status ≡ 2) ⊎ (IsTextStatus status ⊎ (IsCheckStatus status ⊎ (IsBatchStatus status
    ⊎ (IsReportStatus status ⊎ (IsGenerateStatus status ⊎ (IsExportStatus status ⊎ (IsFollowStatus status
    ⊎ IsServeStatus status)))))))
