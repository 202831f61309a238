-- The count of faults is that of the opening.
use Rattle.lawdesk.proofs.reporting.register_kept.Goals as goal

pub returns-clause-cause : goal.returns-clause-cause
returns-clause-cause g c = c.report_opened-report.ensures.cause _ _ c.open-opened.ensures.cause

pub returns-clause-stays : goal.returns-clause-stays
returns-clause-stays g c = λ told.
    c.report_opened-report.ensures.stays _ _ c.open-opened.ensures.cause (c.open-opened.ensures.stays told)
