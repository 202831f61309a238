-- A text that is told ends with none of the statuses of one that was not.
use Rattle.std.proofs.Common.{◌∙◌, arith, rules}
use Rattle.dossier_text.specs.Runs.{IsDone}
use Rattle.dossier_text.proofs.Statuses.{done}
use Rattle.dossier_text.proofs.texting.text.Goals as goal

pub returns-in-Ok-clause-status : goal.returns-in-Ok-clause-status
returns-in-Ok-clause-status g c =
    let is_done : IsDone _ = done c.args.job _ _ _ _ _ c.in-Ok.ensures.told in search rules

pub returns-in-Ok-clause-source : goal.returns-in-Ok-clause-source
returns-in-Ok-clause-source g c =
    let is_done : IsDone _ = done c.args.job _ _ _ _ _ c.in-Ok.ensures.told in λ three. absurd (grind arith)

pub returns-in-Ok-clause-sink : goal.returns-in-Ok-clause-sink
returns-in-Ok-clause-sink g c =
    let is_done : IsDone _ = done c.args.job _ _ _ _ _ c.in-Ok.ensures.told in λ four. absurd (grind arith)

pub returns-in-Ok-clause-unwritten : goal.returns-in-Ok-clause-unwritten
returns-in-Ok-clause-unwritten g c =
    let is_done : IsDone _ = done c.args.job _ _ _ _ _ c.in-Ok.ensures.told in λ stopped. absurd (grind arith)
