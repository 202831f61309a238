use Rattle.std.proofs.Common.{◌∙◌, sym}
use Rattle.desk_trial.proofs.Accepted.{accepted_with}
use Rattle.desk_trial.proofs.touching.law_accepted.Goals as goal

pub returns-in-Ok-Accepted : goal.returns-in-Ok-Accepted
returns-in-Ok-Accepted c = accepted_with _ c.in-Ok-Accepted.law c.in-Ok-Accepted.field-0-1 (sym c.in-Ok-Accepted.ensures ∙ c.in-Ok-Accepted.field-0-is)
