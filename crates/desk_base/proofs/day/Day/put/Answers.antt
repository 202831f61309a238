use Rattle.std.proofs.Common.{◌∙◌, ap, arith, ℕ, ◌+◌, pos}
use Rattle.desk_base.proofs.Calendar.{text_found}
use Rattle.desk_base.proofs.day.Day.put.Goals as goal

pub returns : goal.returns
returns c =
    c.date_bytes.ensures
    ∙ text_found c.from_days_since_min.result c.args.self.now (omega (arith, c.self.view_is, c.self.invariant)) (c.from_days_since_min.ensures ∙ ap (λ (n : ℕ). pos (n + 3652424)) c.self.view_is)
