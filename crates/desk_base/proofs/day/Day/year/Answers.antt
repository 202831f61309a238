use Rattle.std.proofs.Common.{◌∙◌, ap, arith, ℕ, ◌+◌, pos}
use Rattle.desk_base.proofs.Calendar.{year_found}
use Rattle.desk_base.proofs.day.Day.year.Goals as goal

pub returns : goal.returns
returns c =
    c.year_in.ensures
    ∙ year_found c.from_days_since_min.result c.args.self.now (omega (arith, c.self.view_is, c.self.invariant)) (c.from_days_since_min.ensures ∙ ap (λ (n : ℕ). pos (n + 3652424)) c.self.view_is)
