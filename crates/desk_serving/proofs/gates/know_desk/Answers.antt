-- The entries of a desk are those of its history.
use Rattle.std.proofs.Common.{◌∙◌, ap, sym}
use Rattle.law_http.proofs.Histories.{entries_from}
use Rattle.law_register.specs.Desk.History.{entries_of}
use Rattle.law_register.specs.Register.Verdicts.{is_legal}
use Rattle.desk_serving.proofs.gates.know_desk.Goals as goal

pub returns : goal.returns
returns g c =
    let state = g.D.Desk.state c.args.desk.now in
    ap is_legal (ap entries_of (g.met.D.Desk.history_is c.args.desk.now) ∙ (entries_from 0 state.entries state.marks
    ∙ sym c.register.ensures.entries)) ∙ c.entries_are_legal.ensures
