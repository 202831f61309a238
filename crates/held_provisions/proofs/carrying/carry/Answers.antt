use Rattle.std.proofs.Common.{◌∙◌, sym}
use Rattle.std.proofs.lemmas.Result.{IfOk-weaker}
use Rattle.held_provisions.proofs.CarriedAlike.{carried_by_sources}
use Rattle.held_provisions.proofs.carrying.carry.Goals as goal

pub returns-then-not-names_any : goal.returns-then-not-names_any
returns-then-not-names_any g c = λ line is are.
    sym (c.unnamed_provisions_carry_nothing.ensures line c.args.known (sym c.names_any.ensures ∙ c.if-not-names_any.true) ∙ c.requires)

pub returns : goal.returns
returns g c = λ line is are.
    IfOk-weaker c.copy_carrying-carried.result _ _
    (λ copy e. e ∙ carried_by_sources line is c.args.known (g.S.Sources.kept_of c.args.sources.now) are)
    c.copy_carrying-carried.ensures
