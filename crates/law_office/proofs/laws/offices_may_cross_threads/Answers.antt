use mir.Syntax.{named}
use denote.Exit.{no}
use denote.Param.{param}
use denote.Param.Send.{arg_send, param_send}
use denote.Ref.{NamedLft}
use Rattle.law_office.proofs.Sends.{office_send}
use Rattle.law_office.proofs.laws.offices_may_cross_threads.Goals as goal

pub crossed-requires-send-T : goal.crossed-requires-send-T
crossed-requires-send-T g c κs outlive =
    let κ : NamedLft = record { mir = named 1; lft = κs.1.0 } in
    let ℓ : NamedLft = record { mir = named 2; lft = κs.1.1.0 } in
    param_send _ _ (arg_send _ no _ (office_send κ ℓ (param 0 g.row.K) (param 1 g.row.C) g.K.Keeper g.C.Clock c.type_bounds.send-K c.type_bounds.send-C))
