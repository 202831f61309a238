-- An office may cross threads where its keeper and its clock may.
use mir.Syntax.{named}
use denote.Exit.{no}
use denote.Param.{param}
use denote.Param.Send.{arg_send, param_send}
use denote.Ref.{NamedLft}
use Rattle.law_office.proofs.Sends.{office_send}
use Rattle.serving_trial.proofs.serving.serve_book.Goals as goal

pub serve_gates-desk-requires-send-D : goal.serve_gates-desk-requires-send-D
serve_gates-desk-requires-send-D g c κs outlive =
    let κ : NamedLft = record { mir = named 6; lft = κs.1.1.1.1.1.1.0 } in
    let ℓ : NamedLft = record { mir = named 7; lft = κs.1.1.1.1.1.1.1.0 } in
    param_send _ _ (arg_send _ no _ (office_send κ ℓ (param 1 g.row.K) (param 2 g.row.C) g.K.Keeper g.C.Clock c.type_bounds.send-K c.type_bounds.send-C))
