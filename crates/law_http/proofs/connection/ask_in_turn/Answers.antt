use Rattle.turn_lock.specs.Passes.{made_by, seen_by}
use Rattle.law_http.specs.Connections.{view_of}
use Rattle.law_http.proofs.InTurn.{nothing_answered, told_answered}
use Rattle.law_http.proofs.ToldWithin.{room_told}
use Rattle.law_http.proofs.connection.ask_in_turn.Goals as goal

pub returns-in_default-clause-answers : goal.returns-in_default-clause-answers
returns-in_default-clause-answers g c = λ request closes_is asks_is. nothing_answered request (seen_by c.args.pass.now) (made_by c.args.pass.now)

pub response_of-requires : goal.response_of-requires
response_of-requires g c =
    let turn = c.tell_in_turn-told.ensures.turn in
    room_told g.D.Desk.state g.D.Desk.crashes g.D.Desk.past c.args.closes c.args.asking turn.found turn.left c.tell_in_turn-told.result _
    turn.tells c.in-Ok.ensures

pub returns-clause-answers : goal.returns-clause-answers
returns-clause-answers g c = λ request closes_is asks_is.
    told_answered g.D.Desk.state g.D.Desk.crashes g.D.Desk.past g.D.Held.history g.met.D.Desk.history_is
    request c.args.closes c.args.asking (view_of c.args.pass.now) (view_of c.tell_in_turn-told.new.pass) c.tell_in_turn-told.result c.response_of.result closes_is asks_is
    c.tell_in_turn-told.ensures.turn c.response_of.ensures
