-- What the desk told, and what is said of it.
use Rattle.law_http.proofs.ToldWithin.{memory_within, room_told, stays_itself, told_within}
use Rattle.law_http.proofs.responding.answered.Goals as goal

pub returns-in_default : goal.returns-in_default
returns-in_default g c =
    memory_within g.D.Desk.state g.D.Desk.crashes g.D.Desk.past g.D.Desk.judging c.args.closes c.args.asking c.args.desk.now c.args.steps.now
    (stays_itself g.D.Desk.state g.D.Desk.crashes g.D.Desk.past g.met.D.Desk.are_crashes c.args.desk.now)

pub response_of-requires : goal.response_of-requires
response_of-requires g c =
    room_told g.D.Desk.state g.D.Desk.crashes g.D.Desk.past c.args.closes c.args.asking c.args.desk.now c.tell-told.new.desk c.tell-told.result _
    c.tell-told.ensures.tells c.in-Ok.ensures

pub returns : goal.returns
returns g c =
    told_within g.D.Desk.state g.D.Desk.crashes g.D.Desk.past g.D.Desk.judging c.args.closes c.args.asking c.args.desk.now c.tell-told.new.desk c.tell-told.result
    c.response_of.result c.args.steps.now c.tell-told.new.steps c.tell-told.ensures c.response_of.ensures
