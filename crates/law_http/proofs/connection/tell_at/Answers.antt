use Rattle.law_http.proofs.InTurn.{tells_grow, tells_keep_origin}
use Rattle.law_http.proofs.connection.tell_at.Goals as goal

pub returns-clause-appends : goal.returns-clause-appends
returns-clause-appends g c =
    tells_grow g.D.Desk.state g.D.Desk.crashes g.D.Desk.past g.D.Held.history g.met.D.Desk.history_is c.args.asking c.args.desk.now c.tell-told.new.desk
    c.tell-told.result c.tell-told.ensures.tells

pub returns-clause-origin : goal.returns-clause-origin
returns-clause-origin g c =
    tells_keep_origin g.D.Desk.state g.D.Desk.crashes g.D.Desk.past g.D.Held.origin g.met.D.Desk.origin_is c.args.asking c.args.desk.now c.tell-told.new.desk
    c.tell-told.result c.tell-told.ensures.tells
