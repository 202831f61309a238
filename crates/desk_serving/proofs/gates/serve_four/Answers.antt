-- The history in the end is that of the desk that was closed.
use Rattle.std.proofs.Common.{◌∙◌, ap, [], ◌∷◌}
use Rattle.turn_lock.specs.Passes.{made_by, seen_by, start_of}
use Rattle.desk_serving.proofs.Together.{have_served, none_have_served}
use Rattle.desk_serving.proofs.gates.serve_four.Goals as goal

pub returns-in-Ok-clause-served : goal.returns-in-Ok-clause-served
returns-in-Ok-clause-served g c =
    let rest = c.serve_in_turn-outcome.ensures.rest in
    have_served g.G.Conn.Link.left g.G.Conn.Link.written g.G.Conn.Link.read_faults g.G.Conn.Link.write_faults g.G.Gate.tally g.G.Gate.faults
    c.args.job.connections (g.D.Held.history c.args.desk) (seen_by c.in-Ok.pass) (seen_by c.serve_in_turn-outcome.new.pass)
    (g.D.Held.history c.close-desk.result) _ _ (made_by c.serve_in_turn-outcome.new.pass) (start_of c.serve_in_turn-outcome.new.pass) _ _
    c.serve_in_turn-outcome.ensures.worked c.in-Ok.ensures.seen rest.begins c.close-desk.ensures.seen c.close-desk.ensures.made
    (rest.began.1 ∙ c.in-Ok.ensures.start) c.know_desk-in-Ok.ensures

pub returns-in-Err-clause-served : goal.returns-in-Err-clause-served
returns-in-Err-clause-served g c =
    none_have_served g.G.Conn.Link.left g.G.Conn.Link.written g.G.Conn.Link.read_faults g.G.Conn.Link.write_faults g.G.Gate.tally g.G.Gate.faults
    c.args.job.connections (g.D.Held.history c.args.desk) (g.D.Held.history c.in-Err.field-0.value)
    (c.args.a.now ∷ c.args.b.now ∷ c.args.c.now ∷ c.args.d.now ∷ []) (ap g.D.Held.history c.in-Err.ensures.refused) c.know_desk.ensures
