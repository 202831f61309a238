-- There was no memory for the hands.
use Rattle.std.proofs.Common.{◌∙◌, [], ◌∷◌}
use Rattle.turn_lock.specs.Passes.{made_by, seen_by}
use Rattle.desk_serving.proofs.Together.{none_served_now}
use Rattle.desk_serving.proofs.gates.serve_in_turn.Goals as goal

pub returns-in-Err-clause-worked : goal.returns-in-Err-clause-worked
returns-in-Err-clause-worked g c =
    let rest = c.in-Err.ensures.err in
    none_served_now g.G.Conn.Link.left g.G.Conn.Link.written g.G.Conn.Link.read_faults g.G.Conn.Link.write_faults g.G.Gate.tally g.G.Gate.faults
    c.args.job.connections (seen_by c.args.pass.now) (seen_by c.split_four.new.pass)
    (c.args.a.now ∷ c.args.b.now ∷ c.args.c.now ∷ c.args.d.now ∷ []) (made_by c.split_four.new.pass) rest.begins
    (rest.made ∙ c.requires.none_made)
