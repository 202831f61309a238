-- What the four workers did, and the pass that took their hands in.
use Rattle.std.proofs.Common.{◌≡◌, ◌+◌, arith}
use Rattle.turn_lock.specs.Passes.{made_by, seen_by}
use Rattle.desk_serving.proofs.Together.{four_worked}
use Rattle.desk_serving.proofs.gates.serve_by_hands.Goals as goal

pub returns-clause-worked : goal.returns-clause-worked
returns-clause-worked g c =
    four_worked g.G.Conn.Link.left g.G.Conn.Link.written g.G.Conn.Link.read_faults g.G.Conn.Link.write_faults g.G.Gate.tally g.G.Gate.faults
    g.G.Gate.listens c.args.turns.now c.args.job.connections (seen_by c.args.pass.now) (seen_by c.close_hands.new.pass) c.close_hands.result.wanting
    c.args.a.now c.args.b.now c.args.c.now c.args.d.now
    c.listen.new.gate c.listen-2.new.gate c.listen-3.new.gate c.listen-4.new.gate
    c.attend_four.new.a c.attend_four.new.b c.attend_four.new.c c.attend_four.new.d
    c.args.hands.first c.args.hands.second c.args.hands.third c.args.hands.fourth
    c.listen.new.hand c.listen-2.new.hand c.listen-3.new.hand c.listen-4.new.hand
    c.attend_four.new.p c.attend_four.new.q c.attend_four.new.r c.attend_four.new.s
    c.close_hands.result.failed (made_by c.close_hands.new.pass)
    c.requires.hands c.listen.ensures c.listen-2.ensures c.listen-3.ensures c.listen-4.ensures
    c.attend_four.ensures.first c.attend_four.ensures.second c.attend_four.ensures.third c.attend_four.ensures.fourth
    c.close_hands.ensures.joined.begins_all c.close_hands.ensures.failed c.close_hands.ensures.wanting
    (omega (arith, c.close_hands.ensures.joined.made, c.requires.none_made))
