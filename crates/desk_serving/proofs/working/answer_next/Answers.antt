-- One connection was answered.
use Rattle.std.proofs.Common.{◌∙◌, ◌||◌, ap}
use Rattle.desk_serving.specs.Work.{moment_of}
use Rattle.desk_serving.proofs.Works.{one_worked}
use Rattle.desk_serving.proofs.working.answer_next.Goals as goal

pub returns-clause-worked : goal.returns-clause-worked
returns-clause-worked g c =
    let connected = c.serve_connection-served.ensures in
    one_worked g.G.Conn.Link.left g.G.Conn.Link.written g.G.Conn.Link.read_faults g.G.Conn.Link.write_faults
    (record { given = c.in-Ok.conn; back = c.serve_connection-served.new.link; served = c.serve_connection-served.result })
    (g.G.Gate.tally c.args.gate.now) (g.G.Gate.tally c.accept.new.self) (g.G.Gate.tally c.done.new.self)
    (g.G.Gate.faults c.args.gate.now) (g.G.Gate.faults c.accept.new.self) (g.G.Gate.faults c.done.new.self)
    (moment_of c.args.hand.now.pass) (moment_of c.serve_connection-served.new.pass)
    c.args.hand.now.wanting c.either-hand.result c.args.hand.now.failed c.requires.whole
    c.in-Ok.ensures.given c.done.ensures.taken c.in-Ok.ensures.cause c.done.ensures.faults
    (record {
      unused = c.in-Ok.ensures.unused;
      answered = connected.answered;
      legal = connected.legal;
      reads = connected.reads;
      writes = connected.writes;
      made = connected.made;
    })
    (c.either-hand.ensures ∙ ap (λ z. c.args.hand.now.wanting || z) c.is_wanting.ensures)
