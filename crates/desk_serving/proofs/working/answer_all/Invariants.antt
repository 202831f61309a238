-- So many connections were answered, and the gate goes on.
use Rattle.std.proofs.Common.{◌≡◌, true, false}
use Rattle.turn_lock.specs.Passes.{seen_by}
use Rattle.law_http.specs.Connections.{StaysPass}
use Rattle.law_register.specs.Desk.History.{entries_of}
use Rattle.law_register.specs.Register.Verdicts.{is_legal}
use Rattle.desk_serving.specs.Work.{HasWorked, MayServe, moment_of}
use Rattle.desk_serving.proofs.working.answer_all.Given as goal

abbrev pub invariant-loop-done : goal.invariant-loop-done
invariant-loop-done g l = record {
  pass : StaysPass l.turns l.fn.hand.pass l.hand.pass;
  legal : is_legal (entries_of (seen_by l.hand.pass)) ≡ true;
  ready : MayServe g.G.Gate.listens g.G.Gate.tally l.gate;
  whole : l.hand.failed ≡ false;
  worked : HasWorked g.G.Conn.Link.left g.G.Conn.Link.written g.G.Conn.Link.read_faults g.G.Conn.Link.write_faults l.done
      (g.G.Gate.tally l.fn.gate) (g.G.Gate.tally l.gate) (g.G.Gate.faults l.fn.gate) (g.G.Gate.faults l.gate)
      (moment_of l.fn.hand.pass) (moment_of l.hand.pass) l.fn.hand.wanting false l.hand.wanting;
}
