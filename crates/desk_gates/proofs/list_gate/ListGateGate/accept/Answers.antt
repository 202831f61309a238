use Rattle.std.proofs.Common.{rules}
use Rattle.desk_gates.specs.Tallies.{IsUnused}
use Rattle.desk_gates.proofs.Ahead.{others_unused}
use Rattle.desk_gates.proofs.list_gate.ListGateGate.accept.Goals as goal

pub invariant_of-self-in-Some : goal.invariant_of-self-in-Some
invariant_of-self-in-Some g c =
    let IsOne = λ (link : g.row.L.Denot). IsUnused (g.L.Link.written link) (g.L.Link.read_faults link) (g.L.Link.write_faults link) in
    (others_unused IsOne c.self.inside.ahead.items _ (search rules) c.self.invariant.0, search rules, search rules)
