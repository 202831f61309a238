use Rattle.desk_gates.specs.MemoryGates.{new_gate}
use Rattle.desk_gates.proofs.Orders.{all_kept}
use Rattle.desk_gates.proofs.laws.links_are_given_in_order.Goals as goal

pub returns : goal.returns
returns g c = λ links failing calls. all_kept calls (new_gate links failing)
