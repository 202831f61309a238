use Rattle.source_provisions.proofs.LeftOut.{orders_leave_out}
use Rattle.source_provisions.proofs.laws.orders_leave_out_what_is_not_borne.Goals as goal

pub returns : goal.returns
returns c = orders_leave_out
