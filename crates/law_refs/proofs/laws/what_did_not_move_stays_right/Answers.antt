use Rattle.law_refs.proofs.Sharing.{right_but}
use Rattle.law_refs.proofs.laws.what_did_not_move_stays_right.Goals as goal

pub returns : goal.returns
returns c = right_but
