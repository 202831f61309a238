use Rattle.held_provisions.proofs.Touched.{right_until_touched}
use Rattle.held_provisions.proofs.laws.tables_are_right_until_touched.Goals as goal

pub returns : goal.returns
returns c = right_until_touched
