use Rattle.viewpoints.proofs.Staying.{right_stays}
use Rattle.viewpoints.proofs.laws.right_tables_stay_right.Goals as goal

pub returns : goal.returns
returns g c = λ entries more right. right_stays g.T.Dated.version_on c.args._past.now entries more right
