use Rattle.law_refs.proofs.ByRegister.{lists_what_dangles}
use Rattle.law_refs.proofs.laws.what_dangles_is_listed.Goals as goal

pub returns : goal.returns
returns c = lists_what_dangles c.args.index.now c.works_ascend.ensures
