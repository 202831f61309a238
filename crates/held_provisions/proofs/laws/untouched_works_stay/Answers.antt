use Rattle.held_provisions.proofs.Stays.{untouched_stay}
use Rattle.held_provisions.proofs.laws.untouched_works_stay.Goals as goal

pub returns : goal.returns
returns c = λ entries entry work kept legal right apart none. untouched_stay entries entry legal work kept apart none right
