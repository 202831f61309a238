use Rattle.source_provisions.proofs.BeforeTouched.{nothing_before}
use Rattle.source_provisions.proofs.laws.works_change_from_their_touched_days.Goals as goal

pub returns : goal.returns
returns c = λ entries entry work reading day old new legal was is before.
    let agree = nothing_before entries entry legal reading day work old new was is before in record { orders = agree.0; bodies = agree.1; versions = agree.2 }
