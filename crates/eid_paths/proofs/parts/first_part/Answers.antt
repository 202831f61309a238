use Rattle.std.proofs.Common.{arith}
use Rattle.eid_paths.proofs.Cuts.{one_part, first_at}
use Rattle.eid_paths.proofs.parts.first_part.Goals as goal

pub returns-in-Some-clause-parts : goal.returns-in-Some-clause-parts
returns-in-Some-clause-parts c =
    let cut = c.in-Some.ensures.cases in
    first_at c.args.text.now c.in-Some.part.now c.in-Some.rest.now cut.0 cut.1 cut.2.0 cut.2.1.split cut.3 cut.4 cut.6

pub returns-in-None-clause-parts : goal.returns-in-None-clause-parts
returns-in-None-clause-parts c = one_part c.args.text.now (λ i below. c.in-None.ensures.cases i (omega arith))
