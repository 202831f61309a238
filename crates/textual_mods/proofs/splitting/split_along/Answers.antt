-- The copies of the num and the heading are the num and the heading.
use Rattle.std.proofs.Common.{◌≡◌, sym}
use Rattle.textual_mods.proofs.splitting.split_along.Goals as goal

pub returns-clause-outcome : goal.returns-clause-outcome
returns-clause-outcome g c =
    let heading : c.in_ok-heading.heading ≡ c.args.heading.now = rw (← c.in_ok-heading.ensures.same) at c.copy.ensures in
    rw (sym c.copy-2.ensures.value, sym heading) c.part_along.ensures.outcome

pub returns-clause-tree : goal.returns-clause-tree
returns-clause-tree g c =
    let heading : c.in_ok-heading.heading ≡ c.args.heading.now = rw (← c.in_ok-heading.ensures.same) at c.copy.ensures in
    rw (sym c.copy-2.ensures.value, sym heading) c.part_along.ensures.tree
