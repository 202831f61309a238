use Rattle.std.proofs.Common.{ap, subst, []}
use Rattle.act_tree.specs.Provisions.{Own}
use Rattle.act_tree.specs.Arena.{provision_in, below_in}
use Rattle.act_tree.specs.Moved.{IsFilled}
use Rattle.act_tree.specs.Slots.{at}
use Rattle.act_tree.proofs.Settling.{relisted_left}
use Rattle.act_tree.proofs.arena.Arena.take_all.Goals as goal

pub returns-clause-relisted : goal.returns-clause-relisted
returns-clause-relisted c =
    let old = at c.args.self.now in
    let P : Own → Type 0 = λ o. IsFilled (at c.release.new.self) (at c.empty.new.self) c.args.id o [] in
    relisted_left old (at c.release.new.self) (at c.empty.new.self) c.args.id (provision_in (old c.args.id)).own (below_in (old c.args.id)) [] c.release.ensures.raised c.requires.apart
    (subst P (ap {B = Own} (λ o. (provision_in o).own) (c.release.ensures.raised.others c.args.id c.requires.apart)) c.empty.ensures.filled)
