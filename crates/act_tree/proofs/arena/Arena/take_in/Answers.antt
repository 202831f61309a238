use Rattle.std.proofs.Common.{sym, subst, ℕ, ◌<◌}
use Rattle.std.specs.List.{All}
use Rattle.act_tree.specs.Arena.{provision_in}
use Rattle.act_tree.specs.Slots.{at}
use Rattle.act_tree.proofs.Settling.{relisted_in}
use Rattle.act_tree.proofs.arena.Arena.take_in.Goals as goal

pub raise-requires-clause-come : goal.raise-requires-clause-come
raise-requires-clause-come c = let P : ℕ → Type 0 = λ n. All (λ k. k < n) c.args.come.now in subst P (sym c.relist.ensures.size) c.requires.come

pub returns-clause-relisted : goal.returns-clause-relisted
returns-clause-relisted c =
    relisted_in (at c.args.self.now) (at c.relist.new.self) (at c.raise.new.self) c.args.id (provision_in (at c.args.self.now c.args.id)).own c.args.come.now c.args.list.items
    c.relist.ensures.filled c.requires.apart c.raise.ensures.raised
