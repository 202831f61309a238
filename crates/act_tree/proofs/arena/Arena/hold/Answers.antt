use Rattle.std.proofs.Common.{sym, ap, subst, ℕ, ◌<◌, List}
use Rattle.std.specs.List.{All}
use Rattle.act_tree.specs.Arena.{provision_in, below_in}
use Rattle.act_tree.specs.Relisted.{IsRaised}
use Rattle.act_tree.specs.Slots.{at, size}
use Rattle.act_tree.proofs.Settling.{relisted_in}
use Rattle.act_tree.proofs.arena.Arena.hold.Goals as goal

pub settle-requires-clause-within : goal.settle-requires-clause-within
settle-requires-clause-within c = let P : ℕ → Type 0 = λ n. c.args.id < n in subst P (sym c.relist.ensures.size) c.requires.within

pub settle-requires-clause-children : goal.settle-requires-clause-children
settle-requires-clause-children c =
    let P : List ℕ → Type 0 = λ ks. All (λ k. k < size c.relist.new.self) ks in
    let Q : ℕ → Type 0 = λ n. All (λ k. k < n) c.args.below.items in
    subst P (sym (ap below_in c.relist.ensures.filled.here)) (subst Q (sym c.relist.ensures.size) c.requires.come)

pub returns-clause-relisted : goal.returns-clause-relisted
returns-clause-relisted c =
    let P : List ℕ → Type 0 = λ ks. IsRaised (at c.relist.new.self) (at c.settle.new.self) ks (λ k. c.args.id) in
    relisted_in (at c.args.self.now) (at c.relist.new.self) (at c.settle.new.self) c.args.id (provision_in (at c.args.self.now c.args.id)).own c.args.below.items c.args.below.items
    c.relist.ensures.filled c.requires.apart (subst P (ap below_in c.relist.ensures.filled.here) c.settle.ensures.raised)
