use Rattle.std.proofs.Common.{◌∙◌, sym, subst, ℕ, ◌<◌, take, List, [], ◌∷◌, Option}
use Rattle.std.specs.List.{All}
use Rattle.act_tree.specs.Arena.{Laid, provision_in, below_in}
use Rattle.act_tree.specs.Moved.{IsFilled}
use Rattle.act_tree.specs.Relisted.{IsRaised}
use Rattle.act_tree.specs.Slots.{at}
use Rattle.act_tree.proofs.Settling.{relisted_left, relisted_in, raised_one}
use Rattle.act_tree.proofs.Times.{not_this}
use Rattle.act_tree.proofs.arena.Arena.give.Goals as goal

pub hold-requires-clause-within : goal.hold-requires-clause-within
hold-requires-clause-within c = let P : ℕ → Type 0 = λ n. c.args.other < n in subst P (sym (c.keep_first.ensures.size ∙ c.release.ensures.size)) c.requires.can.new

pub hold-requires-clause-come : goal.hold-requires-clause-come
hold-requires-clause-come c = let P : ℕ → Type 0 = λ n. All (λ k. k < n) c.args.moved.items in subst P (sym (c.keep_first.ensures.size ∙ c.release.ensures.size)) c.requires.can.movable

pub hold-requires-clause-apart : goal.hold-requires-clause-apart
hold-requires-clause-apart c = c.requires.can.not_moved

pub returns-clause-given : goal.returns-clause-given
returns-clause-given c =
    let old = at c.args.self.now in
    let i : ℕ = c.args.id in
    let Q : List ℕ → Type 0 = λ ks. IsRaised old (at c.release.new.self) ks (λ k. k) in
    let raised : IsRaised old (at c.release.new.self) c.args.moved.items (λ k. k) = subst Q (sym c.requires.can.same) c.release.ensures.raised in
    let P : Option Laid → Type 0 = λ o. IsFilled (at c.release.new.self) (at c.keep_first.new.self) i (record (provision_in o).own { content = c.args.head }) (take c.args.first_child (below_in o)) in
    record {
      kept = c.keep_first.new.self;
      had = c.hold.new.self;
      cut = relisted_left old (at c.release.new.self) (at c.keep_first.new.self) i (record (provision_in (old i)).own { content = c.args.head }) c.args.moved.items (take c.args.first_child (below_in (old i))) raised c.requires.can.not_own
          (subst P (raised.others i c.requires.can.not_own) c.keep_first.ensures.filled);
      given = c.hold.ensures.relisted;
      listed = relisted_in (at c.hold.new.self) (at c.relist.new.self) (at c.set_above.new.self) c.args.above (provision_in (at c.hold.new.self c.args.above)).own (c.args.other ∷ []) c.args.list.items c.relist.ensures.filled
          (not_this c.args.other c.args.above c.requires.can.other) (raised_one (at c.relist.new.self) (at c.set_above.new.self) c.args.other c.args.above c.set_above.ensures.here c.set_above.ensures.others);
    }
