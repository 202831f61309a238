use Rattle.std.proofs.Common.{rules, ◌≡◌, ◌∙◌, sym, ap, ℕ}
use Rattle.act_tree.specs.Arena.{above_in, below_in}
use Rattle.act_tree.specs.Siblings.{put_behind}
use Rattle.act_tree.specs.Slots.{at, provision_of, size}
use Rattle.act_tree.proofs.PartedNodes.{can_give, given_as}
use Rattle.act_tree.proofs.Settling.{listed, slot_above}
use Rattle.act_tree.proofs.arena.Arena.part.Goals as goal

pub give-requires-clause-can : goal.give-requires-clause-can
give-requires-clause-can c =
    can_give c.args.self.now c.add_alone.new.self c.args.id c.args.first_child c.in_ok-other.other c.args.moved.items _ (provision_of c.args.second) c.requires.can c.in_ok-other.ensures.added c.in_ok-other.ensures.id
    (slot_above c.args.self.now.slots.items c.args.id c.place.result c.index.result.now c.requires.can.within c.place.ensures c.index.ensures)

pub returns-clause-parted : goal.returns-clause-parted
returns-clause-parted c =
    let old = c.args.self.now in
    let u : ℕ = above_in (at old c.args.id) in
    let over : c.index.result.now.above ≡ u = slot_above old.slots.items c.args.id c.place.result c.index.result.now c.requires.can.within c.place.ensures c.index.ensures in
    let number : c.in_ok-number.number ≡ size old = search rules in
    let below : c.as_slice.result.now ≡ below_in (at old u) =
    c.as_slice.ensures ∙ sym (listed old.slots.items u c.place-2.result c.index-2.result.now c.requires.can.above (c.place-2.ensures ∙ over) c.index-2.ensures) in
    let list : c.in_ok-list.list.items ≡ put_behind c.args.id (size old) (below_in (at old u)) =
    c.in_ok-list.ensures ∙ ap (λ n. put_behind c.args.id n c.as_slice.result.now) number ∙ ap (put_behind c.args.id (size old)) below in
    record {
      added = c.add_alone.new.self;
      adds = c.in_ok-other.ensures.added;
      given = given_as c.add_alone.new.self c.give.new.self c.args.id c.args.first_child c.args.head c.args.moved.items c.in_ok-other.other (size old) c.index.result.now.above u c.in_ok-list.list.items
          (put_behind c.args.id (size old) (below_in (at old u))) c.in_ok-other.ensures.id over list c.give.ensures.given;
      numbers = c.give.ensures.numbers;
      sizes = c.give.ensures.size;
    }
