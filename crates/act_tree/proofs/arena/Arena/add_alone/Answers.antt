use Rattle.std.proofs.Common.{◌≡◌, ◌∙◌, ap, ◌+◌, [], ◌∷◌, length, length-append, arith}
use Rattle.act_tree.specs.Slots.{size}
use Rattle.act_tree.proofs.Growing.{added_alone}
use Rattle.act_tree.proofs.arena.Arena.add_alone.Goals as goal

pub set_above-requires-clause-within : goal.set_above-requires-clause-within
set_above-requires-clause-within c =
    let grown : size c.add.new.self ≡ size c.args.self.now + 1 = ap length c.in_ok-id.ensures.slots ∙ length-append c.args.self.now.slots.items (c.args.slot ∷ []) in
    let place : c.in_ok-id.id ≡ size c.args.self.now = c.in_ok-id.ensures.id in
    omega arith

pub returns-clause-added : goal.returns-clause-added
returns-clause-added c =
    added_alone c.args.self.now c.add.new.self c.set_above.new.self c.in_ok-id.id c.args.slot c.in_ok-id.ensures.id c.in_ok-id.ensures.slots c.in_ok-id.ensures.numbers c.requires.bare c.in_ok-id.ensures.fits c.in_ok-id.ensures.own
    c.set_above.ensures.numbers c.set_above.ensures.size c.set_above.ensures.here c.set_above.ensures.others
