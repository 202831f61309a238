use Rattle.std.specs.Prelude.{option_map}
use Rattle.act_tree.specs.Branches.{branches_of}
use Rattle.act_tree.specs.Eids.{all_enacted}
use Rattle.act_tree.specs.Slots.{provision_of}
use Rattle.act_tree.proofs.Building.{built}
use Rattle.act_tree.proofs.laying.plant.Goals as goal

pub returns-clause-whole : goal.returns-clause-whole
returns-clause-whole c =
    (built c.new-arena.result c.lay.new.arena c.in_ok-_root._root (provision_of c.in_ok-root_slot.field-0)
    (all_enacted c.args.numbering (option_map (λ s. s.now) c.args.wid) (branches_of c.args.nodes.now))
    c.new-arena.ensures.slots c.new-arena.ensures.numbers c.in_ok-root_slot.ensures.provision c.requires.apart c.requires.differ c.in_ok-_root.ensures.laid).whole

pub returns-clause-reads : goal.returns-clause-reads
returns-clause-reads c =
    (built c.new-arena.result c.lay.new.arena c.in_ok-_root._root (provision_of c.in_ok-root_slot.field-0)
    (all_enacted c.args.numbering (option_map (λ s. s.now) c.args.wid) (branches_of c.args.nodes.now))
    c.new-arena.ensures.slots c.new-arena.ensures.numbers c.in_ok-root_slot.ensures.provision c.requires.apart c.requires.differ c.in_ok-_root.ensures.laid).reads

pub returns-clause-own : goal.returns-clause-own
returns-clause-own c = c.in_ok-_root.ensures.laid.grown.own c.new-arena.ensures.own
