use Rattle.act_tree.specs.Seen.{tree_view}
use Rattle.act_tree.proofs.CopiedArenas.{held_too}
use Rattle.act_tree.proofs.tree.Tree.copy_arena.Goals as goal

pub returns-clause-whole : goal.returns-clause-whole
returns-clause-whole c = (held_too c.args.self.now.arena c.in_ok-arena.arena c.in_ok-arena.ensures.slots c.in_ok-arena.ensures.numbers c.args.self.now.whole).whole

pub returns-clause-reads : goal.returns-clause-reads
unfolding tree_view
returns-clause-reads c = (held_too c.args.self.now.arena c.in_ok-arena.arena c.in_ok-arena.ensures.slots c.in_ok-arena.ensures.numbers c.args.self.now.whole).reads
