use Rattle.act_tree.proofs.CopiedTrees.{text_laid}
use Rattle.act_tree.proofs.LowNodes.{below_low}
use Rattle.act_tree.proofs.copying.arena_of_text.Goals as goal

pub lay_again-requires-clause-depth : goal.lay_again-requires-clause-depth
lay_again-requires-clause-depth c = below_low c.args.tree.now c.root-root.result c.root-root.ensures.node

pub returns-clause-whole : goal.returns-clause-whole
returns-clause-whole c =
    (text_laid c.args.tree.now c.new-arena.result c.lay_again.new.arena c.root-root.result c.in_ok-_root._root c.new-arena.ensures.slots c.new-arena.ensures.numbers c.root-root.ensures.root c.in_ok-_root.ensures).whole

pub returns-clause-reads : goal.returns-clause-reads
returns-clause-reads c =
    (text_laid c.args.tree.now c.new-arena.result c.lay_again.new.arena c.root-root.result c.in_ok-_root._root c.new-arena.ensures.slots c.new-arena.ensures.numbers c.root-root.ensures.root c.in_ok-_root.ensures).reads

pub returns-clause-own : goal.returns-clause-own
returns-clause-own c = c.in_ok-_root.ensures.grown.own c.new-arena.ensures.own
