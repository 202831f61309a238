use Rattle.std.proofs.lemmas.Result.{err_from_is_err_and}
use Rattle.act_tree.specs.Specs.{spec_view}
use Rattle.entry_codec.specs.Nodes.{node}
use Rattle.entry_codec.proofs.Loops.{goes_on}
use Rattle.entry_codec.proofs.Depths.{count_stops, list_reads}
use Rattle.entry_codec.proofs.LowNodes.{read_low}
use Rattle.entry_codec.proofs.reading.reader.Reader.+nodes.Goals as goal

pub each_node-loop-preserved : goal.each_node-loop-preserved
each_node-loop-preserved t c =
    goes_on (node c.args.depth).read c.loop.nodes c.args.count c.loop.counter c.loop.self.left.now _ _ c.push.new.self _
    c.loop-test.true c.in_ok-node.ensures c.in_ok-push.ensures.ok c.loop.invariant

pub each_node-push-requires : goal.each_node-push-requires
each_node-push-requires t c = record { depth = read_low c.args.depth (spec_view c.in_ok-node.field-0) c.loop.self.left.now _ c.requires.depth c.in_ok-node.ensures }

pub nodes-returns-in_err-count : goal.nodes-returns-in_err-count
nodes-returns-in_err-count t c =
    let p = err_from_is_err_and c.from_residual.result c.from_residual.ensures.1 in
    rw (p.1, p.2) (count_stops c.args.depth c.if-depth-eq0.false _ _ c.in_err-count.ensures)

pub nodes-returns : goal.nodes-returns
nodes-returns t c =
    list_reads (λ n. n) c.args.depth c.if-depth-eq0.false _ _ _ c.each_node.result _ c.in_ok-count.ensures c.each_node.ensures
