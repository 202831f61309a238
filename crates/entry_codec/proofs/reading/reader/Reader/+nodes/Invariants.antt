-- The depth falls; what is read so far, with what the rest gives behind it, is what all give.
use Rattle.std.proofs.Common.{◌≡◌, ◌-◌, ◌+◌, ◌*◌}
use Rattle.entry_codec.specs.Fields.{each_read}
use Rattle.entry_codec.specs.Nodes.{node}
use Rattle.entry_codec.proofs.Loops.{with_front}
use Rattle.entry_codec.proofs.reading.reader.Reader.+nodes.Given as goal

abbrev pub decreases-each_node : goal.decreases-each_node
decreases-each_node l = 3 * l.depth + 2

abbrev pub decreases-node : goal.decreases-node
decreases-node l = 3 * l.depth + 1

abbrev pub decreases-nodes : goal.decreases-nodes
decreases-nodes l = 3 * l.depth

abbrev pub invariant-each_node-loop : goal.invariant-each_node-loop
invariant-each_node-loop l =
    with_front l.nodes (each_read (node l.depth).read (l.count - l.counter) l.self.left.now)
    ≡ each_read (node l.depth).read l.count l.fn.self.left.now
