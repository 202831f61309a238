use Rattle.akn_json.proofs.Nesting.{field_low}
use Rattle.akn_json.proofs.reading.modifications.insertions.insert_nodes.Goals as goal

pub nodes-requires : goal.nodes-requires
nodes-requires c = record { depth = field_low _ _ _ _ c.requires.depth c.in_ok-field.ensures }
