use Rattle.akn_json.proofs.Nesting.{field_low}
use Rattle.akn_json.proofs.reading.commands.enact.Goals as goal

pub act-requires : goal.act-requires
act-requires c = record { depth = field_low _ _ _ _ c.requires.depth c.in_ok-field.ensures }
