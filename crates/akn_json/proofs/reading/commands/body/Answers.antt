use Rattle.akn_json.proofs.Nesting.{field_low}
use Rattle.akn_json.proofs.reading.commands.body.Goals as goal

pub modification_at-requires : goal.modification_at-requires
modification_at-requires c = record { depth = field_low _ _ _ _ c.requires.depth c.in_ok-field.ensures }
