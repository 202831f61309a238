use Rattle.akn_json.proofs.Nesting.{field_low}
use Rattle.akn_json.proofs.Widths.{field-width}
use Rattle.akn_json.proofs.reading.commands.record.Goals as goal

pub mods-requires-clause-lists : goal.mods-requires-clause-lists
mods-requires-clause-lists c = field-width _ _ _ _ c.requires.lists c.in_ok-field.ensures

pub mods-requires-clause-depth : goal.mods-requires-clause-depth
mods-requires-clause-depth c = field_low _ _ _ _ c.requires.depth c.in_ok-field.ensures
