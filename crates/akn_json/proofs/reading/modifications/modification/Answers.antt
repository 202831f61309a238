use Rattle.std.proofs.Common.{sym}
use Rattle.akn_json.specs.declared.reading.key.Key.TheVariants as key
use Rattle.akn_json.specs.Reading.Values.{seen}
use Rattle.akn_json.proofs.Nesting.{key_low}
use Rattle.akn_json.proofs.reading.modifications.modification.Goals as goal

pub textual-requires : goal.textual-requires
textual-requires c = record { depth = key_low key.TextualMod (seen c.args.value.now) _ _ c.requires.depth (sym (rw c.in-Some.is at c.at_key.ensures)) }
