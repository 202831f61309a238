-- What is written so far is what those so far spell.
use Rattle.std.proofs.Common.{◌≡◌, ◌++◌, take}
use Rattle.std.specs.Prelude.{All}
use Rattle.std.specs.List.{flat_map}
use Rattle.entry_codec.specs.Typed.{IsModification}
use Rattle.entry_codec.specs.Formats.{format_in}
use Rattle.entry_codec.specs.Modifications.{modification}
use Rattle.entry_codec.proofs.writing.modifications.put_each_modification.Given as goal

abbrev pub invariant-loop-modification : goal.invariant-loop-modification
invariant-loop-modification l = record {
  bytes : l.out.items ≡ l.fn.out.items ++ flat_map (modification (format_in l.format)).spell (take l.modification-index l.mods);
  typed : All IsModification (take l.modification-index l.mods);
}
