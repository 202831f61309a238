-- What is written so far is what those so far spell.
use Rattle.std.proofs.Common.{◌≡◌, ◌++◌, take}
use Rattle.std.specs.Prelude.{All}
use Rattle.std.specs.List.{flat_map}
use Rattle.entry_codec.specs.Typed.{IsNumPair}
use Rattle.entry_codec.specs.Modifications.{num_pair}
use Rattle.entry_codec.proofs.writing.edits.put_each_pair.Given as goal

abbrev pub invariant-loop-pair : goal.invariant-loop-pair
invariant-loop-pair l = record {
  bytes : l.out.items ≡ l.fn.out.items ++ flat_map num_pair.spell (take l.pair-index l.pairs);
  typed : All IsNumPair (take l.pair-index l.pairs);
}
