-- What is written so far is what those so far spell.
use Rattle.std.proofs.Common.{◌≡◌, ◌++◌, take}
use Rattle.std.specs.Prelude.{All}
use Rattle.std.specs.List.{flat_map}
use Rattle.entry_codec.specs.Typed.{IsText}
use Rattle.entry_codec.specs.Values.{expression}
use Rattle.entry_codec.proofs.writing.texts.put_each_ref.Given as goal

abbrev pub invariant-loop-iri : goal.invariant-loop-iri
invariant-loop-iri l = record {
  bytes : l.out.items ≡ l.fn.out.items ++ flat_map expression.spell (take l.iri-index l.refs);
  typed : All IsText (take l.iri-index l.refs);
}
