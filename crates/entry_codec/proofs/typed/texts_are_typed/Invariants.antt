-- Those looked at so far are typed.
use Rattle.std.proofs.Common.{take}
use Rattle.std.specs.Prelude.{All}
use Rattle.entry_codec.specs.Typed.{IsText}
use Rattle.entry_codec.proofs.typed.texts_are_typed.Given as goal

abbrev pub invariant-loop-one : goal.invariant-loop-one
invariant-loop-one l = All IsText (take l.one-index l.texts)
