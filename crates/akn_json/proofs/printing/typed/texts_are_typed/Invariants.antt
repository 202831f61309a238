-- Those looked at so far are typed.
use Rattle.std.proofs.Common.{take}
use Rattle.std.specs.Prelude.{All}
use Rattle.akn_json.specs.Printing.Typed.{IsTypedText}
use Rattle.akn_json.proofs.printing.typed.texts_are_typed.Given as goal

abbrev pub invariant-loop-one : goal.invariant-loop-one
invariant-loop-one l = All IsTypedText (take l.one-index l.texts)
