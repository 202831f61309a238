-- Behind an open gate, the bytes so far are the records of the payloads so far.
use Rattle.std.proofs.Common.{◌≡◌, ◌+◌, ◌∷◌, map, take}
use Rattle.law_journal.specs.Grammar.{records_of}
use Rattle.law_journal.proofs.framing.frames.Given as goal

abbrev pub invariant-loop-payload : goal.invariant-loop-payload
invariant-loop-payload l = 1 ∷ l.framed.items ≡ records_of (map (λ payload. payload.items) (take (l.payload-index + 1) l.payloads))
