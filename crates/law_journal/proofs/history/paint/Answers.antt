use Rattle.std.proofs.Common.{◌≡◌, ◌∙◌, ◌+◌, ◌-◌, ◌++◌, ℕ, List, length, take, drop, replicate, min, refl, arith}
use Rattle.std.proofs.lemmas.Grind.{common_steps}
use Rattle.law_journal.proofs.Painting.{as_pieces}
use Rattle.law_journal.proofs.history.paint.Goals as goal

pub returns : goal.returns
returns c =
    let bytes : List ℕ = c.args.bytes.now in
    let from = c.args.place in
    let pieces = take from bytes ++ replicate (min c.args.count (length bytes - from)) c.args.pick ++ drop (from + c.args.count) bytes in
    let is : _ ≡ pieces = grind (arith, common_steps) in
    is ∙ as_pieces c.args.pick from c.args.count bytes _ _ refl refl
