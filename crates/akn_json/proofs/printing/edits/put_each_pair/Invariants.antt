use Rattle.std.proofs.Common.{◌≡◌, ◌++◌, drop}
use Rattle.json.specs.Tree.{items_tokens}
use Rattle.serde_json.specs.Written.{items_outline}
use Rattle.akn_json.specs.Printing.Edits.{pairs_data}
use Rattle.akn_json.proofs.printing.edits.put_each_pair.Given as goal

abbrev pub invariant-loop-pair : goal.invariant-loop-pair
invariant-loop-pair l =
    (l.out.tokens ++ items_tokens (items_outline (pairs_data (drop l.pair-index l.pairs))) ≡ l.initial.out.tokens ++ items_tokens (items_outline (pairs_data l.pairs)))
    × (l.out.before ≡ l.initial.out.before)
