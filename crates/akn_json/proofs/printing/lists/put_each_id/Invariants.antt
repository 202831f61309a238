use Rattle.std.proofs.Common.{◌≡◌, ◌++◌, drop}
use Rattle.json.specs.Tree.{items_tokens}
use Rattle.serde_json.specs.Written.{items_outline}
use Rattle.akn_json.specs.Printing.Answers.{ids_data}
use Rattle.akn_json.proofs.printing.lists.put_each_id.Given as goal

abbrev pub invariant-loop-id : goal.invariant-loop-id
invariant-loop-id l =
    (l.out.tokens ++ items_tokens (items_outline (ids_data (drop l.id-index l.ids))) ≡ l.initial.out.tokens ++ items_tokens (items_outline (ids_data l.ids)))
    × (l.out.before ≡ l.initial.out.before)
