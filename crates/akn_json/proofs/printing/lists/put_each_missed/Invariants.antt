use Rattle.std.proofs.Common.{◌≡◌, ◌++◌, drop}
use Rattle.json.specs.Tree.{items_tokens}
use Rattle.serde_json.specs.Written.{items_outline}
use Rattle.akn_json.specs.Printing.Answers.{unapplied_data}
use Rattle.akn_json.proofs.printing.lists.put_each_missed.Given as goal

abbrev pub invariant-loop-missed : goal.invariant-loop-missed
invariant-loop-missed l =
    (l.out.tokens ++ items_tokens (items_outline (unapplied_data (drop l.missed-index l.list))) ≡ l.initial.out.tokens ++ items_tokens (items_outline (unapplied_data l.list)))
    × (l.out.before ≡ l.initial.out.before)
