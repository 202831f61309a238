use Rattle.std.proofs.Common.{◌≡◌, ◌++◌, drop}
use Rattle.json.specs.Tree.{items_tokens}
use Rattle.serde_json.specs.Written.{items_outline}
use Rattle.akn_json.specs.Printing.Answers.{texts_data}
use Rattle.akn_json.proofs.printing.lists.put_each_text.Given as goal

abbrev pub invariant-loop-text : goal.invariant-loop-text
invariant-loop-text l =
    (l.out.tokens ++ items_tokens (items_outline (texts_data (drop l.text-index l.texts))) ≡ l.initial.out.tokens ++ items_tokens (items_outline (texts_data l.texts)))
    × (l.out.before ≡ l.initial.out.before)
