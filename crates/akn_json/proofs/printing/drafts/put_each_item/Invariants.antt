use Rattle.std.proofs.Common.{◌≡◌, ◌++◌, drop}
use Rattle.json.specs.Tree.{items_tokens}
use Rattle.serde_json.specs.Written.{items_outline}
use Rattle.akn_json.specs.Printing.Drafts.{draft_items_data}
use Rattle.akn_json.proofs.printing.drafts.put_each_item.Given as goal

abbrev pub invariant-loop-item : goal.invariant-loop-item
invariant-loop-item l =
    (l.out.tokens ++ items_tokens (items_outline (draft_items_data (drop l.item-index l.items))) ≡ l.initial.out.tokens ++ items_tokens (items_outline (draft_items_data l.items)))
    × (l.out.before ≡ l.initial.out.before)
