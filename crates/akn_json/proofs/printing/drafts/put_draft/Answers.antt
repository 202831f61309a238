use Rattle.std.proofs.Common.{◌∙◌}
use Rattle.akn_json.specs.Printing.Drafts.{draft_value}
use Rattle.akn_json.proofs.Printed.Texts.{text_of_tokens}
use Rattle.akn_json.proofs.printing.drafts.put_draft.Goals as goal

pub returns : goal.returns
returns c =
    text_of_tokens (draft_value c.args.draft.now) _ _ _ _ c.into_inner.ensures.items
    (c.in_ok-put_items.ensures.before ∙ c.new-out.ensures.before ∙ c.new.ensures.items) c.new-out.ensures.tokens c.in_ok-put_items.ensures.tokens
