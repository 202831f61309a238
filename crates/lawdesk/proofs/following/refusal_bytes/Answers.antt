use Rattle.std.proofs.Common.{◌∙◌}
use Rattle.akn_json.proofs.Printed.Texts.{text_of_tokens}
use Rattle.lawdesk.specs.Following.{refusal_data}
use Rattle.lawdesk.proofs.following.refusal_bytes.Goals as goal

pub returns : goal.returns
returns c =
    text_of_tokens (refusal_data c.args.refusal) _ _ _ _ c.into_inner.ensures.items
    (c.in_ok-put_refusal.ensures.before ∙ c.new-out.ensures.before ∙ c.new.ensures.items) c.new-out.ensures.tokens c.in_ok-put_refusal.ensures.tokens
