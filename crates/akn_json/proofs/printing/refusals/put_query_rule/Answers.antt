use Rattle.std.proofs.Common.{◌∙◌}
use Rattle.akn_json.specs.Printing.Refusals.{query_data}
use Rattle.akn_json.proofs.Printed.Texts.{text_of_tokens}
use Rattle.akn_json.proofs.printing.refusals.put_query_rule.Goals as goal

pub returns : goal.returns
returns c =
    text_of_tokens (query_data c.args.rule.now) _ _ _ _ c.into_inner.ensures.items
    (c.in_ok-put_query.ensures.before ∙ c.new-out.ensures.before ∙ c.new.ensures.items) c.new-out.ensures.tokens c.in_ok-put_query.ensures.tokens
