use Rattle.std.proofs.Common.{◌∙◌}
use Rattle.akn_json.specs.Printing.Answers.{answer_data}
use Rattle.akn_json.proofs.Printed.Texts.{text_of_tokens}
use Rattle.akn_json.proofs.printing.answers.put_answer.Goals as goal

pub returns : goal.returns
returns c =
    text_of_tokens (answer_data c.args.answer.now) _ _ _ _ c.into_inner.ensures.items
    (c.in_ok-put_parts.ensures.before ∙ c.new-out.ensures.before ∙ c.in_ok-bytes.ensures.items) c.new-out.ensures.tokens c.in_ok-put_parts.ensures.tokens
