use Rattle.std.proofs.Common.{◌∙◌}
use Rattle.akn_json.specs.Printing.Damages.{damage_data}
use Rattle.akn_json.proofs.Printed.Texts.{text_of_tokens}
use Rattle.akn_json.proofs.printing.damages.put_damage.Goals as goal

pub returns : goal.returns
returns c =
    text_of_tokens (damage_data c.args.damage) _ _ _ _ c.into_inner.ensures.items
    (c.in_ok-put_damaged.ensures.before ∙ c.new-out.ensures.before ∙ c.new.ensures.items) c.new-out.ensures.tokens c.in_ok-put_damaged.ensures.tokens
