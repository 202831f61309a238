use Rattle.std.proofs.Common.{◌∙◌}
use Rattle.desk_base.proofs.Numerals.{parsed-decimal}
use Rattle.desk_base.proofs.decimals.value_of.Goals as goal

pub returns : goal.returns
returns c = c.ok.ensures.value ∙ parsed-decimal c.args.text.now _ c.requires c.parse.ensures.value.0
