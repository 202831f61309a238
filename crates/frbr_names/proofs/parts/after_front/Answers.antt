use Rattle.frbr_names.proofs.Fronts.{stripped}
use Rattle.frbr_names.proofs.parts.after_front.Goals as goal

pub returns : goal.returns
returns c = stripped c.args.front.now c.args.text.now c.strip_prefix.result c.strip_prefix.ensures.cases
