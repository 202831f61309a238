use Rattle.textual_mods.proofs.Finding.{parted_is}
use Rattle.textual_mods.proofs.occurrences.parted_at_first.Goals as goal

pub returns : goal.returns
returns c = parted_is c.args.old.now c.args.text.now c.split_once.result c.split_once.ensures.cases
