use Rattle.std.proofs.Common.{sym}
use Rattle.version_cache.proofs.Fronts.{too_short}
use Rattle.version_cache.proofs.making.begins_with.Goals as goal

pub returns-then-ids-firsts : goal.returns-then-ids-firsts
returns-then-ids-firsts c = sym (too_short c.args.firsts.now c.args.ids.now c.if-ids-firsts.true)
