use Rattle.std.proofs.Common.{ap, ◌∙◌}
use Rattle.frbr_names.specs.Works.{date_named}
use Rattle.frbr_names.proofs.WorkLemmas.{named}
use Rattle.frbr_names.proofs.work_name.WorkName.copy_of.Goals as goal

pub invariant_of-result : goal.invariant_of-result
invariant_of-result c = ap date_named c.in_ok-copy_of.ensures ∙ named _ _ c.args.iri.now.is_read
