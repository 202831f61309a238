use Rattle.std.proofs.Common.{◌∙◌, ap, Some}
use Rattle.indexmap.specs.IndexMap.{get_by}
use Rattle.law_register.specs.Answer.Counted.{is_same}
use Rattle.replay_core.specs.Groups.{forces_of, efficacies_of}
use Rattle.replay_core.proofs.Grouping.{forces_chosen, efficacies_chosen}
use Rattle.replay_core.proofs.counted.put_back.Goals as goal

pub returns-clause-forces : goal.returns-clause-forces
returns-clause-forces c = λ t.
    ap forces_of (c.in_ok-put.ensures.new t) ∙ forces_chosen (is_same c.args.thing.now t) (Some c.args.group) (get_by (is_same t) c.args.groups.now)

pub returns-clause-efficacies : goal.returns-clause-efficacies
returns-clause-efficacies c = λ t.
    ap efficacies_of (c.in_ok-put.ensures.new t) ∙ efficacies_chosen (is_same c.args.thing.now t) (Some c.args.group) (get_by (is_same t) c.args.groups.now)
