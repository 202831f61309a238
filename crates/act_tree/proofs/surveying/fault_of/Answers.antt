use Rattle.std.proofs.Common.{◌∙◌, ap, None}
use Rattle.act_tree.specs.Branches.{branches_of}
use Rattle.act_tree.specs.Surveys.{all_surveyed, fault_in}
use Rattle.act_tree.proofs.FirstFaults.{fault_in-surveyed}
use Rattle.act_tree.proofs.surveying.fault_of.Goals as goal

pub returns : goal.returns
returns c =
    c.fault.ensures
    ∙ ap (fault_in c.args.limit) (c.in_ok-survey.ensures.seen ∙ ap (all_surveyed c.args.numbering None 0 (branches_of c.args.nodes.now)) c.new-found.ensures)
    ∙ fault_in-surveyed c.args.numbering c.args.limit (branches_of c.args.nodes.now)
