use Rattle.std.proofs.Common.{◌∙◌, sym, ap, None}
use Rattle.act_tree.specs.Faults.{all_owns}
use Rattle.act_tree.specs.Seen.{tree_view, below_at}
use Rattle.act_tree.specs.Surveys.{seen, all_surveyed, fault_in}
use Rattle.act_tree.proofs.FirstFaults.{fault_in-surveyed}
use Rattle.act_tree.proofs.Walking.{body_is}
use Rattle.act_tree.proofs.tree.Tree.fault.Goals as goal

pub returns : goal.returns
unfolding tree_view
returns c =
    let n = (tree_view c.args.self.now).numbering in
    c.fault.ensures
    ∙ ap (fault_in (tree_view c.args.self.now).limit) (c.in_ok-survey.ensures
    ∙ ap (λ bs. all_surveyed n None 0 (all_owns bs) (seen c.new-found.result)) (c.children.ensures.branches ∙ ap (below_at c.args.self.now) c.root.ensures.root ∙ sym (body_is c.args.self.now))
    ∙ ap (all_surveyed n None 0 (all_owns (tree_view c.args.self.now).body)) c.new-found.ensures)
    ∙ fault_in-surveyed n (tree_view c.args.self.now).limit (all_owns (tree_view c.args.self.now).body)
