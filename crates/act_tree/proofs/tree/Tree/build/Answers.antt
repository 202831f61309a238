use Rattle.std.proofs.Common.{rules, ◌≡◌, None}
use Rattle.act_tree.specs.Branches.{branches_of}
use Rattle.act_tree.specs.Faults.{first_fault}
use Rattle.act_tree.proofs.FirstFaults.{faultless_differ}
use Rattle.act_tree.proofs.LowTexts.{faultless_low}
use Rattle.act_tree.proofs.tree.Tree.build.Goals as goal

pub plant-requires-clause-differ : goal.plant-requires-clause-differ
plant-requires-clause-differ c =
    let none : first_fault c.args.numbering c.args.limit (branches_of c.args.body.now) ≡ None = search rules in
    faultless_differ c.args.numbering c.args.limit (branches_of c.args.body.now) none

pub plant-requires-clause-depth : goal.plant-requires-clause-depth
plant-requires-clause-depth c =
    let none : first_fault c.args.numbering c.args.limit (branches_of c.args.body.now) ≡ None = search rules in
    faultless_low c.args.numbering c.args.limit (branches_of c.args.body.now) none
