use Rattle.std.proofs.Common.{false, true}
use Rattle.law_office.proofs.TargetRules.{portion_found}
use Rattle.law_office.proofs.target_rules.portion_rule.Goals as goal

pub returns-in-Some-find_eid : goal.returns-in-Some-find_eid
returns-in-Some-find_eid c = rw c.in-Some.is (portion_found c.args.tree.now c.in-Some.eid.now true c.in-Some-find_eid.ensures.found)

pub returns-in-None-find_eid : goal.returns-in-None-find_eid
returns-in-None-find_eid c = rw c.in-Some.is (portion_found c.args.tree.now c.in-Some.eid.now false c.in-None-find_eid.ensures.found)
