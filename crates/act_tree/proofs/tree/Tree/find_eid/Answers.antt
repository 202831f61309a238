use Rattle.std.proofs.Common.{◌∙◌, sym, ap, subst, ℕ, List, IfSome}
use Rattle.eid_paths.proofs.EidLaws.{eid_is_spelled, some_level}
use Rattle.act_tree.specs.EidsOfNodes.{IsNodeOf}
use Rattle.act_tree.specs.EidsOfWids.{has_eid}
use Rattle.act_tree.specs.Seen.{tree_view}
use Rattle.act_tree.proofs.WaysFound.{unread}
use Rattle.act_tree.proofs.tree.Tree.find_eid.Goals as goal

pub returns-in_default-clause-found : goal.returns-in_default-clause-found
returns-in_default-clause-found c = sym (unread c.args.self.now c.args.eid.now c.in_default.field-0 (sym c.parse_eid.ensures ∙ c.in_default.is))

pub of_levels-requires-clause-some : goal.of_levels-requires-clause-some
of_levels-requires-clause-some c = some_level c.args.eid.now c.in-Ok.levels (sym c.parse_eid.ensures ∙ c.in-Ok.is)

pub of_levels-requires-clause-nums : goal.of_levels-requires-clause-nums
of_levels-requires-clause-nums c = (eid_is_spelled c.args.eid.now c.in-Ok.levels (sym c.parse_eid.ensures ∙ c.in-Ok.is)).1

pub returns-clause-found : goal.returns-clause-found
returns-clause-found c =
    c.of_levels.ensures.found ∙ ap (λ e. has_eid e (tree_view c.args.self.now)) (sym (eid_is_spelled c.args.eid.now c.in-Ok.levels (sym c.parse_eid.ensures ∙ c.in-Ok.is)).0)

pub returns-clause-node : goal.returns-clause-node
returns-clause-node c =
    let P : List ℕ → Type 0 = λ e. IfSome c.of_levels.result (IsNodeOf c.args.self.now e) in
    subst P (sym (eid_is_spelled c.args.eid.now c.in-Ok.levels (sym c.parse_eid.ensures ∙ c.in-Ok.is)).0) c.of_levels.ensures.node
