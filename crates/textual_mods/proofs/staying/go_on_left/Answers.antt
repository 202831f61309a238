use Rattle.std.proofs.Common.{rules, ◌∙◌, sym, ap, ◌||◌, Bool, ℕ, ◌+◌, ◌<◌, List, length, map, drop}
use Rattle.eid_paths.specs.Levels.{level_text}
use Rattle.act_tree.specs.Branches.{branches_of}
use Rattle.act_tree.specs.EidLevels.{levels_on}
use Rattle.act_tree.specs.Seen.{tree_view, branch_at}
use Rattle.act_tree.specs.Wids.{is_among}
use Rattle.textual_mods.specs.Substitutions.{left, wid_of}
use Rattle.textual_mods.proofs.LeftNodes.{on_from}
use Rattle.textual_mods.proofs.staying.go_on_left.Goals as goal

pub returns-then-goes_on_there : goal.returns-then-goes_on_there
returns-then-goes_on_there c =
    let tree = c.args.tree.now in
    let ids = c.args.ids.now in
    let n = (tree_view tree).numbering in
    let x : List ℕ = level_text c.args.element c.args.num.now in
    let within : c.loop-id.id-index < length ids = search rules in
    let rest : Bool = is_among x (levels_on n (left (wid_of tree c.args.gone.now) (branches_of (map (branch_at tree) (drop (c.loop-id.id-index + 1) ids))))) in
    sym (sym c.loop-id.invariant ∙ on_from tree c.args.gone.now ids c.loop-id.id-index c.id-item.result within c.id-item.is n x
    ∙ ap (λ r. r || rest) (sym c.goes_on_there.ensures ∙ c.if-goes_on_there.true))

pub loop-id-preserved : goal.loop-id-preserved
loop-id-preserved c =
    let tree = c.args.tree.now in
    let ids = c.args.ids.now in
    let n = (tree_view tree).numbering in
    let x : List ℕ = level_text c.args.element c.args.num.now in
    let within : c.loop-id.id-index < length ids = search rules in
    let rest : Bool = is_among x (levels_on n (left (wid_of tree c.args.gone.now) (branches_of (map (branch_at tree) (drop (c.loop-id.id-index + 1) ids))))) in
    sym (on_from tree c.args.gone.now ids c.loop-id.id-index c.id-item.result within c.id-item.is n x
    ∙ ap (λ r. r || rest) (sym c.goes_on_there.ensures ∙ c.if-goes_on_there.false))
    ∙ c.loop-id.invariant
