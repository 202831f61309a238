use Rattle.std.proofs.Common.{rules, ◌∙◌, sym, ap, ℕ, ◌+◌, ◌<◌, List, [], ◌∷◌, ◌++◌, length, map, drop}
use Rattle.std.proofs.lemmas.List.{drop_all}
use Rattle.act_tree.specs.Branches.{branches_of}
use Rattle.act_tree.specs.EidLevels.{levels_on}
use Rattle.act_tree.specs.Seen.{tree_view, branch_at}
use Rattle.act_tree.specs.Surveys.{repeats}
use Rattle.act_tree.proofs.LevelsNoted.{levels_from, repeats_from, repeats_later, repeats_all}
use Rattle.act_tree.proofs.levels.are_alike.Goals as goal

pub returns-then-again : goal.returns-then-again
returns-then-again c =
    let t = c.args.tree.now in
    let ids = c.args.ids.now in
    let i : ℕ = c.loop-id.id-index in
    let within : i < length ids = search rules in
    let all : List (List ℕ) = levels_on (tree_view t).numbering (branches_of (map (branch_at t) ids)) in
    let first : List (List ℕ) = levels_on (tree_view t).numbering (branches_of (branch_at t c.id-item.result ∷ [])) in
    let rest : List (List ℕ) = levels_on (tree_view t).numbering (branches_of (map (branch_at t) (drop (i + 1) ids))) in
    sym (sym (repeats_all all) ∙ sym c.loop-id.invariant
    ∙ ap (repeats c.loop-id.levels.keys) (levels_from t ids i c.id-item.result within ∙ ap (λ id. levels_on (tree_view t).numbering (branches_of (branch_at t id ∷ [])) ++ rest) (sym c.id-item.is))
    ∙ repeats_from c.loop-id.levels.keys first rest c.in_ok-again.again c.in_ok-again.ensures.again c.if-again.true)

pub loop-id-preserved : goal.loop-id-preserved
loop-id-preserved c =
    let t = c.args.tree.now in
    let ids = c.args.ids.now in
    let i : ℕ = c.loop-id.id-index in
    let within : i < length ids = search rules in
    let first : List (List ℕ) = levels_on (tree_view t).numbering (branches_of (branch_at t c.id-item.result ∷ [])) in
    let rest : List (List ℕ) = levels_on (tree_view t).numbering (branches_of (map (branch_at t) (drop (i + 1) ids))) in
    repeats_later c.loop-id.levels.keys c.note_level.new.levels.keys first rest c.in_ok-again.again c.in_ok-again.ensures.again c.in_ok-again.ensures.noted c.if-again.false
    ∙ sym (ap (repeats c.loop-id.levels.keys) (levels_from t ids i c.id-item.result within ∙ ap (λ id. levels_on (tree_view t).numbering (branches_of (branch_at t id ∷ [])) ++ rest) (sym c.id-item.is)))
    ∙ c.loop-id.invariant

pub returns : goal.returns
returns c =
    let t = c.args.tree.now in
    let all : List (List ℕ) = levels_on (tree_view t).numbering (branches_of (map (branch_at t) c.args.ids.now)) in
    sym (sym (repeats_all all) ∙ sym c.loop-id.invariant
    ∙ ap (λ js. repeats c.loop-id.levels.keys (levels_on (tree_view t).numbering (branches_of (map (branch_at t) js)))) (drop_all c.loop-id.id-index c.args.ids.now (search rules)))
