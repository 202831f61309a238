-- A repeal that finds its target keeps the limits.
use Rattle.std.proofs.Common.{◌≡◌, ◌∙◌, sym, ap, true, List, ℕ}
use Rattle.act_tree.specs.Changes.{is_in, removed}
use Rattle.act_tree.specs.Seen.{tree_view}
use Rattle.act_tree.specs.Trees.{changed_once}
use Rattle.textual_mods.specs.Edits.{tree_after, outcome_of}
use Rattle.textual_mods.proofs.Removals.{repeal_done}
use Rattle.textual_mods.proofs.structure.repeal.Goals as goal

pub returns-in-Some-clause-outcome : goal.returns-in-Some-clause-outcome
returns-in-Some-clause-outcome g c =
    let there : is_in c.args.wid.now (tree_view c.args.tree.now).body ≡ true = rw c.as_bytes.ensures.value at (sym c.in-Some.ensures.found) in
    sym (ap outcome_of (repeal_done (tree_view c.args.tree.now) c.args.wid.now c.requires.fits there))

pub returns-in-Some-clause-tree : goal.returns-in-Some-clause-tree
returns-in-Some-clause-tree g c =
    let there : is_in c.args.wid.now (tree_view c.args.tree.now).body ≡ true = rw c.as_bytes.ensures.value at (sym c.in-Some.ensures.found) in
    c.remove.ensures.tree
    ∙ ap (λ (w : List ℕ). changed_once (tree_view c.args.tree.now) (removed w (tree_view c.args.tree.now).body)) (c.in-Some.ensures.wid ∙ c.as_bytes.ensures.value)
    ∙ sym (ap (tree_after (tree_view c.args.tree.now)) (repeal_done (tree_view c.args.tree.now) c.args.wid.now c.requires.fits there))
