-- A renumbering is held back by a num that is taken, or made.
use Rattle.std.proofs.Common.{◌∙◌, sym, ap}
use Rattle.act_tree.specs.Seen.{tree_view, nums_by_wid}
use Rattle.textual_mods.specs.Edits.{tree_after, outcome_of}
use Rattle.textual_mods.proofs.NamedNodes.{nums_by_wid_kept}
use Rattle.textual_mods.proofs.NumsTaken.{nums_held, nums_done}
use Rattle.textual_mods.proofs.renumbering.give_nums.Goals as goal

pub returns-then-taken-clause-outcome : goal.returns-then-taken-clause-outcome
returns-then-taken-clause-outcome g c =
    let t = c.args.tree.now in
    let is = rw (← c.in_ok-taken.ensures.same) at c.one_taken.ensures in
    c.held_back.ensures.outcome
    ∙ sym (ap outcome_of (nums_held t c.requires.fits (nums_by_wid t c.args.named.now) (nums_by_wid_kept t c.args.named.now c.requires.nums) (sym is ∙ c.if-taken.true)))

pub returns-then-taken-clause-tree : goal.returns-then-taken-clause-tree
returns-then-taken-clause-tree g c =
    let t = c.args.tree.now in
    let is = rw (← c.in_ok-taken.ensures.same) at c.one_taken.ensures in
    sym (ap (tree_after (tree_view t)) (nums_held t c.requires.fits (nums_by_wid t c.args.named.now) (nums_by_wid_kept t c.args.named.now c.requires.nums) (sym is ∙ c.if-taken.true)))

pub returns-clause-outcome : goal.returns-clause-outcome
returns-clause-outcome g c =
    let t = c.args.tree.now in
    let is = rw (← c.in_ok-taken.ensures.same) at c.one_taken.ensures in
    sym (ap outcome_of (nums_done t c.requires.fits (nums_by_wid t c.args.named.now) (nums_by_wid_kept t c.args.named.now c.requires.nums) (sym is ∙ c.if-taken.false)))

pub returns-clause-tree : goal.returns-clause-tree
returns-clause-tree g c =
    let t = c.args.tree.now in
    let is = rw (← c.in_ok-taken.ensures.same) at c.one_taken.ensures in
    c.set_nums.ensures.tree
    ∙ sym (ap (tree_after (tree_view t)) (nums_done t c.requires.fits (nums_by_wid t c.args.named.now) (nums_by_wid_kept t c.args.named.now c.requires.nums) (sym is ∙ c.if-taken.false)))
