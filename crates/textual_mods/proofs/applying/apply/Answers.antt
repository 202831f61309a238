-- An edit leaves a tree well-formed, and brings no wIds but its own.
use Rattle.std.proofs.Common.{◌≡◌, ◌∙◌, ap, inl, inr, arith}
use Rattle.act_tree.specs.Brought.{has_brought}
use Rattle.act_tree.specs.Faults.{first_cause}
use Rattle.act_tree.specs.Seen.{tree_view}
use Rattle.act_tree.specs.Trees.{TreeValue}
use Rattle.textual_mods.specs.Edits.{edited, applied, tree_after}
use Rattle.textual_mods.proofs.Limits.{fits_after, either_way}
use Rattle.textual_mods.proofs.Names.{others_kept}
use Rattle.textual_mods.proofs.applying.apply.Goals as goal

pub returns-clause-fits : goal.returns-clause-fits
returns-clause-fits g c =
    elim (either_way c.edit_tree.result (tree_view c.edit_tree.new.tree ≡ tree_after (tree_view c.args.tree.now) (applied (tree_view c.args.tree.now) c.args.by c.args.edit.now)) (tree_view c.edit_tree.new.tree ≡ tree_view c.args.tree.now) c.edit_tree.ensures.tree c.edit_tree.ensures.kept) [
      | inl done ↦ ap first_cause done ∙ fits_after (tree_view c.args.tree.now) (edited c.args.by c.args.edit.now (tree_view c.args.tree.now).body) c.requires.fits
      | inr kept ↦ ap first_cause kept ∙ c.requires.fits
    ]

pub returns-clause-others : goal.returns-clause-others
returns-clause-others g c other law item differ none =
    elim (either_way c.edit_tree.result (tree_view c.edit_tree.new.tree ≡ tree_after (tree_view c.args.tree.now) (applied (tree_view c.args.tree.now) c.args.by c.args.edit.now)) (tree_view c.edit_tree.new.tree ≡ tree_view c.args.tree.now) c.edit_tree.ensures.tree c.edit_tree.ensures.kept) [
      | inl done ↦ ap (λ (t : TreeValue). has_brought other t.body) done ∙ others_kept (tree_view c.args.tree.now) c.args.by other c.args.edit.now (omega arith) (omega arith) law item differ none
      | inr kept ↦ ap (λ (t : TreeValue). has_brought other t.body) kept ∙ none
    ]
