use Rattle.std.proofs.Common.{◌≡◌, ◌∙◌, sym, ap, subst, true}
use Rattle.std.specs.List.{All, list_any}
use Rattle.act_tree.specs.Seen.{has_node}
use Rattle.textual_mods.specs.NumChanges.{is_taken}
use Rattle.textual_mods.specs.declared.num_changes.NumChange.{NumChange}
use Rattle.textual_mods.proofs.ChangesDecide.{named_decide}
use Rattle.textual_mods.proofs.num_changes.one_taken.Goals as goal

pub are_taken-requires : goal.are_taken-requires
are_taken-requires c =
    subst (All (λ (change : NumChange). has_node c.args.tree.now change.under ≡ true)) (sym c.as_slice.ensures.value) (λ k d low. (c.in_ok-changes.ensures.each k d low).under.node)

pub returns : goal.returns
returns c =
    c.are_taken.ensures ∙ ap (λ cs. list_any (is_taken c.args.tree.now cs) cs) c.as_slice.ensures.value
    ∙ named_decide c.args.tree.now c.args.named.now c.requires.nodes c.in_ok-changes.changes.items c.in_ok-changes.ensures.each c.in_ok-changes.ensures.nodes c.requires.fits
