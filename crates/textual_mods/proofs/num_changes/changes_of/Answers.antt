use Rattle.std.proofs.Common.{rules, ◌∙◌, sym, ap, subst, ℕ, ◌<◌, List, length, map}
use Rattle.std.specs.List.{All}
use Rattle.std.proofs.lemmas.List.Elements.{All-push}
use Rattle.textual_mods.specs.NumChanges.{IsChange}
use Rattle.textual_mods.specs.declared.num_changes.NumChange.{NumChange}
use Rattle.textual_mods.proofs.NamedNodes.{one_noted}
use Rattle.textual_mods.proofs.num_changes.changes_of.Goals as goal

pub loop-id-preserved : goal.loop-id-preserved
loop-id-preserved c =
    let named : List (ℕ × List ℕ) = c.args.named.now in
    let i : ℕ = c.loop-id.id-index in
    let within : i < length named = search rules in (
      subst (All (IsChange c.args.tree.now named)) (sym {A = List NumChange} c.in_ok-push.ensures.items) (All-push (IsChange c.args.tree.now named) c.loop-id.changes.items c.change_of.result c.loop-id.invariant.0 c.change_of.ensures.change),
      ap (map (λ (change : NumChange). change.id)) c.in_ok-push.ensures.items
          ∙ one_noted c.loop-id.changes.items c.change_of.result named i c.loop-id-item.result within (c.change_of.ensures.id ∙ ap (λ pair. pair.0) c.loop-id-item.is) c.loop-id.invariant.1,
    )
