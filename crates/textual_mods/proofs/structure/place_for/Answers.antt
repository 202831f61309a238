use Rattle.std.proofs.Common.{◌≡◌, ◌∙◌, sym, ap, List, ℕ, length}
use Rattle.act_tree.specs.Changes.{grafted}
use Rattle.act_tree.specs.Seen.{tree_view}
use Rattle.textual_mods.specs.StructureEdits.{placed}
use Rattle.textual_mods.specs.Targets.{children_named}
use Rattle.textual_mods.specs.declared.edit.Pos.{Pos}
use Rattle.textual_mods.proofs.Naming.{children_counted}
use Rattle.textual_mods.proofs.structure.place_for.Goals as goal

pub returns-in_ok-id-in-End-clause-gives : goal.returns-in_ok-id-in-End-clause-gives
returns-in_ok-id-in-End-clause-gives c new =
    let body = (tree_view c.args.tree.now).body in
    let counted : children_named c.args.wid.now body ≡ length c.children.result.now =
    sym (ap (λ (w : List ℕ). children_named w body) c.as_bytes-in-End.ensures.value)
    ∙ children_counted c.args.tree.now c.in_ok-id-in-End.id c.as_bytes-in-End.result.now c.children.result.now c.in_ok-id-in-End.ensures.root c.in_ok-id-in-End.ensures.branch c.children.ensures.branches in
    ap (λ (w : List ℕ). grafted w (length c.children.result.now) new body) (c.in_ok-id-in-End.ensures.wid ∙ c.as_bytes-in-End.ensures.value)
    ∙ ap (λ (n : ℕ). grafted c.args.wid.now n new body) (sym counted)
    ∙ ap (λ (pos : Pos). placed pos c.args.wid.now new body) (sym c.in-End.is)
