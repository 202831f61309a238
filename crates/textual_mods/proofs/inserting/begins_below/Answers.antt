use Rattle.std.proofs.Common.{◌≡◌, ◌∙◌, sym, ap, Bool, true, false, ◌||◌}
use Rattle.eid_paths.specs.Elements.{is_throughout}
use Rattle.act_tree.specs.Seen.{tree_view}
use Rattle.act_tree.proofs.Frames.{or_left}
use Rattle.textual_mods.specs.Insertions.{is_root}
use Rattle.textual_mods.proofs.InsertedTrees.{root_told}
use Rattle.textual_mods.proofs.inserting.begins_below.Goals as goal

pub returns-then-eq : goal.returns-then-eq
returns-then-eq c =
    let t = c.args.tree.now in
    let root : is_root t c.args.parent ≡ true = sym (root_told t c.args.parent c.root.result c.eq.result c.requires c.root.ensures.root c.eq.ensures) ∙ c.if-eq.true in
    sym (or_left (is_root t c.args.parent) (is_throughout (tree_view t).numbering c.args.element) root)

pub returns : goal.returns
returns c =
    let t = c.args.tree.now in
    let other : is_root t c.args.parent ≡ false = sym (root_told t c.args.parent c.root.result c.eq.result c.requires c.root.ensures.root c.eq.ensures) ∙ c.if-eq.false in
    c.has.ensures ∙ ap (λ m. is_throughout m c.args.element) c.numbering.ensures
    ∙ sym (ap (λ (s : Bool). s || is_throughout (tree_view t).numbering c.args.element) other)
