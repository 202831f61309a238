use Rattle.std.proofs.Common.{◌≡◌, ◌∙◌, sym, ap, Bool, true, false, ◌||◌, refl, List, ℕ}
use Rattle.std.specs.Str.{bytes_eq}
use Rattle.eid_paths.specs.Elements.{is_throughout}
use Rattle.eid_paths.specs.Levels.{level_text}
use Rattle.act_tree.specs.EidLevels.{own_level}
use Rattle.act_tree.specs.Seen.{tree_view, provision_at}
use Rattle.act_tree.specs.Wids.{is_among}
use Rattle.act_tree.proofs.LevelsNoted.{level_of_one}
use Rattle.act_tree.proofs.levels.goes_on_at.Goals as goal

or_none : (s : Bool) → (s || false) ≡ s
or_none true = refl
or_none false = refl

pub returns-then-has : goal.returns-then-has
returns-then-has c =
    let t = c.args.tree.now in
    let slot = c.slot-slot.result.now in
    let through : is_throughout (tree_view t).numbering (provision_at t c.args.id).own.element ≡ true =
    sym (c.has.ensures ∙ ap (λ m. is_throughout m slot.element) c.numbering.ensures ∙ ap (λ p. is_throughout (tree_view t).numbering p.own.element) c.slot-slot.ensures) ∙ c.if-has.true in
    sym (ap (is_among (level_text c.args.element c.args.num.now)) (level_of_one t c.args.id true through))

pub returns-else-has : goal.returns-else-has
returns-else-has c =
    let t = c.args.tree.now in
    let slot = c.slot-slot.result.now in
    let x : List ℕ = level_text c.args.element c.args.num.now in
    let other : is_throughout (tree_view t).numbering (provision_at t c.args.id).own.element ≡ false =
    sym (c.has.ensures ∙ ap (λ m. is_throughout m slot.element) c.numbering.ensures ∙ ap (λ p. is_throughout (tree_view t).numbering p.own.element) c.slot-slot.ensures) ∙ c.if-has.false in
    c.is_level.ensures
    ∙ ap (λ p. bytes_eq x (own_level p.own)) c.slot-slot.ensures
    ∙ sym (or_none (bytes_eq x (own_level (provision_at t c.args.id).own)))
    ∙ sym (ap (is_among x) (level_of_one t c.args.id false other))
