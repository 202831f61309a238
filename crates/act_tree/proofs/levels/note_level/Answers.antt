use Rattle.std.proofs.Common.{◌≡◌, ◌∙◌, sym, ap, true, false, [], ◌∷◌}
use Rattle.eid_paths.specs.Elements.{is_throughout}
use Rattle.eid_paths.specs.Levels.{level_text}
use Rattle.act_tree.specs.Seen.{tree_view, provision_at}
use Rattle.act_tree.specs.Slots.{provision_of}
use Rattle.act_tree.specs.Surveys.{with_eid, gathered, repeats}
use Rattle.act_tree.proofs.LevelsNoted.{level_of_one, noted_one}
use Rattle.act_tree.proofs.levels.note_level.Goals as goal

pub returns-then-has-clause-noted : goal.returns-then-has-clause-noted
returns-then-has-clause-noted c =
    let t = c.args.tree.now in
    let slot = c.slot-slot.result.now in
    let through : is_throughout (tree_view t).numbering (provision_at t c.args.id).own.element ≡ true =
    sym (c.has.ensures ∙ ap (λ m. is_throughout m slot.element) c.numbering.ensures ∙ ap (λ p. is_throughout (tree_view t).numbering p.own.element) c.slot-slot.ensures) ∙ c.if-has.true in
    sym (ap (gathered c.args.levels.now.keys) (level_of_one t c.args.id true through))

pub returns-then-has-clause-again : goal.returns-then-has-clause-again
returns-then-has-clause-again c =
    let t = c.args.tree.now in
    let slot = c.slot-slot.result.now in
    let through : is_throughout (tree_view t).numbering (provision_at t c.args.id).own.element ≡ true =
    sym (c.has.ensures ∙ ap (λ m. is_throughout m slot.element) c.numbering.ensures ∙ ap (λ p. is_throughout (tree_view t).numbering p.own.element) c.slot-slot.ensures) ∙ c.if-has.true in
    sym (ap (repeats c.args.levels.now.keys) (level_of_one t c.args.id true through))

pub returns-clause-noted : goal.returns-clause-noted
returns-clause-noted c =
    let t = c.args.tree.now in
    let slot = c.slot-slot.result.now in
    let says : provision_of slot ≡ provision_at t c.args.id = c.slot-slot.ensures in
    let other : is_throughout (tree_view t).numbering (provision_at t c.args.id).own.element ≡ false =
    sym (c.has.ensures ∙ ap (λ m. is_throughout m slot.element) c.numbering.ensures ∙ ap (λ p. is_throughout (tree_view t).numbering p.own.element) says) ∙ c.if-has.false in
    let level : c.in_ok-level.level ≡ level_text (provision_at t c.args.id).own.element (provision_at t c.args.id).own.num =
    c.in_ok-level.ensures ∙ ap (λ p. level_text p.own.element p.own.num) says in
    c.in_ok-added.ensures.keys
    ∙ ap (with_eid c.args.levels.now.keys) level
    ∙ sym (ap (gathered c.args.levels.now.keys) (level_of_one t c.args.id false other))

pub returns-clause-again : goal.returns-clause-again
returns-clause-again c =
    let t = c.args.tree.now in
    let slot = c.slot-slot.result.now in
    let says : provision_of slot ≡ provision_at t c.args.id = c.slot-slot.ensures in
    let other : is_throughout (tree_view t).numbering (provision_at t c.args.id).own.element ≡ false =
    sym (c.has.ensures ∙ ap (λ m. is_throughout m slot.element) c.numbering.ensures ∙ ap (λ p. is_throughout (tree_view t).numbering p.own.element) says) ∙ c.if-has.false in
    let level : c.in_ok-level.level ≡ level_text (provision_at t c.args.id).own.element (provision_at t c.args.id).own.num =
    c.in_ok-level.ensures ∙ ap (λ p. level_text p.own.element p.own.num) says in
    noted_one c.args.levels.now.keys c.in_ok-level.level c.in_ok-added.added c.in_ok-added.ensures.added
    ∙ ap (λ w. repeats c.args.levels.now.keys (w ∷ [])) level
    ∙ sym (ap (repeats c.args.levels.now.keys) (level_of_one t c.args.id false other))
