-- The part at the index spells the level there, since the whole text is read.
use Rattle.std.proofs.Common.{Some, ap, sym, ◌∙◌}
use Rattle.std.specs.Prelude.{option_map}
use Rattle.eid_paths.specs.Levels.{level_of}
use Rattle.eid_paths.proofs.LevelLaws.{level_there, some_from, same_part, ok_from, ok_same}
use Rattle.eid_paths.proofs.eid.Eid.level.Goals as goal

pub unwrap-part-requires : goal.unwrap-part-requires
unwrap-part-requires c =
    let there = level_there c.self.inside.text.now c.args.self.now c.args.i c.self.view_is c.self.invariant.0 c.requires in
    some_from c.nth_part.result there.part (c.nth_part.ensures ∙ there.at_part)

pub unwrap-requires : goal.unwrap-requires
unwrap-requires c =
    let there = level_there c.self.inside.text.now c.args.self.now c.args.i c.self.view_is c.self.invariant.0 c.requires in
    let part = same_part c.unwrap-part.result there.part (sym (ap (option_map (λ s. s.now)) c.unwrap-part.ensures) ∙ c.nth_part.ensures ∙ there.at_part) in
    ok_from c.level_of.result there.level (c.level_of.ensures ∙ ap level_of part ∙ there.spells)

pub returns : goal.returns
returns c =
    let there = level_there c.self.inside.text.now c.args.self.now c.args.i c.self.view_is c.self.invariant.0 c.requires in
    let part = same_part c.unwrap-part.result there.part (sym (ap (option_map (λ s. s.now)) c.unwrap-part.ensures) ∙ c.nth_part.ensures ∙ there.at_part) in
    there.at_level ∙ ap Some (sym (ok_same c.level_of.result c.unwrap.result there.level c.unwrap.ensures (c.level_of.ensures ∙ ap level_of part ∙ there.spells)))
