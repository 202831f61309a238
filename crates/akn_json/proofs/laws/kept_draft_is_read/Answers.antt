use Rattle.std.proofs.Common.{ap, ◌∙◌}
use Rattle.akn_json.specs.Reading.Drafts.{are_spelled_items, can_spell_items}
use Rattle.akn_json.proofs.ReadBack.Registers.{draft_spelled, draft_able}
use Rattle.akn_json.proofs.laws.kept_draft_is_read.Goals as goal

pub returns : goal.returns
returns c =
    let entries = c.args.register.now.entries in
    c.printed_draft_is_read.ensures
    (ap are_spelled_items c.requires ∙ draft_spelled c.args.drafter.now entries c.entries_are_well_spelled.ensures)
    (ap can_spell_items c.requires ∙ draft_able c.args.drafter.now entries c.entries_can_be_spelled.ensures)
