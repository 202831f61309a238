use Rattle.std.proofs.Common.{◌==◌, ◌∙◌, ap}
use Rattle.std.specs.List.{list_any}
use Rattle.law_register.specs.Register.Drafts.{draft_of}
use Rattle.law_register.specs.Register.Indexes.{drafter_mark, items_in, ItemsStand}
use Rattle.law_register.specs.Register.Registers.{Contents}
use Rattle.law_register.specs.Register.Verdicts.{has_item}
use Rattle.law_register.proofs.Lookups.{items_any}
use Rattle.law_register.proofs.register.register.Register.has_item.Goals as goal

pub returns-in-Some : goal.returns-in-Some
returns-in-Some c =
    let d = c.args.drafter.now in
    let E = c.self.inside.entries.items in
    let ix = c.self.inside.indexes in
    let marks = items_in (drafter_mark ix d) in
    let items = draft_of d E in
    let stands : ItemsStand E marks items = (c.self.invariant.stands.drafts d).items in
    (c.has_item.ensures ∙ ap (list_any (λ k. k.item == c.args.item)) c.deref.ensures.0) ∙ ap (λ m. list_any (λ k. k.item == c.args.item) (items_in m)) c.in-Some.ensures ∙ items_any c.args.item E marks items stands ∙ ap (λ (s : Contents). has_item c.args.item (draft_of d s.entries)) c.self.view_is
