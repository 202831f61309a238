use Rattle.std.proofs.Common.{◌∙◌, ap, filter, length}
use Rattle.law_register.specs.Register.Drafts.{draft_of, items_of}
use Rattle.law_register.specs.Register.Indexes.{drafter_mark, items_in, marks_work, ItemsStand}
use Rattle.law_register.specs.Register.Registers.{Contents}
use Rattle.law_register.proofs.Lookups.{items_counted}
use Rattle.law_register.proofs.register.register.Register.items_of.Goals as goal

pub returns-in-Some : goal.returns-in-Some
returns-in-Some c =
    let d = c.args.drafter.now in
    let E = c.self.inside.entries.items in
    let ix = c.self.inside.indexes in
    let marks = items_in (drafter_mark ix d) in
    let items = draft_of d E in
    let stands : ItemsStand E marks items = (c.self.invariant.stands.drafts d).items in
    c.len.ensures.value ∙ ap length c.items_of.ensures
    ∙ ap (λ es. length (filter (marks_work es c.args.work.now) c.deref-in-Some.result.now)) c.deref.ensures.value
    ∙ ap (λ ms. length (filter (marks_work E c.args.work.now) ms)) c.deref-in-Some.ensures.0
    ∙ ap (λ m. length (filter (marks_work E c.args.work.now) (items_in m))) c.in-Some.ensures ∙ items_counted c.args.work.now E marks items stands ∙ ap (λ (s : Contents). length (items_of c.args.work.now (draft_of d s.entries))) c.self.view_is
