use Rattle.std.proofs.Common.{◌≡◌, ◌∙◌, ap, IfOk, subst, List}
use Rattle.law_register.specs.declared.register.draft.DraftItem.{DraftItem}
use Rattle.law_register.specs.Register.Drafts.{draft_of}
use Rattle.law_register.specs.Register.Indexes.{drafter_mark, items_in, ItemsStand}
use Rattle.law_register.specs.Register.Registers.{Contents}
use Rattle.law_register.specs.Register.Listing.{items_marked}
use Rattle.law_register.proofs.Lookups.{items_are}
use Rattle.law_register.proofs.register.register.Register.draft.Goals as goal

pub returns-in-Some : goal.returns-in-Some
returns-in-Some c =
    let d = c.args.drafter.now in
    let E = c.self.inside.entries.items in
    let ix = c.self.inside.indexes in
    let marks = items_in (drafter_mark ix d) in
    let items = draft_of d E in
    let stands : ItemsStand E marks items = (c.self.invariant.stands.drafts d).items in
    let same : items_marked c.deref.result.now c.deref-in-Some.result.now ≡ draft_of d c.args.self.now.entries =
    ap (λ es. items_marked es c.deref-in-Some.result.now) c.deref.ensures.value
    ∙ ap (items_marked E) c.deref-in-Some.ensures.0 ∙ ap (λ m. items_marked E (items_in m)) c.in-Some.ensures
    ∙ items_are E marks items stands ∙ ap (λ (s : Contents). draft_of d s.entries) c.self.view_is in
    let P : List DraftItem → Type 0 = λ l. IfOk c.items_told.result (λ draft. draft ≡ l) in
    subst P same c.items_told.ensures
