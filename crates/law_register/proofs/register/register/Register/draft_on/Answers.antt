use Rattle.std.proofs.Common.{◌≡◌, ◌≤◌, ◌∙◌, ap, IfOk, Ok, Err, Result, subst, sym, filter, length, List, arith}
use Rattle.std.specs.Str.{bytes_eq}
use Rattle.law_register.specs.declared.register.draft.DraftItem.{DraftItem}
use Rattle.law_register.specs.Register.Drafts.{draft_of, items_of}
use Rattle.law_register.specs.Register.Indexes.{drafter_mark, items_in, marks_work, ItemsStand}
use Rattle.law_register.specs.Register.Registers.{Contents}
use Rattle.law_register.specs.Register.Listing.{items_marked}
use Rattle.law_register.proofs.Limits.{filter_few, legal_draft}
use Rattle.law_register.proofs.Lookups.{items_are, items_filed}
use Rattle.law_register.proofs.register.register.Register.draft_on.Goals as goal

few : {E : Type 0} (told : Result (List DraftItem) E) (items : List DraftItem) → IfOk told (λ draft. draft ≡ items) → length items ≤ 64 → IfOk told (λ draft. length draft ≤ 64)
few (Ok draft) items is h = subst (λ (l : List DraftItem). length l ≤ 64) (sym is) h
few (Err fault) items is h = tt

pub returns-in-Some-clause-items : goal.returns-in-Some-clause-items
returns-in-Some-clause-items c =
    let d = c.args.drafter.now in
    let w = c.args.work.now in
    let E = c.self.inside.entries.items in
    let marks = items_in (drafter_mark c.self.inside.indexes d) in
    let items = draft_of d E in
    let stands : ItemsStand E marks items = (c.self.invariant.stands.drafts d).items in
    let same : items_marked c.deref-in-Some-2.result.now c.deref-in-Some-3.result.now ≡ items_of w (draft_of d c.args.self.now.entries) =
    ap (λ es. items_marked es c.deref-in-Some-3.result.now) c.deref-in-Some-2.ensures.value
    ∙ ap (items_marked E) (c.deref-in-Some-3.ensures.0 ∙ c.items_of-marks.ensures
    ∙ ap (λ es. filter (marks_work es w) c.deref-in-Some.result.now) c.deref.ensures.value
    ∙ ap (filter (marks_work E w)) c.deref-in-Some.ensures.0
    ∙ ap (λ m. filter (marks_work E w) (items_in m)) c.in-Some.ensures)
    ∙ items_are E (filter (marks_work E w) marks) (items_of w items) (items_filed w E marks items stands)
    ∙ ap (λ (s : Contents). items_of w (draft_of d s.entries)) c.self.view_is in
    let P : List DraftItem → Type 0 = λ l. IfOk c.items_told.result (λ draft. draft ≡ l) in
    subst P same c.items_told.ensures

pub returns-in-Some-clause-most : goal.returns-in-Some-clause-most
returns-in-Some-clause-most c =
    let d = c.args.drafter.now in
    let w = c.args.work.now in
    let E = c.self.inside.entries.items in
    let small : length (items_of w (draft_of d E)) ≤ 64 =
    omega (arith, filter_few (λ (i : DraftItem). bytes_eq i.work w) (draft_of d E), legal_draft d E c.self.invariant.legal) in
    let now : length (items_of w (draft_of d c.args.self.now.entries)) ≤ 64 =
    subst (λ (s : Contents). length (items_of w (draft_of d s.entries)) ≤ 64) c.self.view_is small in
    few c.items_told.result (items_of w (draft_of d c.args.self.now.entries)) (returns-in-Some-clause-items c) now
