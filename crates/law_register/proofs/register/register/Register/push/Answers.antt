use Rattle.std.proofs.Common.{◌≡◌, ◌∙◌, sym, ap, subst, List, true}
use Rattle.law_register.specs.declared.register.entry.Entry.{Entry}
use Rattle.law_register.specs.Register.Marks.{CanNote, IsNoted}
use Rattle.law_register.specs.Register.Registers.{Contents, IsKept}
use Rattle.law_register.specs.Register.Verdicts.{reply_to, is_accepted, verdict}
use Rattle.law_register.proofs.Legal.{accepted_new}
use Rattle.law_register.proofs.Limits.{can_note}
use Rattle.law_register.proofs.Pushing.{noted}
use Rattle.law_register.proofs.register.register.Register.push.Goals as goal

pub note-requires-clause-fits : goal.note-requires-clause-fits
note-requires-clause-fits c =
    let e = c.args.entry in
    let E = c.self.inside.entries.items in
    let P : List Entry → Type 0 = λ es. is_accepted e.law (verdict es e.drafter e.request e.command) ≡ true in
    let C : List Entry → Type 0 = λ es. CanNote c.self.inside.indexes es e in
    subst C (sym c.deref.ensures.value)
    (can_note c.self.inside.indexes E e c.self.invariant
    (accepted_new E e.drafter e.request e.command e.law (subst P (sym (ap (λ (s : Contents). s.entries) c.self.view_is)) c.requires.accepted)))

pub invariant_of-self : goal.invariant_of-self
invariant_of-self c =
    let e = c.args.entry in
    let E = c.self.inside.entries.items in
    let reply = c.reply_to-reply.result in
    let old = c.self.inside.indexes in
    let new = c.note.new.self in
    let P : List Entry → Type 0 = λ es. is_accepted e.law (verdict es e.drafter e.request e.command) ≡ true in
    let N : List Entry → Type 0 = λ es. IsNoted old new es e reply in
    let back = sym (ap (λ (s : Contents). s.entries) c.self.view_is) in
    subst (IsKept new) (sym c.push_reserved.ensures.items)
    (noted old new E e reply c.self.invariant (subst P back c.requires.accepted) c.requires.spelled
    (c.reply_to-reply.ensures ∙ ap (λ es. reply_to es e.drafter e.command) back) (subst N c.deref.ensures.value c.note.ensures))
