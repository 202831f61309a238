use Rattle.std.proofs.Common.{◌≡◌, ◌∙◌, ◌-◌, List, ℕ, length, take, drop, sym, ap, subst, arith, length-drop}
use Rattle.std.proofs.lemmas.List.{take_all}
use Rattle.law_journal.specs.MemoryDisks.{HeldBytes, begun, after_changes, outlook_of, image_of, picked}
use Rattle.law_journal.specs.declared.history.Change.{Change}
use Rattle.law_journal.proofs.Histories.{image_left}
use Rattle.law_journal.proofs.history.History.image.Goals as goal

pub returns-clause-left : goal.returns-clause-left
returns-clause-left c =
    let h = c.self.inside in
    let inv = c.self.invariant in
    let pick = c.args.pick in
    let held = after_changes (begun h.first.items 0 0) h.written.items h.changes.items in
    let synced : c.deref-2.result.now ≡ held.synced = c.deref-2.ensures.value ∙ sym inv.1 in
    let bytes : c.deref-3.result.now ≡ held.bytes = c.deref-3.ensures.value ∙ sym inv.0 in
    let changes : List Change = c.deref.result.now in
    let later = take (length changes - h.settled) (drop h.settled changes) in
    let waiting : later ≡ held.waiting = take_all (length changes - h.settled) (drop h.settled changes) (omega (arith, length-drop h.settled changes)) ∙ ap (λ (l : List Change). drop h.settled l) c.deref.ensures.value ∙ sym inv.2 in
    let is : c.in_ok-image.image.items ≡ image_of pick held =
    c.in_ok-image.ensures
    ∙ ap (λ (l : List ℕ). picked pick l c.deref-3.result.now later) synced
    ∙ ap (λ (l : List ℕ). picked pick held.synced l later) bytes
    ∙ ap (λ (l : List Change). picked pick held.synced held.bytes l) waiting in
    subst (λ (file : List ℕ). (outlook_of c.args.self.now.bytes c.args.self.now.pasts).may_leave file) (sym is)
    (subst (λ (x : HeldBytes). (outlook_of x.bytes x.pasts).may_leave (image_of pick held)) c.self.view_is (image_left pick h.first.items h.written.items h.changes.items inv.4 inv.3))
