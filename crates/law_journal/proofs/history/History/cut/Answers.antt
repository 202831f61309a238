use Rattle.std.proofs.Common.{◌≤◌, ◌∙◌, ◌++◌, ◌-◌, [], ◌∷◌, ℕ, List, length, take, refl, sym, ap, arith, length-take}
use Rattle.std.proofs.lemmas.List.{append-nil}
use Rattle.law_journal.specs.MemoryDisks.{HeldBytes, begun, after_cut, with_room}
use Rattle.law_journal.specs.declared.history.Change.{Change}
use Rattle.law_journal.specs.declared.history.Change.TheVariants as change
use Rattle.law_journal.proofs.Histories.{held_more, all_within_more, whole_more, length_more, waiting_more}
use Rattle.law_journal.proofs.history.History.cut.Goals as goal

pub invariant_of-self : goal.invariant_of-self
invariant_of-self c =
    let h = c.self.inside in
    let inv = c.self.invariant in
    let done = change.Cut c.args.len in
    let first = begun h.first.items 0 0 in
    let same = sym (append-nil h.written.items) in
    let held = held_more first h.written.items h.changes.items inv.4 done [] h.written.items c.note.new.changes.items refl same c.note.ensures.items in
    let last : 1 ≤ h.left = omega (arith, c.requires, ap (λ (x : HeldBytes). x.left) c.self.view_is) in
    let size : length c.truncate.new.self.items ≤ length h.bytes.items =
    omega (arith, ap (λ (l : List ℕ). length l) c.truncate.ensures.items, length-take c.args.len h.bytes.items) in
    let more = length_more h.changes.items c.note.new.changes.items done c.note.ensures.items in (
      ap (λ (x : HeldBytes). x.bytes) held ∙ ap (λ (l : List ℕ). take c.args.len l) inv.0 ∙ sym c.truncate.ensures.items,
      ap (λ (x : HeldBytes). x.synced) held ∙ inv.1,
      ap (λ (x : HeldBytes). x.waiting) held ∙ ap (λ (l : List Change). l ++ done ∷ []) inv.2 ∙ waiting_more h.changes.items c.note.new.changes.items done h.settled c.note.ensures.items inv.5,
      all_within_more first h.written.items h.changes.items inv.4 done [] h.written.items c.note.new.changes.items refl same c.note.ensures.items inv.3 refl,
      whole_more first h.written.items h.changes.items inv.4 done [] h.written.items c.note.new.changes.items refl same c.note.ensures.items,
      omega (arith, inv.5, more),
      omega (arith, inv.6, size, c.truncate.ensures.capacity),
      omega (arith, inv.7, size),
      inv.8,
      omega (arith, inv.9, more, last, c.note.ensures.room),
    )

pub returns : goal.returns
returns c =
    let h = c.self.inside in
    let inv = c.self.invariant in
    ap (λ (x : HeldBytes). with_room h.room (h.left - 1) x)
    (held_more (begun h.first.items 0 0) h.written.items h.changes.items inv.4 (change.Cut c.args.len) [] h.written.items c.note.new.changes.items refl (sym (append-nil h.written.items)) c.note.ensures.items)
    ∙ ap (λ (x : HeldBytes). after_cut c.args.len x) c.self.view_is
