use Rattle.std.proofs.Common.{◌≡◌, ◌≤◌, ◌∙◌, ◌+◌, ◌++◌, ◌-◌, [], ◌∷◌, ℕ, List, length, refl, sym, ap, arith, length-append}
use Rattle.law_journal.specs.Disks.{overwritten}
use Rattle.law_journal.specs.MemoryDisks.{HeldBytes, begun, after_changes, after_write, with_room}
use Rattle.law_journal.specs.declared.history.Change.{Change}
use Rattle.law_journal.specs.declared.history.Change.TheVariants as change
use Rattle.law_journal.proofs.Histories.{length_overwritten, held_more, all_within_more, whole_more, length_more, waiting_more, begins}
use Rattle.law_journal.proofs.history.History.write.Goals as goal

pub invariant_of-self : goal.invariant_of-self
invariant_of-self c =
    let h = c.self.inside in
    let inv = c.self.invariant in
    let place = c.args.place in
    let new : List ℕ = c.args.new.now in
    let done = change.Write place (length new) in
    let first = begun h.first.items 0 0 in
    let before = after_changes first h.written.items h.changes.items in
    let held = held_more first h.written.items h.changes.items inv.4 done new c.put_behind.new.bytes.items c.note.new.changes.items refl c.put_behind.ensures.items c.note.ensures.items in
    let there : place ≤ length before.bytes = omega (arith, c.requires.place, ap (λ (x : HeldBytes). length x.bytes) c.self.view_is) in
    let within : place ≤ length h.bytes.items = omega (arith, there, ap (λ (l : List ℕ). length l) inv.0) in
    let roomy : length new ≤ h.room = omega (arith, c.requires.room, ap (λ (x : HeldBytes). x.room) c.self.view_is) in
    let last : 1 ≤ h.left = omega (arith, c.requires.left, ap (λ (x : HeldBytes). x.left) c.self.view_is) in
    let size : length c.overwrite.new.bytes.items ≤ length h.bytes.items + length new =
    omega (arith, ap (λ (l : List ℕ). length l) c.overwrite.ensures.items, length_overwritten place new h.bytes.items within) in
    let more = length_more h.changes.items c.note.new.changes.items done c.note.ensures.items in
    let long : length c.put_behind.new.bytes.items ≡ length h.written.items + length new = ap (λ (l : List ℕ). length l) c.put_behind.ensures.items ∙ length-append h.written.items new in (
      ap (λ (x : HeldBytes). x.bytes) held ∙ ap (λ (l : List ℕ). overwritten place new l) inv.0 ∙ sym c.overwrite.ensures.items,
      ap (λ (x : HeldBytes). x.synced) held ∙ inv.1,
      ap (λ (x : HeldBytes). x.waiting) held ∙ ap (λ (l : List Change). l ++ done ∷ []) inv.2 ∙ waiting_more h.changes.items c.note.new.changes.items done h.settled c.note.ensures.items inv.5,
      all_within_more first h.written.items h.changes.items inv.4 done new c.put_behind.new.bytes.items c.note.new.changes.items refl c.put_behind.ensures.items c.note.ensures.items inv.3 (begins place before.bytes there),
      whole_more first h.written.items h.changes.items inv.4 done new c.put_behind.new.bytes.items c.note.new.changes.items refl c.put_behind.ensures.items c.note.ensures.items,
      omega (arith, inv.5, more),
      omega (arith, inv.6, size, roomy, c.overwrite.ensures.room),
      omega (arith, inv.7, size, roomy),
      omega (arith, inv.8, long, roomy, c.put_behind.ensures.room),
      omega (arith, inv.9, more, last, c.note.ensures.room),
    )

pub returns-clause-held : goal.returns-clause-held
returns-clause-held c =
    let h = c.self.inside in
    let inv = c.self.invariant in
    let place = c.args.place in
    let new : List ℕ = c.args.new.now in
    ap (λ (x : HeldBytes). with_room (h.room - length new) (h.left - 1) x)
    (held_more (begun h.first.items 0 0) h.written.items h.changes.items inv.4 (change.Write place (length new)) new c.put_behind.new.bytes.items c.note.new.changes.items refl c.put_behind.ensures.items c.note.ensures.items)
    ∙ ap (λ (x : HeldBytes). after_write place new x) c.self.view_is
