use Rattle.std.proofs.Common.{◌≡◌, ◌≤◌, ◌∙◌, ◌++◌, ◌-◌, ℕ, [], List, refl, sym, ap, arith}
use Rattle.std.proofs.lemmas.List.{append-nil, drop_all}
use Rattle.law_journal.specs.MemoryDisks.{HeldBytes, begun, after_sync, with_room}
use Rattle.law_journal.specs.declared.history.Change.TheVariants as change
use Rattle.law_journal.proofs.Histories.{held_more, all_within_more, whole_more, length_more}
use Rattle.law_journal.proofs.history.History.sync.Goals as goal

pub invariant_of-self : goal.invariant_of-self
invariant_of-self c =
    let h = c.self.inside in
    let inv = c.self.invariant in
    let done = change.Sync in
    let first = begun h.first.items 0 0 in
    let same = sym (append-nil h.written.items) in
    let held = held_more first h.written.items h.changes.items inv.4 done [] h.written.items c.note.new.changes.items refl same c.note.ensures.items in
    let last : 1 ≤ h.left = omega (arith, c.requires, ap (λ (x : HeldBytes). x.left) c.self.view_is) in
    let more = length_more h.changes.items c.note.new.changes.items done c.note.ensures.items in
    let synced : c.put_behind.new.bytes.items ≡ h.bytes.items =
    c.put_behind.ensures.items ∙ ap (λ (l : List ℕ). l ++ c.deref.result.now) c.truncate.ensures.items ∙ c.deref.ensures.value in (
      ap (λ (x : HeldBytes). x.bytes) held ∙ inv.0,
      ap (λ (x : HeldBytes). x.synced) held ∙ inv.0 ∙ sym synced,
      ap (λ (x : HeldBytes). x.waiting) held ∙ sym (drop_all c.len-self-inside.result c.note.new.changes.items (omega (arith, c.len-self-inside.ensures))),
      all_within_more first h.written.items h.changes.items inv.4 done [] h.written.items c.note.new.changes.items refl same c.note.ensures.items inv.3 refl,
      whole_more first h.written.items h.changes.items inv.4 done [] h.written.items c.note.new.changes.items refl same c.note.ensures.items,
      omega (arith, c.len-self-inside.ensures),
      inv.6,
      omega (arith, inv.7, c.truncate.ensures.capacity, c.put_behind.ensures.room),
      inv.8,
      omega (arith, inv.9, more, last, c.note.ensures.room),
    )

pub returns : goal.returns
returns c =
    let h = c.self.inside in
    let inv = c.self.invariant in
    ap (λ (x : HeldBytes). with_room h.room (h.left - 1) x)
    (held_more (begun h.first.items 0 0) h.written.items h.changes.items inv.4 change.Sync [] h.written.items c.note.new.changes.items refl (sym (append-nil h.written.items)) c.note.ensures.items)
    ∙ ap (λ (x : HeldBytes). after_sync x) c.self.view_is
