-- What the changes of a disk in memory leave.
use Rattle.std.proofs.Common.{◌≡◌, inl, inr, ⊎_elim, ℕ, ◌+◌, ◌≤◌, List, [], ◌∷◌, ◌++◌, length, take, drop, refl, sym, ◌∙◌, ap, subst, arith, append_assoc, length-append, length-take, length-drop}
use Rattle.std.proofs.lemmas.List.{take_all, take_at, drop_at, take_min}
use Rattle.law_journal.specs.Disks.{Outlook, Idles, Changes, Only, Torn, Cut, overwritten}
use Rattle.law_journal.specs.MemoryDisks.{Past, HeldBytes, Before, after_write, after_cut, after_sync, after_effect, images_after, no_image, outlook_of}
use Rattle.law_journal.specs.MemoryLaws.{push_to, elapses}
use Rattle.law_journal.specs.declared.history.Change.TheVariants as change

pub torn_none : (place n : ℕ) (c : List ℕ) → Torn place n c c
torn_none place n c = record { before = refl; after = refl; no_shorter = omega arith; no_longer = omega arith }

pub cut_none : (n : ℕ) (c : List ℕ) → Cut n c c
cut_none n c = record { no_shorter = omega arith; front = take_all (length c) c (omega arith) }

pub torn_written : (place : ℕ) (bytes old : List ℕ) → place ≤ length old → Torn place (length bytes) old (overwritten place bytes old)
torn_written place bytes old within =
    let head = take place old in
    let back = drop (place + length bytes) old in
    let long : length head ≡ place = omega (arith, length-take place old, within) in
    record {
      before = ap (λ (l : List ℕ). take place l) (append_assoc head bytes back) ∙ take_at head (bytes ++ back) place long;
      after = drop_at (head ++ bytes) back (place + length bytes) (omega (arith, long, length-append head bytes));
      no_shorter = omega (arith, long, length-append (head ++ bytes) back, length-append head bytes, length-drop (place + length bytes) old);
      no_longer = omega (arith, long, length-append (head ++ bytes) back, length-append head bytes, length-drop (place + length bytes) old);
    }

pub cut_taken : (n : ℕ) (old : List ℕ) → Cut n old (take n old)
cut_taken n old = record {
  no_shorter = omega (arith, length-take n old);
  front = ap (λ k. take k old) (length-take n old) ∙ take_min n old;
}

-- what is known of bytes with their changes
abbrev pub outlook : HeldBytes → Outlook
outlook h = outlook_of h.bytes h.pasts

module _ (old next : List ℕ) (pasts : List Past) (past : Past) where
  abbrev before : Outlook
  before = outlook_of old pasts

  abbrev after : Outlook
  after = outlook_of next (pasts ++ past ∷ [])

  -- a change whose images are those of a step
  stepped : (step : List ℕ → List ℕ → Type 0) → past.before ≡ old
      → ((c : List ℕ) → after_effect (images_after no_image pasts) past past.change c → (d : List ℕ) × Before (images_after no_image pasts) past d × step d c)
      → after_effect (images_after no_image pasts) past past.change old → step old next → Changes step before after
  stepped step was images stayed done = record {
    tells = (λ t. t, λ t. t);
    crash = λ t c left. ⊎_elim (λ same. (old, inl refl, subst (step old) (sym same) done)) (λ im. by_image c (images c (push_to no_image pasts past c im))) left;
    time = elapses old next pasts past stayed;
  }
    where
      by_image : (c : List ℕ) → (d : List ℕ) × Before (images_after no_image pasts) past d × step d c → (d : List ℕ) × before.may_leave d × step d c
      by_image c from = (from.0, ⊎_elim (λ im. inr im) (λ same. inl (same ∙ was)) from.1, from.2)

module _ (old mid new : HeldBytes) (same : mid ≡ old) where
  pub wrote : (place : ℕ) (bytes : List ℕ) → place ≤ length old.bytes → new ≡ after_write place bytes mid → Changes (Torn place (length bytes)) (outlook old) (outlook new)
  wrote place bytes within is =
      let n = length bytes in
      let past : Past = record { change = change.Write place n; before = old.bytes } in
      subst (λ (h : HeldBytes). Changes (Torn place n) (outlook old) (outlook h)) (sym (is ∙ ap (after_write place bytes) same))
      (stepped old.bytes (overwritten place bytes old.bytes) old.pasts past (Torn place n) refl (λ c im. im) (old.bytes, inr refl, torn_none place n old.bytes) (torn_written place bytes old.bytes within))

  pub was_cut : (n : ℕ) → new ≡ after_cut n mid → Changes (Cut n) (outlook old) (outlook new)
  was_cut n is =
      let past : Past = record { change = change.Cut n; before = old.bytes } in
      subst (λ (h : HeldBytes). Changes (Cut n) (outlook old) (outlook h)) (sym (is ∙ ap (after_cut n) same))
      (stepped old.bytes (take n old.bytes) old.pasts past (Cut n) refl (λ c im. im) (old.bytes, inr refl, cut_none n old.bytes) (cut_taken n old.bytes))

  abbrev synced_past : Past
  synced_past = record { change = change.Sync; before = old.bytes }

  only_synced : Only old.bytes (outlook (after_sync old)).may_leave
  only_synced = λ c left. ⊎_elim (λ is. is) (λ im. push_to no_image old.pasts synced_past c im) left

  -- after a sync there is what a read gives
  pub was_synced : new ≡ after_sync mid → Only new.bytes (outlook new).may_leave
  was_synced is = subst (λ (h : HeldBytes). Only h.bytes (outlook h).may_leave) (sym (is ∙ ap after_sync same)) only_synced

  pub idles_synced : new ≡ after_sync mid → Idles (outlook old) (outlook new)
  idles_synced is = subst (λ (h : HeldBytes). Idles (outlook old) (outlook h)) (sym (is ∙ ap after_sync same)) (record {
    tells = (λ t. t, λ t. t);
    seen = refl;
    crash = λ c left. inl (only_synced c left);
    time = elapses old.bytes old.bytes old.pasts synced_past refl;
  })
