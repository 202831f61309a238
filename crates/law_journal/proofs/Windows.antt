-- What a window holds of a disk.
use Rattle.std.proofs.Common.{◌≡◌, ℕ, ◌+◌, ◌-◌, ◌≤◌, List, length, take, drop, sym, ◌∙◌, ap, subst, arith, ◌++◌, length-append, length-take, length-drop}
use Rattle.std.proofs.lemmas.List.{take_all, take-take, drop-take, drop-drop}
use Rattle.std.proofs.Math.Seq.{take-add, take-append-add}
use Rattle.law_journal.specs.Disks.{Outlook, Idles, Gives}
use Rattle.law_journal.specs.Windows.{IsWindow}
use Rattle.law_journal.specs.declared.window.Window.{Window}

module _ (bytes seen : List ℕ) (start held : ℕ) (same : take held bytes ≡ take held (drop start seen)) where
  -- so many bytes from an index on are the disk's from that place on
  pub piece_same : (at m count : ℕ) → held ≡ at + m → count ≤ m → take count (drop at bytes) ≡ take count (drop (start + at) seen)
  piece_same at m count is le =
      let ours : drop at (take held bytes) ≡ take m (drop at bytes) = ap (λ h. drop at (take h bytes)) is ∙ drop-take at m bytes in
      let theirs : drop at (take held (drop start seen)) ≡ take m (drop (start + at) seen) =
      ap (λ h. drop at (take h (drop start seen))) is ∙ drop-take at m (drop start seen) ∙ ap (λ (l : List ℕ). take m l) (drop-drop at start seen) in
      let both : take m (drop at bytes) ≡ take m (drop (start + at) seen) = sym ours ∙ ap (λ (l : List ℕ). drop at l) same ∙ theirs in
      sym (take-take count m (drop at bytes) le) ∙ ap (λ (l : List ℕ). take count l) both ∙ take-take count m (drop (start + at) seen) le

  held_there : held ≤ length bytes → held ≤ length seen - start
  held_there within = omega (arith, ap length same, length-take held bytes, length-take held (drop start seen), length-drop start seen)

  -- what is copied out of the piece is what a read gives
  pub copied : (into : List ℕ) (at place count : ℕ) → held ≤ length bytes → place ≡ start + at → at + count ≤ held → into ≡ take count (drop at bytes) → Gives seen place (length into) into
  copied into at place count within is le are =
      let long : length into ≡ count = ap length are ∙ omega (arith, length-take count (drop at bytes), length-drop at bytes, within, le) in
      let there = held_there within in
      record {
        count = omega (arith, long, there, is, le);
        bytes = ap (λ n. take n into) long ∙ ap (λ (l : List ℕ). take count l) are ∙ take-take count count (drop at bytes) (omega arith)
            ∙ piece_same at (held - at) count (omega (arith, le)) (omega (arith, le)) ∙ ap (λ p. take count (drop p seen)) (sym is) ∙ ap (λ n. take n (drop place seen)) (sym long);
      }

-- what the piece gives, and what is read behind it, are what a read gives
pub joined : (seen front rest : List ℕ) (place m n : ℕ) → m ≡ length front → Gives seen place (length front) front → Gives seen (place + m) n rest
    → Gives seen place (m + n) (front ++ rest)
joined seen front rest place m n long before behind =
    let front_is : front ≡ take m (drop place seen) =
    sym (take_all (length front) front (omega arith)) ∙ before.bytes ∙ ap (λ k. take k (drop place seen)) (sym long) in
    let rest_is : take n rest ≡ take n (drop m (drop place seen)) = behind.bytes ∙ ap (λ (l : List ℕ). take n l) (sym (drop-drop m place seen)) in
    record {
      count = omega (arith, long, before.count, behind.count, length-append front rest);
      bytes = ap (λ k. take (k + n) (front ++ rest)) long ∙ take-append-add front rest n ∙ ap (λ (l : List ℕ). l ++ take n rest) front_is
          ∙ ap (λ (l : List ℕ). take m (drop place seen) ++ l) rest_is ∙ sym (take-add m n (drop place seen));
    }

-- what a read gives is still there after it
pub still_there : (o n : Outlook) (place held : ℕ) (bytes : List ℕ) → Idles o n → (o.tells → Gives o.seen place held bytes) → n.tells → take held bytes ≡ take held (drop place n.seen)
still_there o n place held bytes idle gives t = (gives (idle.tells.1 t)).bytes ∙ ap (λ (l : List ℕ). take held (drop place l)) (sym idle.seen)

-- the fields of a window that was read as a whole
pub record IsFilled (n : Outlook) (place held : ℕ) (bytes : List ℕ) : Type 0 where
  pub within : held ≤ length bytes
  pub same : n.tells → take held bytes ≡ take held (drop place n.seen)

pub filled : (o n : Outlook) (place held : ℕ) (bytes into : List ℕ) → bytes ≡ into → Idles o n → held ≤ length into → (o.tells → Gives o.seen place held into) → IsFilled n place held bytes
filled o n place held bytes into are idle within gives =
    subst (IsFilled n place held) (sym are) (record { within = within; same = still_there o n place held into idle gives })

-- a window that holds nothing is one of any disk
pub empty_window : (o : Outlook) (w : Window) → w.held ≡ 0 → IsWindow o w
empty_window o w none = record {
  within = omega (arith, none);
  same = λ t. ap (λ n. take n w.bytes.items) none ∙ sym (ap (λ n. take n (drop w.start o.seen)) none);
}
