-- An arena of the same slots and the same wIds holds the same text.
use Rattle.std.proofs.Common.{◌≡◌, sym, ap, refl, subst, ℕ, List, length, Option}
use Rattle.act_tree.specs.declared.arena.Arena.{Arena}
use Rattle.act_tree.specs.declared.arena.Slot.{Slot}
use Rattle.act_tree.specs.Arena.{Laid, below_in, branches_below, IsWhole}
use Rattle.act_tree.specs.Branches.{Branches}
use Rattle.act_tree.specs.LastNumbers.{last_named}
use Rattle.act_tree.specs.Provisions.{Provision}
use Rattle.act_tree.specs.Slots.{at, laid, number, size}
use Rattle.act_tree.proofs.Building.{Holds}

pub held_too : (old new : Arena) → new.slots.items ≡ old.slots.items → new.numbers.wids ≡ old.numbers.wids → IsWhole (at old) (number old) (size old)
    → Holds new (branches_below (size old) (at old) (below_in (at old 0)))
held_too old new slots wids whole =
    let body : Branches Provision = branches_below (size old) (at old) (below_in (at old 0)) in
    let P : (ℕ → Option Laid) → (List ℕ → Option ℕ) → ℕ → Type 0 = λ f leads n. IsWhole f leads n × (branches_below n f (below_in (f 0)) ≡ body) in
    let laid_same : at old ≡ at new = sym (ap (λ (ss : List Slot). laid ss) slots) in
    let leads_same : number old ≡ number new = sym (ap (λ (ws : List (List ℕ)). last_named ws) wids) in
    let size_same : size old ≡ size new = sym (ap (λ (ss : List Slot). length ss) slots) in
    let both : P (at new) (number new) (size new) =
    subst (λ (n : ℕ). P (at new) (number new) n) size_same
    (subst (λ (leads : List ℕ → Option ℕ). P (at new) leads (size old)) leads_same
    (subst (λ (f : ℕ → Option Laid). P f (number old) (size old)) laid_same (whole, refl))) in
    record { whole = both.0; reads = both.1 }
