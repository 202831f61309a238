-- The book of what was opened: memory alone may be wanting.
use Rattle.std.proofs.Common.{◌≡◌, ◌+◌, ◌≤◌, sym, subst, refl, arith, ℕ, List, Option, None, Result, Ok, Err}
use Rattle.std.specs.Prelude.{IfErr, IfOk}
use Rattle.law_keeper.specs.Keepers.{Holding}
use Rattle.law_keeper.specs.declared.readiness.Readiness.{Readiness}
use Rattle.law_register.specs.declared.desk.damage.Damage.{Damage}
use Rattle.law_register.specs.declared.desk.open_fault.OpenFault.{OpenFault}
use Rattle.law_register.specs.declared.desk.open_fault.OpenFault.TheVariants as fails
use Rattle.law_register.specs.declared.register.entry.Entry.{Entry}
use Rattle.law_register.specs.Answer.Renewing.{opening_cost}
use Rattle.law_register.specs.Register.Registers.{Contents}
use Rattle.law_refs.specs.Handing.{judged_at_opening}
use Rattle.law_office.specs.Offices.{Holds, HoldsBook, pending_of}
use Rattle.law_office.specs.Opening.{HasOpenCause, Opens, Refuses, StaysUnlessFailed, TakesRefused, cost_opened, opened_of}
use Rattle.law_office.specs.declared.book.Book.{Book}
use Rattle.law_office.specs.declared.book.Pending.{Pending}

pub opens_then : (made : Result Book OpenFault) (told : Result (List Entry) Damage) (register : Contents) → told ≡ Ok register.entries
    → IfErr made (λ fault. fault ≡ fails.Memory) → IfOk made (λ book. book.register ≡ register) → Opens (λ book. book.register.entries) made told
opens_then (Ok book) told register is memory same = subst (λ (r : Contents). told ≡ Ok r.entries) (sym same) is
opens_then (Err fault) told register is memory same = subst (λ (f : OpenFault). Refuses f told) (sym memory) tt

pub caused : (made : Result Book OpenFault) (before now : ℕ) → now ≡ before → IfErr made (λ fault. fault ≡ fails.Memory) → HasOpenCause before now made
caused (Ok book) before now same memory = same
caused (Err fault) before now same memory = subst (λ (f : OpenFault). HasOpenCause {A = Book} before now (Err f)) (sym memory) same

pub stays : (made : Result Book OpenFault) (before now : ℕ) → now ≡ before → IfErr made (λ fault. fault ≡ fails.Memory)
    → IfErr made (StaysUnlessFailed before now)
stays (Ok book) before now same memory = tt
stays (Err fault) before now same memory = subst (StaysUnlessFailed before now) (sym memory) same

pub holds : (made : Result Book OpenFault) (h : Holding) (readiness : Readiness) (register : Contents) (end : ℕ)
    → Holds h readiness register.entries None end → IfOk made (λ book. book.register ≡ register) → IfOk made (λ book. book.end ≡ end)
    → IfOk made (λ book. book.pending ≡ None) → IfOk made (HoldsBook h readiness)
holds (Ok book) h readiness register end held same ends none =
    subst (λ (r : Contents). Holds h readiness r.entries (pending_of book.pending) book.end) (sym same)
    (subst (λ (p : Option Pending). Holds h readiness register.entries (pending_of p) book.end) (sym none)
    (subst (λ (n : ℕ). Holds h readiness register.entries None n) (sym ends) held))
holds (Err fault) h readiness register end held same ends none = tt

pub none_pending : (made : Result Book OpenFault) (P Q : Book → Type 0) → IfOk made (λ book. (book.pending ≡ None) × P book × Q book)
    → IfOk made (λ book. book.pending ≡ None)
none_pending (Ok book) P Q new = new.0
none_pending (Err fault) P Q new = tt

pub spends : (made : Result Book OpenFault) (register : Contents) (old new : ℕ) → new ≤ old + (opening_cost register.entries + judged_at_opening register.entries)
    → IfOk made (λ book. book.register ≡ register) → IfOk made (λ book. new ≤ old + (opening_cost book.register.entries + judged_at_opening book.register.entries))
spends (Ok book) register old new cost same = subst (λ (r : Contents). new ≤ old + (opening_cost r.entries + judged_at_opening r.entries)) (sym same) cost
spends (Err fault) register old new cost same = tt

-- the steps of a book that is not made for want of memory, and of a keeper that is not opened
pub spends_refused : (made : Result Book OpenFault) (h : Holding) (old new : ℕ) → (h.tells → new ≤ old + cost_opened (opened_of h.list))
    → IfErr made (λ fault. fault ≡ fails.Memory) → IfErr made (TakesRefused h old new)
spends_refused (Ok book) h old new cost memory = tt
spends_refused (Err fault) h old new cost memory = subst (TakesRefused h old new) (sym memory) cost

pub spends_none : (h : Holding) (steps : ℕ) (fault : OpenFault) → TakesRefused h steps steps fault
spends_none h steps (fails.Damaged broken) = refl
spends_none h steps fails.Failed = refl
spends_none h steps fails.Memory = λ told. omega arith
