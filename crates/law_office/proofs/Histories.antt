-- Each entry of a desk, and each mark, stands once in its history.
use Rattle.std.proofs.Common.{◌≡◌, ap, refl, ℕ, suc, ◌+◌, ◌≤◌, nat_le, Bool, true, false, ◌==◌, cond, List, [], ◌∷◌, length, arith}
use Rattle.std.proofs.lemmas.List.{length-append}
use Rattle.std.proofs.lemmas.List.Elements.{recursion_from_All}
use Rattle.std.proofs.lemmas.Bool.Decides.{nat_tests}
use Rattle.std.specs.List.{All, AllByRecursion}
use Rattle.law_register.specs.declared.desk.event.Event.TheVariants.{Entered, Faulted}
use Rattle.law_register.specs.declared.desk.fault_mark.FaultMark.{FaultMark}
use Rattle.law_register.specs.declared.register.entry.Entry.{Entry}
use Rattle.law_register.specs.Desk.History.{events_from, marks_at}

abbrev one : Bool → ℕ
one true = 1
one false = 0

-- how many marks were made when so many entries stood
abbrev made_at : ℕ → List FaultMark → ℕ
made_at n [] = 0
made_at n (m ∷ ms) = one (m.entries == n) + made_at n ms

-- how many were made then, or later
abbrev made_since : ℕ → List FaultMark → ℕ
made_since n [] = 0
made_since n (m ∷ ms) = one (nat_le n m.entries) + made_since n ms

length_at : (n : ℕ) (ms : List FaultMark) → length (marks_at n ms) ≡ made_at n ms
length_at n [] = refl
length_at n (m ∷ ms) = by (m.entries == n) (length_at n ms)
  where
    by : (t : Bool) → length (marks_at n ms) ≡ made_at n ms
        → length (cond t (Faulted m ∷ marks_at n ms) (marks_at n ms)) ≡ one t + made_at n ms
    by true same = omega (arith, same)
    by false same = omega (arith, same)

one_of_two : (n k : ℕ) → one (nat_le n k) ≡ one (k == n) + one (nat_le (suc n) k)
one_of_two n k = by (nat_le n k) (k == n) (nat_le (suc n) k) refl refl refl
  where
    by : (a b c : Bool) → nat_le n k ≡ a → (k == n) ≡ b → nat_le (suc n) k ≡ c → one a ≡ one b + one c
    by true true true p q r = absurd (grind (arith, nat_tests))
    by true true false p q r = refl
    by true false true p q r = refl
    by true false false p q r = absurd (grind (arith, nat_tests))
    by false true true p q r = absurd (grind (arith, nat_tests))
    by false true false p q r = absurd (grind (arith, nat_tests))
    by false false true p q r = absurd (grind (arith, nat_tests))
    by false false false p q r = refl

then_or_later : (n : ℕ) (ms : List FaultMark) → made_since n ms ≡ made_at n ms + made_since (suc n) ms
then_or_later n [] = refl
then_or_later n (m ∷ ms) = omega (arith, one_of_two n m.entries, then_or_later n ms)

events_length : (n : ℕ) (es : List Entry) (ms : List FaultMark) (top : ℕ) → top ≡ n + length es
    → length (events_from n es ms) + made_since (suc top) ms ≡ length es + made_since n ms
events_length n [] ms top is =
    let same : top ≡ n = omega (arith, is) in
    omega (arith, ap (λ k. made_since (suc k) ms) same, length_at n ms, then_or_later n ms)
events_length n (e ∷ es) ms top is =
    let rest = events_from (suc n) es ms in
    let parts : length (events_from n (e ∷ es) ms) ≡ length (marks_at n ms) + length (Entered e ∷ rest) =
    length-append (marks_at n ms) (Entered e ∷ rest) in
    omega (
      arith,
      parts,
      length_at n ms,
      then_or_later n ms,
      events_length (suc n) es ms top (omega (arith, is)),
    )

none_later : (top : ℕ) (ms : List FaultMark) → AllByRecursion (λ m. m.entries ≤ top) ms → made_since (suc top) ms ≡ 0
none_later top [] all = refl
none_later top (m ∷ ms) all = omega (arith, ap one (within m.entries all.0), none_later top ms all.1)
  where
    within : (k : ℕ) → k ≤ top → nat_le (suc top) k ≡ false
    within k h = grind (arith, nat_tests)

all_made : (ms : List FaultMark) → made_since 0 ms ≡ length ms
all_made [] = refl
all_made (m ∷ ms) = omega (arith, ap one (least m.entries), all_made ms)
  where
    least : (k : ℕ) → nat_le 0 k ≡ true
    least k = grind (arith, nat_tests)

-- where no mark was made when more entries stood than there are
pub history_length : (es : List Entry) (ms : List FaultMark) → All (λ m. m.entries ≤ length es) ms
    → length (events_from 0 es ms) ≡ length es + length ms
history_length es ms all =
    let none = none_later (length es) ms (recursion_from_All (λ (m : FaultMark). m.entries ≤ length es) ms all) in
    omega (arith, events_length 0 es ms (length es) (omega arith), none, all_made ms)
