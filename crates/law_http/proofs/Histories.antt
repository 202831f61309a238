-- Histories of entries and marks: how they grow, and how long they are.
use Rattle.std.proofs.Common.{◌≡◌, ◌∙◌, sym, ap, refl, ℕ, suc, ◌+◌, ◌≤◌, ◌<◌, ◌==◌, ◌≢◌, Bool, true, false, if◌then◌else◌, List, [], ◌∷◌, ◌++◌, length, All, append_assoc, append-nil, length-append, arith}
use Rattle.std.proofs.lemmas.Bool.Decides.{nat_tests}
use mathlib.Core.List.{IsPrefix}
use Rattle.law_register.specs.Desk.History.{entries_of, events_from, marks_at, marks_of}
use Rattle.law_register.specs.declared.desk.event.Event.{Event}
use Rattle.law_register.specs.declared.desk.event.Event.TheVariants.{Entered, Faulted}
use Rattle.law_register.specs.declared.desk.fault_mark.FaultMark.{FaultMark}
use Rattle.law_register.specs.declared.register.entry.Entry.{Entry}

-- beginnings of lists

pub prefix_self : {A : Type 0} (xs : List A) → IsPrefix xs xs
prefix_self xs = ([], append-nil xs)

pub prefix_on : {A : Type 0} (xs ys zs : List A) → IsPrefix xs ys → IsPrefix ys zs → IsPrefix xs zs
prefix_on xs ys zs p q = (p.0 ++ q.0, sym (append_assoc xs p.0 q.0) ∙ (ap (λ w. w ++ q.0) p.1 ∙ q.1))

pub prefix_length : {A : Type 0} (xs ys : List A) → IsPrefix xs ys → length xs ≤ length ys
prefix_length xs ys p = omega (arith, sym (ap length p.1) ∙ length-append xs p.0)

-- entries and marks among events

pub entries_append : (xs ys : List Event) → entries_of (xs ++ ys) ≡ entries_of xs ++ entries_of ys
entries_append [] ys = refl
entries_append (Entered entry ∷ xs) ys = ap (λ l. entry ∷ l) (entries_append xs ys)
entries_append (Faulted mark ∷ xs) ys = entries_append xs ys

pub marks_append : (xs ys : List Event) → marks_of (xs ++ ys) ≡ marks_of xs ++ marks_of ys
marks_append [] ys = refl
marks_append (Entered entry ∷ xs) ys = marks_append xs ys
marks_append (Faulted mark ∷ xs) ys = ap (λ l. mark ∷ l) (marks_append xs ys)

pub entries_begin : (xs ys : List Event) → IsPrefix xs ys → IsPrefix (entries_of xs) (entries_of ys)
entries_begin xs ys p = (entries_of p.0, sym (entries_append xs p.0) ∙ ap entries_of p.1)

front_none : {A : Type 0} (xs ys : List A) → xs ++ ys ≡ [] → xs ≡ []
front_none [] ys none = refl
front_none (x ∷ xs) ys none = absurd (cc)

-- where none is marked, none was marked before
pub none_before : (xs ys : List Event) → IsPrefix xs ys → marks_of ys ≡ [] → marks_of xs ≡ []
none_before xs ys p none = front_none (marks_of xs) (marks_of p.0) (sym (marks_append xs p.0) ∙ ap marks_of p.1 ∙ none)

counted : (xs : List Event) → length xs ≡ length (entries_of xs) + length (marks_of xs)
counted [] = refl
counted (Entered entry ∷ xs) = omega (arith, counted xs)
counted (Faulted mark ∷ xs) = omega (arith, counted xs)

-- the marks that were made at one length

not_entered : (n : ℕ) (marks : List FaultMark) → entries_of (marks_at n marks) ≡ []
not_entered n [] = refl
not_entered n (mark ∷ marks) = by (mark.entries == n) (not_entered n marks)
  where
    by : (t : Bool) → entries_of (marks_at n marks) ≡ [] → entries_of (if t then Faulted mark ∷ marks_at n marks else marks_at n marks) ≡ []
    by true rest = rest
    by false rest = rest

marks_apart : (n : ℕ) (marks more : List FaultMark) → marks_at n (marks ++ more) ≡ marks_at n marks ++ marks_at n more
marks_apart n [] more = refl
marks_apart n (mark ∷ marks) more = by (mark.entries == n) (marks_apart n marks more)
  where
    by : (t : Bool) → marks_at n (marks ++ more) ≡ marks_at n marks ++ marks_at n more → (if t then Faulted mark ∷ marks_at n (marks ++ more) else marks_at n (marks ++ more))
        ≡ (if t then Faulted mark ∷ marks_at n marks else marks_at n marks) ++ marks_at n more
    by true rest = ap (λ l. Faulted mark ∷ l) rest
    by false rest = rest

mark_here : (n : ℕ) (mark : FaultMark) (marks : List FaultMark) → mark.entries ≡ n → marks_at n (mark ∷ marks) ≡ Faulted mark ∷ marks_at n marks
mark_here n mark marks is = by (mark.entries == n) refl
  where
    by : (t : Bool) → (mark.entries == n) ≡ t → (if t then Faulted mark ∷ marks_at n marks else marks_at n marks) ≡ Faulted mark ∷ marks_at n marks
    by true e = refl
    by false e = absurd (grind (arith, nat_tests))

mark_elsewhere : (n : ℕ) (mark : FaultMark) (marks : List FaultMark) → mark.entries ≢ n → marks_at n (mark ∷ marks) ≡ marks_at n marks
mark_elsewhere n mark marks isnt = by (mark.entries == n) refl
  where
    same : (mark.entries == n) ≡ true → mark.entries ≡ n
    same e = grind (arith, nat_tests)

    by : (t : Bool) → (mark.entries == n) ≡ t → (if t then Faulted mark ∷ marks_at n marks else marks_at n marks) ≡ marks_at n marks
    by true e = absurd (isnt (same e))
    by false e = refl

-- how a history grows

pub entries_from : (n : ℕ) (entries : List Entry) (marks : List FaultMark) → entries_of (events_from n entries marks) ≡ entries
entries_from n [] marks = not_entered n marks
entries_from n (entry ∷ entries) marks =
    let behind = events_from (suc n) entries marks in
    entries_append (marks_at n marks) (Entered entry ∷ behind)
    ∙ ap (λ l. l ++ entry ∷ entries_of behind) (not_entered n marks)
    ∙ ap (λ l. entry ∷ l) (entries_from (suc n) entries marks)

-- by entries
pub more_entries : (n : ℕ) (entries more : List Entry) (marks : List FaultMark) → IsPrefix (events_from n entries marks) (events_from n (entries ++ more) marks)
more_entries n [] [] marks = prefix_self (marks_at n marks)
more_entries n [] (entry ∷ more) marks = (Entered entry ∷ events_from (suc n) more marks, refl)
more_entries n (entry ∷ entries) more marks =
    let p = more_entries (suc n) entries more marks in
    (p.0, append_assoc (marks_at n marks) (Entered entry ∷ events_from (suc n) entries marks) p.0 ∙ ap (λ l. marks_at n marks ++ Entered entry ∷ l) p.1)

-- by a mark that is made when all these stand
pub mark_more : (n : ℕ) (entries : List Entry) (marks : List FaultMark) (mark : FaultMark) → mark.entries ≡ n + length entries
    → events_from n entries (marks ++ mark ∷ []) ≡ events_from n entries marks ++ Faulted mark ∷ []
mark_more n [] marks mark is =
    marks_apart n marks (mark ∷ []) ∙ ap (λ l. marks_at n marks ++ l) (mark_here n mark [] (omega (arith, is)))
mark_more n (entry ∷ entries) marks mark is =
    let here : marks_at n (marks ++ mark ∷ []) ≡ marks_at n marks =
    marks_apart n marks (mark ∷ []) ∙ ap (λ l. marks_at n marks ++ l) (mark_elsewhere n mark [] (λ e. omega (arith, is, e))) ∙ append-nil (marks_at n marks) in
    let later = mark_more (suc n) entries marks mark (omega (arith, is)) in
    (λ i. here i ++ Entered entry ∷ later i)
    ∙ sym (append_assoc (marks_at n marks) (Entered entry ∷ events_from (suc n) entries marks) (Faulted mark ∷ []))

-- how long a history is

mark_past : (n : ℕ) (entries : List Entry) (mark : FaultMark) (marks : List FaultMark) → mark.entries < n → events_from n entries (mark ∷ marks) ≡ events_from n entries marks
mark_past n [] mark marks before = mark_elsewhere n mark marks (λ e. omega (arith, before, e))
mark_past n (entry ∷ entries) mark marks before =
    let here = mark_elsewhere n mark marks (λ e. omega (arith, before, e)) in
    let later = mark_past (suc n) entries mark marks (omega (arith, before)) in
    λ i. here i ++ Entered entry ∷ later i

one_longer : (n : ℕ) (entries : List Entry) (mark : FaultMark) (marks : List FaultMark) → n ≤ mark.entries → mark.entries ≤ n + length entries
    → length (events_from n entries (mark ∷ marks)) ≡ suc (length (events_from n entries marks))
one_longer n [] mark marks least most = ap length (mark_here n mark marks (omega (arith, least, most)))
one_longer n (entry ∷ entries) mark marks least most =
    by (mark.entries == n) refl (λ later. one_longer (suc n) entries mark marks later (omega (arith, most)))
  where
    same : (mark.entries == n) ≡ true → mark.entries ≡ n
    same e = grind (arith, nat_tests)

    other : (mark.entries == n) ≡ false → mark.entries ≢ n
    other e is = grind (arith, nat_tests)

    by : (t : Bool) → (mark.entries == n) ≡ t
        → (suc n ≤ mark.entries → length (events_from (suc n) entries (mark ∷ marks)) ≡ suc (length (events_from (suc n) entries marks)))
        → length (marks_at n (mark ∷ marks) ++ Entered entry ∷ events_from (suc n) entries (mark ∷ marks))
        ≡ suc (length (marks_at n marks ++ Entered entry ∷ events_from (suc n) entries marks))
    by true e later =
        let here = mark_here n mark marks (same e) in
        let past = mark_past (suc n) entries mark marks (omega (arith, same e)) in
        λ i. length (here i ++ Entered entry ∷ past i)
    by false e later =
        let here = mark_elsewhere n mark marks (other e) in
        let past = later (omega (arith, least, other e)) in
        ap (λ l. length (l ++ Entered entry ∷ events_from (suc n) entries (mark ∷ marks))) here
        ∙ omega (
          arith,
          past,
          length-append (marks_at n marks) (Entered entry ∷ events_from (suc n) entries (mark ∷ marks)),
          length-append (marks_at n marks) (Entered entry ∷ events_from (suc n) entries marks),
        )

bare : (n : ℕ) (entries : List Entry) → length (events_from n entries []) ≡ length entries
bare n [] = refl
bare n (entry ∷ entries) = ap suc (bare (suc n) entries)

pub sized : (entries : List Entry) (marks : List FaultMark) → All (λ mark. mark.entries ≤ length entries) marks
    → length (events_from 0 entries marks) ≡ length entries + length marks
sized entries [] all = omega (arith, bare 0 entries)
sized entries (mark ∷ marks) all =
    let first : mark.entries ≤ length entries = all 0 mark (omega arith) in
    omega (
      arith,
      one_longer 0 entries mark marks (omega arith) (omega (arith, first)),
      sized entries marks (λ k d less. all (suc k) d (omega (arith, less))),
    )

no_length : {A : Type 0} (xs : List A) → length xs ≡ 0 → xs ≡ []
no_length [] none = refl
no_length (x ∷ xs) none = absurd (omega (arith, none))

-- where none is marked, there is no mark
pub unmarked : (entries : List Entry) (marks : List FaultMark) → All (λ mark. mark.entries ≤ length entries) marks
    → marks_of (events_from 0 entries marks) ≡ [] → marks ≡ []
unmarked entries marks all none =
    no_length marks (omega (arith, sized entries marks all, counted (events_from 0 entries marks), ap length (entries_from 0 entries marks), ap length none))
