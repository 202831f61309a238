-- The list of a file: the sizes of its payloads, the numbers of its gates, and what stands at each of them.
use Rattle.std.proofs.Common.{◌≡◌, ◌⊎◌, inl, inr, ℕ, zero, suc, ◌+◌, ◌<◌, ◌≤◌, Bool, true, false, ◌==◌, if◌then◌else◌, List, [], ◌∷◌, ◌++◌, length, drop, Option, Some, None, Ok, Err, refl, sym, ◌∙◌, ap, subst, arith, IsTrue}
use Rattle.std.specs.Prelude.{All, slice_get}
use Rattle.std.specs.Option.{option_map}
use Rattle.std.proofs.lemmas.List.{drop_at, drop-drop}
use Rattle.std.proofs.lemmas.List.Elements.{All-nil, All-cons}
use Rattle.std.proofs.lemmas.Bool.Decides.{nat_tests}
use Rattle.law_journal.specs.Grammar.{Step, ends, holds, breaks, Listing, is_size, records_size, gate_number, gate_in, step_at, step_list, list_from, list_of, with_first, with_more}
use Rattle.law_journal.specs.Journals.{KeepsGates, IsBeforeOrAfter}
use Rattle.law_journal.proofs.Records.{held}

-- payloads that each have 1 to 16,777,216 bytes
abbrev pub HaveSizes : List (List ℕ) → Type 0
HaveSizes payloads = All (λ payload. IsTrue (is_size (length payload))) payloads

-- each payload of a walk has 1 to 16,777,216 bytes
pub sizes_from : (steps place : ℕ) (rest : List ℕ) (payloads : List (List ℕ)) → list_from steps place rest ≡ Ok payloads → HaveSizes payloads
sizes_from zero place rest payloads is =
    let none : [] ≡ payloads = cc is in
    subst HaveSizes none (All-nil (λ (payload : List ℕ). IsTrue (is_size (length payload))))
sizes_from (suc steps) place rest payloads is = by_step (λ p r l walk. sizes_from steps p r l walk) (step_at place rest) refl is
  where
    Rest : Type 0
    Rest = (p : ℕ) (r : List ℕ) (l : List (List ℕ)) → list_from steps p r ≡ Ok l → HaveSizes l

    by_rest : Rest → (payload next : List ℕ) → step_at place rest ≡ holds payload next → (listing : Listing) → list_from steps (place + 5 + length payload) next ≡ listing → with_first payload listing ≡ Ok payloads → HaveSizes payloads
    by_rest further payload next at (Ok others) go is =
        let all : payload ∷ others ≡ payloads = cc is in
        subst HaveSizes all (All-cons (λ (payload : List ℕ). IsTrue (is_size (length payload))) payload others (held place rest payload next at).in_range (further (place + 5 + length payload) next others go))
    by_rest further payload next at (Err damage) go is = absurd (cc is)

    by_step : Rest → (step : Step) → step_at place rest ≡ step → step_list place step (list_from steps) ≡ Ok payloads → HaveSizes payloads
    by_step further ends at is =
        let none : [] ≡ payloads = cc is in
        subst HaveSizes none (All-nil (λ (payload : List ℕ). IsTrue (is_size (length payload))))
    by_step further (holds payload next) at is = by_rest further payload next at (list_from steps (place + 5 + length payload) next) refl is
    by_step further (breaks damage) at is = absurd (cc is)

-- the first gate has the number 0
pub first_gate : (from : ℕ) (payloads : List (List ℕ)) → gate_number from payloads from ≡ Some 0
first_gate from [] =
    let same : (from == from) ≡ true = grind (arith, nat_tests) in
    ap (λ t. if t then Some 0 else None) same
first_gate from (payload ∷ payloads) =
    let same : (from == from) ≡ true = grind (arith, nat_tests) in
    ap (λ t. if t then Some 0 else option_map (λ n. n + 1) (gate_number (from + 5 + length payload) payloads from)) same

-- a gate behind the first payload
pub next_gate : (from : ℕ) (payload : List ℕ) (payloads : List (List ℕ)) (place n : ℕ) → from < place → gate_number (from + 5 + length payload) payloads place ≡ Some n → gate_number from (payload ∷ payloads) place ≡ Some (n + 1)
next_gate from payload payloads place n behind is =
    let other : (place == from) ≡ false = grind (arith, nat_tests, behind) in
    ap (λ t. if t then Some 0 else option_map (λ n. n + 1) (gate_number (from + 5 + length payload) payloads place)) other ∙ ap (λ o. option_map (λ n. n + 1) o) is

-- how a gate of a list has its number: it is the first, or it is one behind the first payload
abbrev Numbered : ℕ → List ℕ → List (List ℕ) → ℕ → ℕ → Type 0
Numbered from payload payloads place n = ((place ≡ from) × (n ≡ 0)) ⊎ ((m : ℕ) × (n ≡ m + 1) × (gate_number (from + 5 + length payload) payloads place ≡ Some m))

numbered : (from : ℕ) (payload : List ℕ) (payloads : List (List ℕ)) (place n : ℕ) → gate_number from (payload ∷ payloads) place ≡ Some n → Numbered from payload payloads place n
numbered from payload payloads place n is = by_test (place == from) refl
  where
    further : Option ℕ
    further = gate_number (from + 5 + length payload) payloads place

    by_number : (o : Option ℕ) → further ≡ o → option_map (λ n. n + 1) o ≡ Some n → Numbered from payload payloads place n
    by_number None at more = absurd (cc more)
    by_number (Some m) at more = let same : m + 1 ≡ n = cc more in inr (m, sym same, at)

    by_test : (t : Bool) → (place == from) ≡ t → Numbered from payload payloads place n
    by_test true same =
        let there : place ≡ from = grind (arith, nat_tests, same) in
        let none : Some 0 ≡ Some n = sym (ap (λ t. if t then Some 0 else option_map (λ n. n + 1) further) same) ∙ is in
        let first : 0 ≡ n = cc none in
        inl (there, sym first)
    by_test false other = by_number further refl (sym (ap (λ t. if t then Some 0 else option_map (λ n. n + 1) further) other) ∙ is)

-- a gate of no payloads is the first
only_gate : (from place n : ℕ) → gate_number from [] place ≡ Some n → (place ≡ from) × (n ≡ 0)
only_gate from place n is = by_test (place == from) refl
  where
    by_test : (t : Bool) → (place == from) ≡ t → (place ≡ from) × (n ≡ 0)
    by_test true same =
        let there : place ≡ from = grind (arith, nat_tests, same) in
        let none : Some 0 ≡ Some n = sym (ap (λ t. if t then Some 0 else None) same) ∙ is in
        let first : 0 ≡ n = cc none in
        (there, sym first)
    by_test false other =
        let none : None ≡ Some n = sym (ap (λ t. if t then Some 0 else None) other) ∙ is in
        absurd (cc none)

-- gates stand from the first on up to the one that ends the list
pub gate_within : (from : ℕ) (payloads : List (List ℕ)) (place n : ℕ) → gate_number from payloads place ≡ Some n → (from ≤ place) × (place ≤ from + records_size payloads)
gate_within from [] place n is = let at = only_gate from place n is in (omega (arith, at.0), omega (arith, at.0))
gate_within from (payload ∷ payloads) place n is = by_case (λ m at. gate_within (from + 5 + length payload) payloads place m at) (numbered from payload payloads place n is)
  where
    Rest : Type 0
    Rest = (m : ℕ) → gate_number (from + 5 + length payload) payloads place ≡ Some m → (from + 5 + length payload ≤ place) × (place ≤ from + 5 + length payload + records_size payloads)

    by_case : Rest → Numbered from payload payloads place n → (from ≤ place) × (place ≤ from + records_size (payload ∷ payloads))
    by_case further (inl first) = (omega (arith, first.0), omega (arith, first.0))
    by_case further (inr (m, more, at)) = let far = further m at in (omega (arith, far.0), omega (arith, far.1))

-- the gate that ends the list has the number of the payloads
pub last_gate : (from : ℕ) (payloads : List (List ℕ)) (place : ℕ) → place ≡ from + records_size payloads → gate_number from payloads place ≡ Some (length payloads)
last_gate from [] place is = ap (λ p. gate_number from [] p) (is ∙ omega arith) ∙ first_gate from []
last_gate from (payload ∷ payloads) place is =
    next_gate from payload payloads place (length payloads) (omega (arith, is)) (last_gate (from + 5 + length payload) payloads place (is ∙ omega arith)) ∙ ap Some (omega arith)

-- a gate keeps its number where payloads are added behind the list
kept_gate : (from : ℕ) (payloads more : List (List ℕ)) (place n : ℕ) → gate_number from payloads place ≡ Some n → gate_number from (payloads ++ more) place ≡ Some n
kept_gate from [] more place n is =
    let at = only_gate from place n is in
    ap (λ p. gate_number from more p) at.0 ∙ first_gate from more ∙ ap Some (sym at.1)
kept_gate from (first ∷ payloads) more place n is = by_case (λ m at. kept_gate (from + 5 + length first) payloads more place m at) (numbered from first payloads place n is)
  where
    Rest : Type 0
    Rest = (m : ℕ) → gate_number (from + 5 + length first) payloads place ≡ Some m → gate_number (from + 5 + length first) (payloads ++ more) place ≡ Some m

    by_case : Rest → Numbered from first payloads place n → gate_number from (first ∷ (payloads ++ more)) place ≡ Some n
    by_case further (inl at) = ap (λ p. gate_number from (first ∷ (payloads ++ more)) p) at.0 ∙ first_gate from (first ∷ (payloads ++ more)) ∙ ap Some (sym at.1)
    by_case further (inr (m, next, at)) =
        let far = gate_within (from + 5 + length first) payloads place m at in
        next_gate from first (payloads ++ more) place m (omega (arith, far.0)) (further m at) ∙ ap Some (sym next)

kept_more : (more : List (List ℕ)) (listing : Listing) → KeepsGates listing (with_more more listing)
kept_more more (Ok payloads) = λ place n is. kept_gate 8 payloads more place n is
kept_more more (Err damage) = λ place n is. absurd (cc is)

-- gates keep their places and numbers where the list stays, or has more payloads
pub kept_gates : (old : List ℕ) (payloads : List (List ℕ)) (new : List ℕ) → IsBeforeOrAfter old payloads new → KeepsGates (list_of old) (list_of new)
kept_gates old payloads new (inl same) = λ place n is. ap (λ (l : Listing). gate_in l place) same ∙ is
kept_gates old payloads new (inr more) = λ place n is. ap (λ (l : Listing). gate_in l place) more ∙ kept_more payloads (list_of old) place n is

-- what stands at the gate of a number: the end of the list, or a payload and the next gate
abbrev pub NthStep : List (List ℕ) → ℕ → ℕ → ℕ → Step → Type 0
NthStep payloads from n place step = ((n ≡ length payloads) × (step ≡ ends))
    ⊎ ((payload : List ℕ) × (rest : List ℕ) × (step ≡ holds payload rest) × (slice_get payloads n ≡ Some payload) × (gate_number from payloads (place + 5 + length payload) ≡ Some (n + 1)))

-- the bytes from the next gate on
pub next_there : (file : List ℕ) (place : ℕ) (payload next : List ℕ) → step_at place (drop place file) ≡ holds payload next → drop (place + 5 + length payload) file ≡ next
next_there file place payload next at =
    let h = held place (drop place file) payload next at in
    let far : place + 5 + length payload ≡ place + (5 + length payload) = omega arith in
    ap (λ p. drop p file) far ∙ sym (drop-drop (5 + length payload) place file)
    ∙ ap (λ (l : List ℕ). drop (5 + length payload) l) h.split ∙ drop_at h.added next (5 + length payload) h.is_record.long

-- a step of a walk that comes to the end of the list
record Walked (steps place : ℕ) (file : List ℕ) (payload : List ℕ) (payloads : List (List ℕ)) : Type 0 where
  pub next : List ℕ
  pub at : step_at place (drop place file) ≡ holds payload next
  pub on : list_from steps (place + 5 + length payload) (drop (place + 5 + length payload) file) ≡ Ok payloads

walked_one : (steps place : ℕ) (file payload : List ℕ) (payloads : List (List ℕ)) → list_from (suc steps) place (drop place file) ≡ Ok (payload ∷ payloads) → Walked steps place file payload payloads
walked_one steps place file payload payloads is = by_step (step_at place (drop place file)) refl is
  where
    by_rest : (first next : List ℕ) → step_at place (drop place file) ≡ holds first next → (listing : Listing) → list_from steps (place + 5 + length first) next ≡ listing → with_first first listing ≡ Ok (payload ∷ payloads) → Walked steps place file payload payloads
    by_rest first next at (Ok others) go is =
        let same : first ≡ payload = cc is in
        let rest : others ≡ payloads = cc is in
        let there : drop (place + 5 + length first) file ≡ next = next_there file place first next at in
        record {
          next = next;
          at = at ∙ ap (λ (l : List ℕ). holds l next) same;
          on = ap (λ (l : List ℕ). list_from steps (place + 5 + length l) (drop (place + 5 + length l) file)) (sym same)
              ∙ ap (λ (l : List ℕ). list_from steps (place + 5 + length first) l) there ∙ go ∙ ap (λ (l : List (List ℕ)). listing_of l) rest;
        }
      where
        listing_of : List (List ℕ) → Listing
        listing_of l = Ok l
    by_rest first next at (Err damage) go is = absurd (cc is)

    by_step : (step : Step) → step_at place (drop place file) ≡ step → step_list place step (list_from steps) ≡ Ok (payload ∷ payloads) → Walked steps place file payload payloads
    by_step ends at is = absurd (cc is)
    by_step (holds first next) at is = by_rest first next at (list_from steps (place + 5 + length first) next) refl is
    by_step (breaks damage) at is = absurd (cc is)

-- a walk that finds no payload ends at once
ended : (steps place : ℕ) (rest : List ℕ) → list_from (suc steps) place rest ≡ Ok [] → step_at place rest ≡ ends
ended steps place rest is = by_step (step_at place rest) refl is
  where
    by_rest : (payload next : List ℕ) (listing : Listing) → with_first payload listing ≡ Ok [] → step_at place rest ≡ ends
    by_rest payload next (Ok others) is = absurd (cc is)
    by_rest payload next (Err damage) is = absurd (cc is)

    by_step : (step : Step) → step_at place rest ≡ step → step_list place step (list_from steps) ≡ Ok [] → step_at place rest ≡ ends
    by_step ends at is = at
    by_step (holds payload next) at is = by_rest payload next (list_from steps (place + 5 + length payload) next) is
    by_step (breaks damage) at is = absurd (cc is)

-- what stands at each gate of a walk that comes to the end of its list
pub nth_step : (payloads : List (List ℕ)) (from : ℕ) (file : List ℕ) → list_from (suc (length payloads)) from (drop from file) ≡ Ok payloads
    → (place n : ℕ) → gate_number from payloads place ≡ Some n → NthStep payloads from n place (step_at place (drop place file))
nth_step [] from file walk place n is =
    let at = only_gate from place n is in
    inl (at.1, ap (λ p. step_at p (drop p file)) at.0 ∙ ended zero from (drop from file) walk)
nth_step (payload ∷ payloads) from file walk place n is = by_case (λ m at. nth_step payloads start file w.on place m at) (numbered from payload payloads place n is)
  where
    w : Walked (suc (length payloads)) from file payload payloads
    w = walked_one (suc (length payloads)) from file payload payloads walk

    start : ℕ
    start = from + 5 + length payload

    behind : (m : ℕ) → n ≡ m + 1 → n ≡ suc m
    behind m more = omega (arith, more)

    lifted : (m : ℕ) → n ≡ m + 1 → start ≤ place → NthStep payloads start m place (step_at place (drop place file)) → NthStep (payload ∷ payloads) from n place (step_at place (drop place file))
    lifted m more far (inl end) = inl (omega (arith, more, end.0), end.1)
    lifted m more far (inr (found, rest, step, nth, next)) = inr (
      found,
      rest,
      step,
      ap (λ k. slice_get (payload ∷ payloads) k) (behind m more) ∙ nth,
      next_gate from payload payloads (place + 5 + length found) (m + 1) (omega (arith, far)) next ∙ ap (λ k. Some (k + 1)) (sym more),
    )

    Rest : Type 0
    Rest = (m : ℕ) → gate_number start payloads place ≡ Some m → NthStep payloads start m place (step_at place (drop place file))

    by_case : Rest → Numbered from payload payloads place n → NthStep (payload ∷ payloads) from n place (step_at place (drop place file))
    by_case further (inl first) = inr (
      payload,
      w.next,
      ap (λ p. step_at p (drop p file)) first.0 ∙ w.at,
      ap (λ k. slice_get (payload ∷ payloads) k) first.1,
      next_gate from payload payloads (place + 5 + length payload) 0 (omega (arith, first.0)) (ap (λ p. gate_number start payloads (p + 5 + length payload)) first.0 ∙ first_gate start payloads) ∙ ap (λ k. Some (k + 1)) (sym first.1),
    )
    by_case further (inr (m, more, at)) = lifted m more (gate_within start payloads place m at).0 (further m at)
