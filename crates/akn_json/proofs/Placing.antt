-- Readings whose fault, if they have one, stands at most at a place.
use Rattle.std.proofs.Common.{◌≡◌, ℕ, zero, ◌≤◌, Bool, true, false, Option, Some, None, Ok, Err, if◌then◌else◌, refl, arith}
use Rattle.serde_json.specs.Data.{Data, Items, no_items, item}
use Rattle.akn_json.specs.declared.fault.FormRule.{FormRule}
use Rattle.akn_json.specs.Reading.Reads.{Read, ◌>>=◌, ◌>>◌, broken, or_fault, unless_broken, inside}
use Rattle.akn_json.specs.Reading.Fields.{each, read_or}

-- the fault stands at most there, if there is one
unfoldable pub IsWithin : {A : Type 0} → ℕ → Read A → Type 0
IsWithin most (Ok a) = Unit {0}
IsWithin most (Err fault) = fault.place ≤ most

pub within_ok : {A : Type 0} (most : ℕ) (a : A) → IsWithin most (Ok a)
unfolding IsWithin
within_ok most a = tt

pub within_broken : (A : Type 0) (most : ℕ) (rule : FormRule) → IsWithin {A = A} most (Err (broken rule))
unfolding IsWithin
within_broken A most rule = omega arith

-- something was found, or a rule was kept
pub within_found : {A : Type 0} (most : ℕ) (rule : FormRule) (o : Option A) → IsWithin most (or_fault (broken rule) o)
unfolding IsWithin
within_found most rule (Some a) = tt
within_found most rule None = omega arith

pub within_kept : (most : ℕ) (rule : FormRule) (kept : Bool) → IsWithin most (unless_broken (broken rule) kept)
unfolding IsWithin
within_kept most rule true = tt
within_kept most rule false = omega arith

-- a reading goes on from another, or follows it
pub within_on : {A B : Type 0} (most : ℕ) (r : Read A) (next : A → Read B) → IsWithin most r → ((a : A) → r ≡ Ok a → IsWithin most (next a))
    → IsWithin most (r >>= next)
unfolding IsWithin
within_on most (Ok a) next first h = h a refl
within_on most (Err fault) next first h = first

pub within_then : {A B : Type 0} (most : ℕ) (r : Read A) (next : Read B) → IsWithin most r → IsWithin most next → IsWithin most (r >> next)
unfolding IsWithin
within_then most (Ok a) next first h = h
within_then most (Err fault) next first h = first

-- one of two readings
pub within_either : {A : Type 0} (most : ℕ) (choice : Bool) (a b : Read A) → IsWithin most a → IsWithin most b → IsWithin most (if choice then a else b)
within_either most true a b = λ one other. one
within_either most false a b = λ one other. other

-- one reading inside a member
pub within_inside : {A : Type 0} (most place : ℕ) (r : Read A) → place ≤ most → IsWithin most (inside place r)
unfolding IsWithin
within_inside most place (Ok a) here = tt
within_inside most place (Err fault) here = here

-- a reading of what was found, or a stated value
pub within_or : {A : Type 0} (most : ℕ) (absent : A) (reading : Data → Read A) (found : Option Data) → ((d : Data) → IsWithin most (reading d))
    → IsWithin most (read_or absent reading found)
unfolding IsWithin
within_or most absent reading None h = tt
within_or most absent reading (Some d) h = h d

-- each item of a list
pub within_each : {A : Type 0} (most : ℕ) (reading : Data → Read A) → ((d : Data) → IsWithin most (reading d)) → (ds : Items)
    → IsWithin most (each reading ds)
within_each most reading h no_items = within_ok most _
within_each most reading h (item d ds) =
    within_on most (reading d) _ (h d) (λ a _. within_on most (each reading ds) _ (within_each most reading h ds) (λ rest _. within_ok most _))

pub ruleset placing = (within_then, within_on, within_found, within_kept, within_ok)
