-- Readings of which what is read, if anything is, passes a test.
use Rattle.std.proofs.Common.{◌≡◌, ℕ, Bool, true, false, Option, Some, None, Result, Ok, Err, if◌then◌else◌, refl, subst}
use Rattle.std.specs.List.{list_all}
use Rattle.std.specs.Prelude.{IfOk}
use Rattle.serde_json.specs.Data.{Data, Items, no_items, item}
use Rattle.akn_json.specs.declared.fault.FormFault.{FormFault}
use Rattle.akn_json.specs.declared.fault.ReadFail.{ReadFail}
use Rattle.akn_json.specs.Reading.Reads.{Read, ◌>>=◌, ◌>>◌, or_fault, unless_broken, inside, Gives}
use Rattle.akn_json.specs.Reading.Fields.{each, read_or}

-- what is read passes the test, if anything is read
unfoldable pub Passes : {A : Type 0} → (A → Bool) → Read A → Type 0
Passes test (Ok a) = test a ≡ true
Passes test (Err fault) = Unit {0}

pub passes : {A : Type 0} (test : A → Bool) (a : A) → test a ≡ true → Passes test (Ok a)
unfolding Passes
passes test a is = is

-- a reading goes on from another
pub passes_on : {A B : Type 0} (test : B → Bool) (r : Read A) (next : A → Read B) → ((a : A) → r ≡ Ok a → Passes test (next a)) → Passes test (r >>= next)
unfolding Passes
passes_on test (Ok a) next h = h a refl
passes_on test (Err fault) next h = tt

-- a reading goes on from another, of which what is read passes a test of its own
pub passes_from : {A B : Type 0} (first : A → Bool) (test : B → Bool) (r : Read A) (next : A → Read B) → Passes first r
    → ((a : A) → first a ≡ true → Passes test (next a)) → Passes test (r >>= next)
unfolding Passes
passes_from first test (Ok a) next is h = h a is
passes_from first test (Err fault) next is h = tt

-- a reading follows another that gives nothing of its own
pub passes_then : {A B : Type 0} (test : B → Bool) (r : Read A) (next : Read B) → Passes test next → Passes test (r >> next)
unfolding Passes
passes_then test (Ok a) next h = h
passes_then test (Err fault) next h = tt

-- a reading goes on where a rule is kept
pub passes_kept : {B : Type 0} (test : B → Bool) (fault : FormFault) (kept : Bool) (next : Read B) → (kept ≡ true → Passes test next)
    → Passes test (unless_broken fault kept >> next)
unfolding Passes
passes_kept test fault true next h = h refl
passes_kept test fault false next h = tt

-- a reading goes on from what was found
pub passes_found : {A B : Type 0} (test : B → Bool) (fault : FormFault) (o : Option A) (next : A → Read B) → ((a : A) → o ≡ Some a → Passes test (next a))
    → Passes test (or_fault fault o >>= next)
unfolding Passes
passes_found test fault (Some a) next h = h a refl
passes_found test fault None next h = tt

-- one of two readings
pub passes_either : {A : Type 0} (test : A → Bool) (choice : Bool) (a b : Read A) → Passes test a → Passes test b → Passes test (if choice then a else b)
passes_either test true a b = λ one other. one
passes_either test false a b = λ one other. other

-- a reading inside the member at a place
pub passes_inside : {A : Type 0} (test : A → Bool) (place : ℕ) (r : Read A) → Passes test r → Passes test (inside place r)
unfolding Passes
passes_inside test place (Ok a) is = is
passes_inside test place (Err fault) is = tt

-- a reading of what was found, or a stated value
pub passes_or : {A : Type 0} (test : A → Bool) (absent : A) (reading : Data → Read A) (found : Option Data) → test absent ≡ true
    → ((d : Data) → Passes test (reading d)) → Passes test (read_or absent reading found)
unfolding Passes
passes_or test absent reading None is h = is
passes_or test absent reading (Some d) is h = h d

-- each item of a list
pub passes_each : {A : Type 0} (test : A → Bool) (reading : Data → Read A) → ((d : Data) → Passes test (reading d)) → (ds : Items)
    → Passes (list_all test) (each reading ds)
unfolding Passes
passes_each test reading h no_items = refl
passes_each test reading h (item d ds) =
    passes_from test (list_all test) (reading d) _ (h d)
    (λ a is. passes_from (list_all test) (list_all test) (each reading ds) _ (passes_each test reading h ds) (λ rest all. rw (is, all) refl))

-- what a call gives passes the test, if it gives what is read
pub passes_given : {A : Type 0} (test : A → Bool) (result : Result A ReadFail) (r : Read A) → Passes test r → Gives (λ a. a) result r
    → IfOk result (λ a. test a ≡ true)
unfolding Passes
passes_given test (Ok a) r is same = subst (Passes test) same is
passes_given test (Err fail) r is same = tt
