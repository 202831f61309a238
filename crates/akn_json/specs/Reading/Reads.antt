-- What a reading gives: a value, or the first fault of the form.
use Rattle.std.specs.Prelude.{◌≡◌, ℕ, Bool, true, false, Option, Some, None, Result, Ok, Err}
use Rattle.akn_json.specs.declared.fault.FormFault.{FormFault}
use Rattle.akn_json.specs.declared.fault.FormRule.{FormRule}
use Rattle.akn_json.specs.declared.fault.ReadFail.{ReadFail}
use Rattle.akn_json.specs.declared.fault.ReadFail.TheVariants as fails

-- what the bytes or the JSON value say, or the first fault that keeps them from saying it
abbrev pub Read : Type 0 → Type 0
Read A = Result A FormFault

-- one reading, and then another that goes on from it; the first fault is the fault of both
infixl 10 ◌>>=◌
abbrev pub ◌>>=◌ : {A B : Type 0} → Read A → (A → Read B) → Read B
Ok a >>= next = next a
Err fault >>= next = Err fault

-- one reading after another that gives nothing of its own
infixl 10 ◌>>◌
abbrev pub ◌>>◌ : {A B : Type 0} → Read A → Read B → Read B
Ok a >> next = next
Err fault >> next = Err fault

-- a rule is broken outside of the modifications
abbrev pub broken : FormRule → FormFault
broken rule = record { rule = rule; place = 0 }

-- a reading inside the member at a place, where its fault then is
abbrev pub inside : {A : Type 0} → ℕ → Read A → Read A
inside place (Ok a) = Ok a
inside place (Err fault) = Err (record { rule = fault.rule; place = place })

-- what was found; where nothing was, that is the fault
abbrev pub or_fault : {A : Type 0} → FormFault → Option A → Read A
or_fault fault None = Err fault
or_fault fault (Some a) = Ok a

-- a rule of the form is kept; where it is not, that is the fault
abbrev pub unless_broken : FormFault → Bool → Read Unit
unless_broken fault true = Ok tt
unless_broken fault false = Err fault

-- a call that fails does so by the fault of the reading, or for want of memory
abbrev pub Fails : {B : Type 0} → ReadFail → Read B → Type 0
Fails fails.Memory reading = Unit {0}
Fails (fails.Form fault) reading = reading ≡ Err fault

-- a call gives what the reading says, as clauses see it, or fails by the reading's fault or for want of memory
abbrev pub Gives : {A B : Type 0} → (A → B) → Result A ReadFail → Read B → Type 0
Gives view (Ok a) reading = reading ≡ Ok (view a)
Gives view (Err fail) reading = Fails fail reading
