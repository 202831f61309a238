-- Keepers in memory.
use Rattle.std.specs.Prelude.{ℕ, ◌≡◌, ◌↔◌, Bool, true, false, IsTrue, List, [], ◌∷◌, ◌++◌, length, nat_le, Some, None, Result, Ok, Err, if◌then◌else◌}
use Rattle.desk_base.specs.MemoryStreams.{CallPlan, after_call}
use Rattle.law_keeper.specs.Keepers.{Holding, IsHolding}
use Rattle.law_keeper.specs.declared.keep_fault.KeepFault.{KeepFault}
use Rattle.law_keeper.specs.declared.keep_fault.KeepFault.TheVariants as fault
use Rattle.law_keeper.specs.declared.readiness.Readiness.{Readiness}
use Rattle.law_keeper.specs.declared.readiness.Readiness.TheVariants.{Unopened}

-- a keeper in memory: its payloads, whether it is ready, its plan, whether it keeps what an append that fails brings, and
-- its faults
pub record HeldKeeper : Type 0 where
  pub payloads : List (List ℕ)
  pub readiness : Readiness
  pub plan : CallPlan
  pub keeps_failed : Bool
  pub faults : ℕ

-- one with no payload, before the first call
abbrev pub new_keeper : Bool → List ℕ → HeldKeeper
new_keeper keeps_failed failing = record {
  payloads = [];
  readiness = Unopened;
  plan = record { failing = failing; made = 0 };
  keeps_failed = keeps_failed;
  faults = 0;
}

-- what is known of it: its cursors are the places of its list, and of a crash it tells nothing
abbrev pub holding_of : List (List ℕ) → Holding
holding_of payloads = record {
  tells = Unit {0};
  list = Ok payloads;
  place_of = λ cursor. if nat_le cursor (length payloads) then Some cursor else None;
  tells_crash = ⊥;
  may_leave = λ list. ⊥;
  tells_moments = ⊥;
  moment = 0;
  left_since = λ t list. ⊥;
}

pub holding_is : (payloads : List (List ℕ)) → IsHolding (holding_of payloads)
holding_is payloads = record { stays = λ t. absurd t; counts_now = λ t. absurd t; only_now = λ t. absurd t }

-- the payloads after an append: one more, unless it failed in a keeper that then keeps none
abbrev pub payloads_after : Bool → List (List ℕ) → List ℕ → Result ℕ KeepFault → List (List ℕ)
payloads_after keeps_failed payloads payload (Ok end) = payloads ++ payload ∷ []
payloads_after true payloads payload (Err fault.Failed) = payloads ++ payload ∷ []
payloads_after false payloads payload (Err fault.Failed) = payloads
payloads_after keeps_failed payloads payload (Err fault.Memory) = payloads

-- an append fails exactly where its call is listed; one that takes its memory first may be refused before that
abbrev pub FailsAsListed : Bool → Bool → Result ℕ KeepFault → Type 0
FailsAsListed true listed (Err fault.Memory) = Unit {0}
FailsAsListed keeps_failed listed result = (result ≡ Err fault.Failed) ↔ IsTrue listed

-- the calls that are counted after an append
abbrev pub plan_after : Bool → CallPlan → Result ℕ KeepFault → CallPlan
plan_after true plan (Err fault.Memory) = plan
plan_after keeps_failed plan result = after_call plan
