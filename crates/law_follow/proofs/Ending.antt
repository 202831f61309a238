-- What a follower is settled, and then given a payload, is what it is given.
use Rattle.std.proofs.Common.{◌≡◌, ◌∙◌, sym, ap, subst, inl, inr, ℕ, List, Option, Some, None, Result, Ok, Err}
use Rattle.law_journal.specs.Grammar.{Listing}
use Rattle.law_keeper.specs.Keepers.{Holding, Keeps, IsWithOrWithout}
use Rattle.law_keeper.specs.declared.readiness.Readiness.{Readiness}
use Rattle.law_keeper.specs.declared.keep_fault.KeepFault.{KeepFault}
use Rattle.law_keeper.specs.declared.keep_fault.KeepFault.TheVariants as keep
use Rattle.law_follow.specs.Replicas.{Holds, HoldsReplica, Stands, payloads_of, pending_of, standing_of}
use Rattle.law_follow.specs.Taking.{AreSettled, IsAnswered, IsIdle, IsLeft, IsLeftPending, IsStep, IsStill, IsWaiting, Settles, Steps, Takes, taken}
use Rattle.law_follow.specs.declared.replica.Pending.{Pending}
use Rattle.law_follow.specs.declared.replica.Replica.{Replica}
use Rattle.law_follow.specs.declared.taken.Taken.{Taken}
use Rattle.law_follow.specs.declared.taken.Taken.TheVariants.{Added}
use Rattle.law_follow.specs.declared.taken.TakeFault.{TakeFault}
use Rattle.law_follow.specs.declared.taken.TakeFault.TheVariants as fault
use Rattle.law_follow.specs.Faults.{keep_refusal}

-- a keeper that holds payloads of which none is pending has these
pub held_list : (h : Holding) (readiness : Readiness) (payloads : List (List ℕ)) (pending : Option (List ℕ)) (cursor : ℕ)
    → Holds h readiness payloads pending cursor → pending ≡ None → h.tells → h.list ≡ Ok payloads
held_list h readiness payloads pending cursor held none told =
    subst (λ (p : Option (List ℕ)). Stands payloads p h.list) none (held.list told)

held_either : (h : Holding) (readiness : Readiness) (payloads : List (List ℕ)) (pending : Option (List ℕ)) (payload : List ℕ) (cursor : ℕ)
    → Holds h readiness payloads pending cursor → pending ≡ Some payload → h.tells → IsWithOrWithout (Ok payloads) payload h.list
held_either h readiness payloads pending payload cursor held some told =
    subst (λ (p : Option (List ℕ)). Stands payloads p h.list) some (held.list told)

-- a replica was settled, and then given a payload
module _ (number : ℕ) (payload : List ℕ) (old mid new : Replica) (before between after : Holding) (ready_mid ready_new : Readiness)
    (settles : AreSettled (payloads_of old) (pending_of old.pending) (payloads_of mid)) (none : mid.pending ≡ None)
    (keeps : Keeps before between)
    (held_mid : HoldsReplica between ready_mid mid) (held_new : HoldsReplica after ready_new new)
    (goes_on : between.tells → after.tells) where
  no_pending : (r : Replica) → r.pending ≡ None → pending_of r.pending ≡ None
  no_pending r is = ap (λ (p : Option Pending). pending_of p) is

  found : before.tells → before.list ≡ Ok (payloads_of mid)
  found told =
      sym (keeps.list told)
      ∙ held_list between ready_mid (payloads_of mid) (pending_of mid.pending) mid.end held_mid (no_pending mid none) (keeps.tells.0 told)

  later : before.tells → after.tells
  later told = goes_on (keeps.tells.0 told)

  kept : new.pending ≡ None → before.tells → after.list ≡ Ok (payloads_of new)
  kept settled told = held_list after ready_new (payloads_of new) (pending_of new.pending) new.end held_new (no_pending new settled) (later told)

  answered : (given : Result Taken TakeFault) → IsStep number payload mid new given
      → IsAnswered number payload (standing_of old) (standing_of new) before.tells before.list after.list given
  answered given step = record {
    settled = payloads_of mid;
    settles = settles;
    answered = step.answered;
    payloads = step.payloads;
    pending = no_pending new step.pending;
    found = found;
    kept = kept step.pending;
  }

  idle : IsStill number payload mid new → IsIdle number payload (standing_of old) (standing_of new) before.tells before.list after.list
  idle still = record {
    settles = subst (λ (ps : List (List ℕ)). AreSettled (payloads_of old) (pending_of old.pending) ps) (sym still.payloads) settles;
    pending = no_pending new still.pending;
    found = λ told. found told ∙ ap Ok (sym still.payloads);
    stays = λ told. kept still.pending told ∙ ap Ok still.payloads ∙ sym (found told);
  }

  left : IsLeft number payload mid new → IsLeftPending number payload (standing_of old) (standing_of new) before.tells before.list after.list
  left is = record {
    settles = subst (λ (ps : List (List ℕ)). AreSettled (payloads_of old) (pending_of old.pending) ps) (sym is.payloads) settles;
    answered = subst (λ (ps : List (List ℕ)). taken ps number payload ≡ Ok Added) (sym is.payloads) is.answered;
    pending = is.pending;
    found = λ told. found told ∙ ap Ok (sym is.payloads);
    kept = λ told. subst (λ (list : Listing). IsWithOrWithout list payload after.list) (ap Ok is.payloads ∙ sym (found told))
        (held_either after ready_new (payloads_of new) (pending_of new.pending) payload new.end held_new is.pending (later told));
  }

  pub ends : (given : Result Taken TakeFault) → Steps number payload mid new given
      → Takes number payload (standing_of old) (standing_of new) before.tells before.list after.list given
  ends (Ok answer) step = answered (Ok answer) step
  ends (Err (fault.Gap expected got)) step = answered (Err (fault.Gap expected got)) step
  ends (Err (fault.Conflict n)) step = answered (Err (fault.Conflict n)) step
  ends (Err (fault.BadEntry broken)) step = answered (Err (fault.BadEntry broken)) step
  ends (Err (fault.NotAccepted rule)) step = answered (Err (fault.NotAccepted rule)) step
  ends (Err fault.KeeperFault) is = inr (left is)
  ends (Err fault.Memory) still = inr (idle still)

-- a replica that could not be settled
pub waits : (number : ℕ) (payload : List ℕ) (old new : Replica) (before after : Holding) (why : KeepFault) → Settles old new (Err why) → Keeps before after
    → Takes number payload (standing_of old) (standing_of new) before.tells before.list after.list (Err (keep_refusal why))
waits number payload old new before after why settles keeps = by why settles
  where
    waiting : new ≡ old → IsWaiting number payload (standing_of old) (standing_of new) before.tells before.list after.list
    waiting same = record {
      payloads = ap (λ (r : Replica). payloads_of r) same;
      pending = ap (λ (r : Replica). pending_of r.pending) same;
      stays = keeps.list;
    }

    by : (why : KeepFault) → Settles old new (Err why)
        → Takes number payload (standing_of old) (standing_of new) before.tells before.list after.list (Err (keep_refusal why))
    by keep.Failed is = inl (waiting is.0, is.1)
    by keep.Memory is = inl (waiting is)
