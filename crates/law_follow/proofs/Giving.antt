-- The payloads of a batch are given to a keeper, all of them, some, or none.
use Rattle.std.proofs.Common.{◌≡◌, ◌∙◌, sym, ap, subst, refl, arith, ℕ, List, [], ◌++◌, length, take, drop, None, Vec, Result, Ok, Err, append_assoc, take-append-drop}
use Rattle.std.specs.Prelude.{IsTrue}
use Rattle.std.specs.declared.alloc.Global.{Global}
use Rattle.std.proofs.lemmas.List.{append-nil, take_all}
use Rattle.std.proofs.lemmas.List.Elements.{All-nil}
use Rattle.law_journal.specs.Grammar.{Listing, is_size, with_more}
use Rattle.law_keeper.specs.Keepers.{AppendsAll, BecomesMore, HasAppendCause, Holding, IsHolding, IsSettled, IsWithFront, LeavesFront, bytes_of, size_of}
use Rattle.law_keeper.specs.declared.keep_fault.KeepFault.{KeepFault}
use Rattle.law_keeper.specs.declared.keep_fault.KeepFault.TheVariants as keep
use Rattle.law_keeper.specs.declared.readiness.Readiness.{Readiness}
use Rattle.law_keeper.specs.declared.readiness.Readiness.TheVariants.{Ready, Unopened}
use Rattle.law_keeper.proofs.Moments.{rests, then_runs, weaker}
use Rattle.law_keeper.proofs.Several.{more_none}
use Rattle.law_follow.specs.Batches.{AreSized, HasHeld, HoldsAhead, batched}
use Rattle.law_follow.specs.Faults.{keep_stop}
use Rattle.law_follow.specs.Following.{HasKeeperCause, IsBetween, IsOfKeeper}
use Rattle.law_follow.specs.Replicas.{Holds, payloads_of}
use Rattle.law_follow.specs.Taking.{LeavesLists}
use Rattle.law_follow.specs.declared.batch.Batch.{Batch}
use Rattle.law_follow.specs.declared.replica.Replica.{Replica}
use Rattle.law_follow.proofs.Courses.{front_then}

-- the keeper was not asked
pub none_given : (list : Listing) (all : List (List ℕ)) → IsWithFront list all list
none_given list all = (0, sym (more_none list))

pub none_left : (h : Holding) (readiness : Readiness) (replica : Replica) (batch : Batch) → IsHolding h → HoldsAhead h readiness replica batch
    → LeavesFront (batched batch) h h
none_left h readiness replica batch is ahead = λ told crash.
    weaker h.may_leave (IsWithFront h.list (batched batch)) h h
    (λ list may. (0, (ahead.held.settled (ahead.held.ready refl)).durable crash list may ∙ sym (more_none h.list)))
    (rests h is crash)

-- what becomes of its list
pub some_given : (old : Listing) (all : List (List ℕ)) (result : Result ℕ KeepFault) (new : Listing) → BecomesMore old all result new
    → IsWithFront old all new
some_given old all (Ok end) new is = (
  length all,
  is ∙ ap (λ (more : List (List ℕ)). with_more more old) (sym (take_all (length all) all (omega arith))),
)
some_given old all (Err why) new is = is

-- it has all of them
module _ (before after : Holding) (readiness ready : Readiness) (old new : Replica) (batch left : Batch) (end : ℕ)
    (appended : AppendsAll (batched batch) before after (Ok end)) (settled : ready ≡ Ready → IsSettled after) (is_ready : ready ≡ Ready)
    (same : payloads_of new ≡ payloads_of old) (ends : new.end ≡ end) (none : left.payloads.items ≡ []) where
  given_list : (given : List (List ℕ)) → Holds before readiness given None old.end → after.tells → after.list ≡ Ok (given ++ batched batch)
  given_list given held told =
      let was = appended.tells.1 told in
      appended.list was ∙ ap (λ (list : Listing). with_more (batched batch) list) (held.list was)

  held_all : (given : List (List ℕ)) → Holds before readiness given None old.end → Holds after ready (given ++ batched batch) None end
  held_all given held = record {
    opened = λ unopened. let no : Unopened ≡ Ready = sym unopened ∙ is_ready in cc no;
    ready = λ nothing. is_ready;
    settled = settled;
    list = given_list given held;
    end = λ told. appended.end (appended.tells.1 told) ∙ ap (λ (list : Listing). size_of list) (given_list given held told);
    durable = tt;
  }

  pub all_given : (first : List (List ℕ)) → HasHeld first before readiness old batch → HasHeld first after ready new left
  all_given first held = record {
    now = record {
      given = held.now.given ++ batched batch;
      held = subst (λ (n : ℕ). Holds after ready (held.now.given ++ batched batch) None n) (sym ends) (held_all held.now.given held.now.held);
      ahead =
          same
          ∙ held.now.ahead
          ∙ sym (append-nil (held.now.given ++ batched batch))
          ∙ ap (λ (l : List (Vec ℕ Global)). (held.now.given ++ batched batch) ++ bytes_of l) (sym none);
      sizes = subst AreSized (sym none) (All-nil (λ (v : Vec ℕ Global). IsTrue (is_size (length v.items))));
    };
    begins = front_then first held.now.given (held.now.given ++ batched batch) held.begins (batched batch, refl);
  }

-- its fault is told on
pub given_fault : (why : KeepFault) → IsOfKeeper (keep_stop why)
given_fault keep.Failed = tt
given_fault keep.Memory = tt

pub given_cause : (h : Holding) (before now : ℕ) (why : KeepFault) → HasAppendCause before now (Err why)
    → HasKeeperCause {T = Unit {0}} h before now (Err (keep_stop why))
given_cause h before now keep.Failed cause = cause
given_cause h before now keep.Memory cause = cause

-- its list lies between the first one and what the replica has
module _ (first : List (List ℕ)) (h : Holding) (readiness : Readiness) (replica : Replica) (batch : Batch)
    (held : HasHeld first h readiness replica batch) where
  pub between_held : h.tells → IsBetween first (payloads_of replica) h.list
  between_held told = record {
    payloads = held.now.given;
    is = held.now.held.list told;
    begins = held.begins;
    within = (batched batch, sym held.now.ahead);
  }

  pub between_given : h.tells → (list : Listing) → IsWithFront h.list (batched batch) list → IsBetween first (payloads_of replica) list
  between_given told list some = record {
    payloads = held.now.given ++ take some.0 (batched batch);
    is = some.1 ∙ ap (λ (l : Listing). with_more (take some.0 (batched batch)) l) (held.now.held.list told);
    begins = front_then first held.now.given (held.now.given ++ take some.0 (batched batch)) held.begins (take some.0 (batched batch), refl);
    within = (
      drop some.0 (batched batch),
      append_assoc held.now.given (take some.0 (batched batch)) (drop some.0 (batched batch))
          ∙ ap (λ (l : List (List ℕ)). held.now.given ++ l) (take-append-drop some.0 (batched batch))
          ∙ sym held.now.ahead,
    );
  }

  -- and so does what a crash leaves
  pub leaves_given : (start next : Holding) (new : Replica) → payloads_of new ≡ payloads_of replica
      → LeavesLists (IsBetween first (payloads_of replica)) start h → (h.tells → next.tells) → LeavesFront (batched batch) h next
      → LeavesLists (IsBetween first (payloads_of new)) start next
  leaves_given start next new same before goes_on some =
      subst (λ (ps : List (List ℕ)). LeavesLists (IsBetween first ps) start next) (sym same) whole
    where
      whole : LeavesLists (IsBetween first (payloads_of replica)) start next
      whole = λ told crash.
          let a = before told crash in (
            goes_on a.0,
            then_runs (IsBetween first (payloads_of replica)) start h next a.1
                (weaker (IsWithFront h.list (batched batch)) (IsBetween first (payloads_of replica)) h next (between_given a.0) (some a.0 a.1.tells)),
          )
