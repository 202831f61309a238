-- A keeper that was opened has what its replica says.
use Rattle.std.proofs.Common.{◌≡◌, ◌∙◌, sym, ap, refl, Option, None}
use Rattle.law_keeper.specs.Keepers.{Holding, Keeps}
use Rattle.law_keeper.specs.declared.readiness.Readiness.{Readiness}
use Rattle.law_follow.specs.Opening.{IsListOf}
use Rattle.law_follow.specs.Replicas.{HoldsReplica, IsRight, payloads_of, pending_of}
use Rattle.law_follow.specs.declared.replica.Pending.{Pending}
use Rattle.law_follow.specs.declared.replica.Replica.{Replica}
use Rattle.law_follow.proofs.Ending.{held_list}

pub opened_list : (old new : Holding) (readiness : Readiness) (replica : Replica) → IsRight replica → replica.pending ≡ None → HoldsReplica new readiness replica
    → Keeps old new → old.tells → IsListOf (payloads_of replica) old.list
opened_list old new readiness replica right none held keeps told = record {
  entries = replica.register.entries;
  found = sym (keeps.list told)
      ∙ held_list new readiness (payloads_of replica) (pending_of replica.pending) replica.end held (ap (λ (p : Option Pending). pending_of p) none)
      (keeps.tells.0 told);
  opens = right.opens;
  spelled = refl;
}
