-- Payloads that a replica has, and that its keeper is given together later.
use Rattle.std.specs.Prelude.{ℕ, ◌≡◌, List, ◌++◌, length, All, None, IsTrue, Vec}
use Rattle.std.specs.declared.alloc.Global.{Global}
use Rattle.law_journal.specs.Grammar.{is_size}
use Rattle.law_keeper.specs.Keepers.{Holding, bytes_of}
use Rattle.law_keeper.specs.declared.readiness.Readiness.{Readiness}
use Rattle.law_follow.specs.Replicas.{Holds, payloads_of}
use Rattle.law_follow.specs.Worlds.{IsFrontOf}
use Rattle.law_follow.specs.declared.batch.Batch.{Batch}
use Rattle.law_follow.specs.declared.replica.Replica.{Replica}

-- the payloads of a batch
abbrev pub batched : Batch → List (List ℕ)
batched batch = bytes_of batch.payloads.items

-- payloads of which each has a size that a keeper takes
abbrev pub AreSized : List (Vec ℕ Global) → Type 0
AreSized payloads = All (λ payload. IsTrue (is_size (length payload.items))) payloads

-- a keeper holds payloads that were given to it, and the replica has those of the batch behind them
pub record HoldsAhead (h : Holding) (readiness : Readiness) (replica : Replica) (batch : Batch) : Type 0 where
  pub given : List (List ℕ)
  pub held : Holds h readiness given None replica.end
  pub ahead : payloads_of replica ≡ given ++ batched batch
  pub sizes : AreSized batch.payloads.items

-- the same since it held these payloads
pub record HasHeld (first : List (List ℕ)) (h : Holding) (readiness : Readiness) (replica : Replica) (batch : Batch) : Type 0 where
  pub now : HoldsAhead h readiness replica batch
  pub begins : IsFrontOf first now.given

-- what a replica has more than before, a batch has more, too: the keeper was not asked
pub record StaysAhead (old new : Replica) (before after : Batch) : Type 0 where
  pub end : new.end ≡ old.end
  pub more : List (List ℕ)
  pub payloads : payloads_of new ≡ payloads_of old ++ more
  pub batch : batched after ≡ batched before ++ more
  pub sizes : AreSized before.payloads.items → AreSized after.payloads.items
