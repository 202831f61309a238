-- What contracts see of a follower.
use Rattle.std.specs.Prelude.{ℕ, ◌⊎◌, List, Option}
use Rattle.law_journal.specs.Grammar.{Listing}
use Rattle.law_keeper.specs.Keepers.{Holding}
use Rattle.law_follow.specs.Replicas.{Standing, Stands}
use Rattle.law_follow.specs.Taking.{LeavesLists}

-- its keeper as it is now, its payloads, the one that is pending, and the name of the keeper that it was lent
pub record FollowerState (K : Type 0) : Type 0 where
  pub keeper : K
  pub payloads : List (List ℕ)
  pub pending : Option (List ℕ)
  pub origin : ℕ

abbrev pub standing : {K : Type 0} → FollowerState K → Standing
standing f = record { payloads = f.payloads; pending = f.pending }

-- a list is what a follower has, with the one that is pending or without it
abbrev pub IsOf : Standing → Listing → Type 0
IsOf s list = Stands s.payloads s.pending list

-- where the keeper tells it: a crash at any moment of a call leaves what the follower had before it, or what it has behind
-- it, in both cases with the payload that is pending or without it
abbrev pub IsOfEither : Standing → Standing → Listing → Type 0
IsOfEither old new list = IsOf old list ⊎ IsOf new list

abbrev pub LeavesBetween : Standing → Standing → Holding → Holding → Type 0
LeavesBetween old new before after = LeavesLists (IsOfEither old new) before after
