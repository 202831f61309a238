-- What a crash may leave of what is kept, now and at each moment since an earlier one.
use Rattle.std.specs.Prelude.{ℕ, ◌⊎◌, ◌≤◌}

-- which things a crash may leave, where that is told
pub record Crashes (A : Type 0) : Type 1 where
  -- whether it is told what a crash leaves
  pub tells : Type 0
  -- the things that a crash at this moment may leave
  pub may_leave : A → Type 0
  -- whether it is told what a crash leaves in the midst of a call, too
  pub tells_moments : Type 0
  -- the moment
  pub moment : ℕ
  -- the things that a crash at some moment from that one on might have left
  pub left_since : ℕ → A → Type 0

-- this moment is one of those since an earlier one, and since this moment there is no other
pub record AreCrashes {A : Type 0} (crashes : Crashes A) : Type 0 where
  pub counts_now : crashes.tells_moments → (t : ℕ) (thing : A) → t ≤ crashes.moment
      → crashes.may_leave thing → crashes.left_since t thing
  pub only_now : crashes.tells_moments → (thing : A) → crashes.left_since crashes.moment thing
      → crashes.may_leave thing

-- a crash at any moment since old leaves a thing that has P
pub record LeavesSince {A : Type 0} (P : A → Type 0) (old new : Crashes A) : Type 0 where
  pub tells : new.tells_moments
  pub later : old.moment ≤ new.moment
  pub since : (thing : A) → new.left_since old.moment thing → P thing
  -- for a run that began earlier
  pub before : (t : ℕ) (thing : A) → t ≤ old.moment → new.left_since t thing → old.left_since t thing ⊎ P thing

-- a crash leaves a thing that has P, now and, where it is told, at any moment since old
pub record LeavesOnly {A : Type 0} (P : A → Type 0) (old new : Crashes A) : Type 0 where
  pub tells : new.tells
  pub now : (thing : A) → new.may_leave thing → P thing
  pub any_moment : old.tells_moments → LeavesSince P old new
