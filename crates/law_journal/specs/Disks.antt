-- What is known of a disk, and what its calls do to it.
use Rattle.std.specs.Prelude.{ℕ, ◌≡◌, ◌⊎◌, ◌↔◌, ◌+◌, ◌-◌, ◌≤◌, min, max, List, ◌++◌, length, take, drop, Result, Ok, Err}

-- what is known of a disk at a moment of its clock
pub record Outlook : Type 1 where
  -- whether it tells what it holds; nothing more is known of one that does not
  pub tells : Type 0
  -- the bytes that a read gives
  pub seen : List ℕ
  -- the images that a crash at this moment may leave
  pub may_leave : List ℕ → Type 0
  -- the moment
  pub moment : ℕ
  -- the images that a crash at some moment from that one on might have left
  pub left_since : ℕ → List ℕ → Type 0

-- what holds of each disk: a crash may leave the bytes as they are, this moment is one of those since an earlier one,
-- and since this moment there is no other
pub record IsOutlook (o : Outlook) : Type 0 where
  pub stays : o.tells → o.may_leave o.seen
  pub counts_now : (t : ℕ) (c : List ℕ) → t ≤ o.moment → o.may_leave c → o.left_since t c
  pub only_now : (c : List ℕ) → o.left_since o.moment c → o.may_leave c

-- a crash leaves this and nothing else
abbrev pub Only : List ℕ → (List ℕ → Type 0) → Type 0
Only file images = (c : List ℕ) → images c → c ≡ file

-- time goes on: a crash since t might have left what it might have left before, or what it may leave now
pub record Elapses (old new : Outlook) : Type 0 where
  pub later : old.moment ≤ new.moment
  pub nothing_else : (t : ℕ) (c : List ℕ) → t ≤ old.moment → new.left_since t c → old.left_since t c ⊎ new.may_leave c
  pub keeps : (t : ℕ) (c : List ℕ) → t ≤ old.moment → old.left_since t c → new.left_since t c

-- a call that leaves the bytes as they are: a crash may leave nothing that it could not leave before
pub record Idles (old new : Outlook) : Type 0 where
  pub tells : old.tells ↔ new.tells
  pub seen : new.seen ≡ old.seen
  pub crash : (c : List ℕ) → new.may_leave c → old.may_leave c
  pub time : Elapses old new

-- a call that changes the bytes: what a crash may leave now is what it might have left before, after a step
pub record Changes (step : List ℕ → List ℕ → Type 0) (old new : Outlook) : Type 0 where
  pub tells : old.tells ↔ new.tells
  pub crash : old.tells → (c : List ℕ) → new.may_leave c → (d : List ℕ) × old.may_leave d × step d c
  pub time : Elapses old new

-- after a write of n bytes that a crash cuts short: any bytes in the range and past the old end, the same elsewhere
pub record Torn (place n : ℕ) (old new : List ℕ) : Type 0 where
  pub before : take place new ≡ take place old
  pub after : drop (place + n) new ≡ drop (place + n) old
  pub no_shorter : length old ≤ length new
  pub no_longer : length new ≤ max (length old) (place + n)

-- after a cut that a crash stops: some length between; what is shorter already stays so
pub record Cut (n : ℕ) (old new : List ℕ) : Type 0 where
  pub no_shorter : min n (length old) ≤ length new
  pub front : take (length new) old ≡ new

-- the bytes with others written over them from a place on
abbrev pub overwritten : ℕ → List ℕ → List ℕ → List ℕ
overwritten place bytes old = take place old ++ bytes ++ drop (place + length bytes) old

-- a read gives the bytes from a place on, as many as there are and are asked for
pub record Gives (file : List ℕ) (place n : ℕ) (into : List ℕ) : Type 0 where
  pub count : n ≡ min (length into) (length file - place)
  pub bytes : take n into ≡ take n (drop place file)

-- what a read gives of a disk that tells
abbrev pub Reads : {E : Type 0} → Outlook → ℕ → Result ℕ E → List ℕ → Type 0
Reads o place (Ok n) into = o.tells → Gives o.seen place n into
Reads o place (Err e) into = Unit {0}

-- a crash at any moment since old leaves a file that has P
pub record LeavesOnly (P : List ℕ → Type 0) (old new : Outlook) : Type 0 where
  pub tells : new.tells
  pub later : old.moment ≤ new.moment
  pub now : (c : List ℕ) → new.may_leave c → P c
  pub since : (c : List ℕ) → new.left_since old.moment c → P c
  -- for a run that began earlier
  pub before : (t : ℕ) (c : List ℕ) → t ≤ old.moment → new.left_since t c → old.left_since t c ⊎ P c

-- what the calls of a disk that tells come to: its length, a write, a cut, and a sync
abbrev pub IsLengthOf : Outlook → ℕ → Type 0
IsLengthOf o n = o.tells → n ≡ length o.seen

abbrev pub Writes : ℕ → List ℕ → Outlook → Outlook → Type 0
Writes place bytes old new = old.tells → new.seen ≡ overwritten place bytes old.seen

abbrev pub CutsTo : ℕ → Outlook → Outlook → Type 0
CutsTo len old new = old.tells → new.seen ≡ take len old.seen

abbrev pub IsSynced : Outlook → Outlook → Type 0
IsSynced old new = old.tells → Only new.seen new.may_leave

-- a crash at any moment of a write, or of a cut, leaves the file torn, or cut in part
abbrev pub LeavesTorn : ℕ → ℕ → Outlook → Outlook → Type 0
LeavesTorn place n old new = old.tells → LeavesOnly (Torn place n old.seen) old new

abbrev pub LeavesCut : ℕ → Outlook → Outlook → Type 0
LeavesCut len old new = old.tells → LeavesOnly (Cut len old.seen) old new
