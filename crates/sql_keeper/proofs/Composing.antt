-- What the parts of a move make of both lists.
use Rattle.std.proofs.Common.{◌≡◌, inl, inr, ℕ, List, Option, Some, None, Result, Ok, Err, refl, sym, subst, ◌∙◌}
use Rattle.desk_base.specs.declared.load_fault.LoadFault.{LoadFault}
use Rattle.desk_base.specs.declared.load_fault.LoadFault.TheVariants as load
use Rattle.law_journal.specs.Grammar.{Listing}
use Rattle.law_journal.specs.Journals.{Tells}
use Rattle.sql_keeper.specs.declared.move_fault.MoveFault.{MoveFault}
use Rattle.sql_keeper.specs.declared.move_fault.MoveFault.TheVariants.{Failed, Damaged, Differs, Memory}
use Rattle.law_keeper.specs.Keepers.{Holding, IsHolding, IsOldOrSame, Keeps, LeavesNoMore, LeavesOldOrSame, LeavesOnly}
use Rattle.law_keeper.specs.declared.readiness.Readiness.{Readiness}
use Rattle.law_keeper.specs.declared.readiness.Readiness.TheVariants.{Unopened, Ready, Stopped}
use Rattle.law_keeper.specs.Keepers.{HasDamageCause, HasReadCause}
use Rattle.sql_keeper.specs.Moving.{AreLists, Agrees, Adds, Grows, HasMoveCause, IsLeftBy, IsLeftOnTheWay, IsOnTheWay, LeavesOnTheWay, MayBeRisen, Moves, StartsAt, of_load_fault}
use Rattle.law_keeper.proofs.Moments.{idles_on, rests, then_runs, weaker, keeps_both}
use Rattle.sql_keeper.proofs.Moves.{prefix_of}

left_same : (from old : Listing) → IsLeftBy from old old
left_same (Ok whole) (Ok before) = inl refl
left_same (Ok whole) (Err damage) = refl
left_same (Err damage) old = refl

left_as : (from old new : Listing) → new ≡ old → IsLeftBy from old new
left_as from old new same = subst (IsLeftBy from old) (sym same) (left_same from old)

on_way : (from old new : Listing) (whole before : List (List ℕ)) → from ≡ Ok whole → old ≡ Ok before → IsOnTheWay whole before new → IsLeftBy from old new
on_way from old new whole before from_is old_is way =
    subst (λ (l : Listing). IsLeftBy l old new) (sym from_is) (subst (λ (l : Listing). IsLeftBy (Ok whole) l new) (sym old_is) (inr way))

-- the first is not opened, or the second is not
pub not_opened : (from old : Listing) (fault : LoadFault) → Tells from fault → Moves from old old (Err (of_load_fault fault))
not_opened from old load.Failed told = left_same from old
not_opened from old (load.Damaged place byte) told = (refl, inl told)
not_opened from old load.Memory told = left_same from old

pub not_opened_to : (from old new : Listing) (fault : LoadFault) → new ≡ old → Tells old fault → Moves from old new (Err (of_load_fault fault))
not_opened_to from old new load.Failed same told = left_as from old new same
not_opened_to from old new (load.Damaged place byte) same told = (same, inr told)
not_opened_to from old new load.Memory same told = left_as from old new same

-- a count of damage is as it was, or has risen
may_be_risen : (readiness : Readiness) (before now : ℕ) → HasDamageCause readiness before now → MayBeRisen before now
may_be_risen Unopened before now cause = inl cause
may_be_risen Ready before now cause = inr cause
may_be_risen Stopped before now cause = inr cause

-- why the first is not opened, and why the second is not
pub cause_of_first : (readiness : Readiness) (from from_now to : ℕ) (fault : LoadFault) → HasReadCause {T = Unit {0}} readiness from from_now (Err fault)
    → HasMoveCause {T = ℕ} from from_now to to (Err (of_load_fault fault))
cause_of_first readiness from from_now to load.Failed cause = inl (cause, refl)
cause_of_first readiness from from_now to (load.Damaged place byte) cause = inl (may_be_risen readiness from from_now cause, refl)
cause_of_first readiness from from_now to load.Memory cause = (cause, refl)

pub cause_of_second : (readiness : Readiness) (from from_now to to_now : ℕ) (fault : LoadFault) → from_now ≡ from → HasReadCause {T = Unit {0}} readiness to to_now (Err fault)
    → HasMoveCause {T = ℕ} from from_now to to_now (Err (of_load_fault fault))
cause_of_second readiness from from_now to to_now load.Failed same cause = inr (same, cause)
cause_of_second readiness from from_now to to_now (load.Damaged place byte) same cause = inr (same, may_be_risen readiness to to_now cause)
cause_of_second readiness from from_now to to_now load.Memory same cause = (same, cause)

-- counts that are the same
pub cause_from : (from mid from_now to mid_to to_now : ℕ) (result : Result ℕ MoveFault) → mid ≡ from → mid_to ≡ to → HasMoveCause mid from_now mid_to to_now result → HasMoveCause from from_now to to_now result
cause_from from mid from_now to mid_to to_now result same same_to cause =
    subst (λ (n : ℕ). HasMoveCause n from_now to to_now result) same (subst (λ (n : ℕ). HasMoveCause mid from_now n to_now result) same_to cause)

-- lists that are the same
lists_as : (from from_now old old_now : Listing) (at : Option ℕ) → from_now ≡ from → old_now ≡ old → AreLists from_now old_now at → AreLists from old at
lists_as from from_now old old_now at same same_to lists = record {
  whole = lists.whole;
  before = lists.before;
  whole_is = sym same ∙ lists.whole_is;
  before_is = sym same_to ∙ lists.before_is;
  differs = lists.differs;
}

-- the walk along both is refused, or finds a difference
pub not_walked : (from from_now old old_now new : Listing) (place_of : ℕ → Option ℕ) (fault : MoveFault) → from_now ≡ from → old_now ≡ old → new ≡ old_now → Agrees from_now old_now place_of (Err fault) → Moves from old new (Err fault)
not_walked from from_now old old_now new place_of Failed same same_to kept agrees = left_as from old new (kept ∙ same_to)
not_walked from from_now old old_now new place_of (Damaged place byte) same same_to kept agrees = absurd agrees
not_walked from from_now old old_now new place_of (Differs place) same same_to kept agrees = (kept ∙ same_to, lists_as from from_now old old_now (Some place) same same_to agrees)
not_walked from from_now old old_now new place_of Memory same same_to kept agrees = left_as from old new (kept ∙ same_to)

-- what is appended then
appended_as : (from old new : Listing) (lists : AreLists from old None) (result : Result ℕ MoveFault) → Adds lists.whole lists.before new result → Moves from old new result
appended_as from old new lists (Ok n) adds = (lists, adds.0 ∙ sym lists.whole_is, adds.1)
appended_as from old new lists (Err Failed) adds = on_way from old new lists.whole lists.before lists.whole_is lists.before_is adds
appended_as from old new lists (Err (Damaged place byte)) adds = absurd adds
appended_as from old new lists (Err (Differs place)) adds = absurd adds
appended_as from old new lists (Err Memory) adds = on_way from old new lists.whole lists.before lists.whole_is lists.before_is adds

-- a keeper that keeps its payloads grows by none
grown_by_none : (old new : Holding) → Keeps old new → Grows old new
grown_by_none old new keeps = record { tells = keeps.tells; tells_crash = keeps.tells_crash; places = keeps.places }

pub grows_same : (h : Holding) → Grows h h
grows_same h = record { tells = (λ t. t, λ t. t); tells_crash = (λ t. t, λ t. t); places = λ t cursor n at. at }

pub opened_grows : (old new : Holding) → Keeps old new → Grows old new
opened_grows old new keeps = grown_by_none old new keeps

pub walked_grows : (old mid new : Holding) → Keeps old mid → Keeps mid new → Grows old new
walked_grows old mid new first second = grown_by_none old new (keeps_both old mid new first second)

pub grows_on : (old mid new : Holding) → Keeps old mid → Grows mid new → Grows old new
grows_on old mid new first second = record {
  tells = (λ t. second.tells.0 (first.tells.0 t), λ t. first.tells.1 (second.tells.1 t));
  tells_crash = (λ t. second.tells_crash.0 (first.tells_crash.0 t), λ t. first.tells_crash.1 (second.tells_crash.1 t));
  places = λ t cursor n at. second.places (first.tells.0 t) cursor n (first.places t cursor n at);
}

-- an opening, and calls behind it after which a crash leaves no more
pub opened_on : (old mid new : Holding) → LeavesOldOrSame old mid → LeavesNoMore mid new → LeavesOldOrSame old new
opened_on old mid new first second = λ told. let far = first told in idles_on (IsOldOrSame old) old mid new far (second far.tells)

-- what a crash leaves of the second where nothing was asked of it, and where it was opened
pub untouched : (from old : Holding) → IsHolding old → LeavesOnTheWay from old old
untouched from old is = λ told told_to crash. weaker old.may_leave (IsLeftOnTheWay from.list old) old old (λ l left. inl (inl left)) (rests old is crash)

pub opened_leaves : (from old new : Holding) → LeavesOldOrSame old new → LeavesOnTheWay from old new
opened_leaves from old new leaves = λ told told_to crash. weaker (IsOldOrSame old) (IsLeftOnTheWay from.list old) old new (λ l left. inl left) (leaves crash)

-- both, walked along until the second ends, and what the first has behind that
module _ (from opened walked old opened_to walked_to new : Holding) (end : ℕ)
    (opens : Keeps from opened) (walks : Keeps opened walked) (opens_to : Keeps old opened_to) (walks_to : Keeps opened_to walked_to)
    (agrees : opened.tells → opened_to.tells → Agrees opened.list opened_to.list walked.place_of (Ok end)) where
  told_walked : from.tells → walked.tells
  told_walked told = walks.tells.0 (opens.tells.0 told)

  told_walked_to : old.tells → walked_to.tells
  told_walked_to told_to = walks_to.tells.0 (opens_to.tells.0 told_to)

  lists : from.tells → old.tells → AreLists from.list old.list None
  lists told told_to = lists_as from.list opened.list old.list opened_to.list None (opens.list told) (opens_to.list told_to) (agrees (opens.tells.0 told) (opens_to.tells.0 told_to)).0

  starts : (told : from.tells) (told_to : old.tells) → StartsAt walked end walked_to (lists told told_to).whole (lists told told_to).before
  unfolding lists lists_as
  starts told told_to =
      let all = lists told told_to in
      record {
        from_is = walks.list (opens.tells.0 told) ∙ opens.list told ∙ all.whole_is;
        to_is = walks_to.list (opens_to.tells.0 told_to) ∙ opens_to.list told_to ∙ all.before_is;
        begins = prefix_of 1 all.whole all.before all.differs;
        at = (agrees (opens.tells.0 told) (opens_to.tells.0 told_to)).1;
      }

  pub moves : (result : Result ℕ MoveFault)
      → (walked.tells → walked_to.tells → (whole before : List (List ℕ)) → StartsAt walked end walked_to whole before → Adds whole before new.list result) → from.tells → old.tells → Moves from.list old.list new.list result
  moves result adds told told_to =
      let all = lists told told_to in
      appended_as from.list old.list new.list all result (adds (told_walked told) (told_walked_to told_to) all.whole all.before (starts told told_to))

  pub leaves : LeavesOldOrSame old opened_to → LeavesNoMore opened_to walked_to
      → (walked.tells → walked_to.tells → walked_to.tells_crash → (whole before : List (List ℕ)) → StartsAt walked end walked_to whole before → LeavesOnly (IsOnTheWay whole before) walked_to new) → LeavesOnTheWay from old new
  leaves first second third = λ told told_to crash.
      let all = lists told told_to in
      let far = opened_on old opened_to walked_to first second crash in
      then_runs (IsLeftOnTheWay from.list old) old walked_to new
      (weaker (IsOldOrSame old) (IsLeftOnTheWay from.list old) old walked_to (λ l left. inl left) far)
      (weaker (IsOnTheWay all.whole all.before) (IsLeftOnTheWay from.list old) walked_to new (λ l way. inr (on_way from.list old.list l all.whole all.before all.whole_is all.before_is way))
      (third (told_walked told) (told_walked_to told_to) far.tells all.whole all.before (starts told told_to)))
