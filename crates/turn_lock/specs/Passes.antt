-- What a clause says of turns and passes, and of a closure that is called in a turn.
use Rattle.std.specs.Prelude.{◌≡◌, ℕ, ◌+◌, ◌<◌, List, [], length}
use Rattle.std.specs.Fn.{Once, FnOnceTakesAtMut, FnOnceReturnsAtMut}
use Rattle.std.specs.Borrow.{MutBor}
use mathlib.Core.List.{IsPrefix}
use Rattle.atomic_table.specs.Seated.{TableId}
use Rattle.turn_lock.specs.declared.view.Stage.TheVariants.{Between}
use Rattle.turn_lock.specs.declared.pass.Pass.{Pass}

module _ {T I : Type 0} where
  -- the entries that a pass has seen
  abbrev pub seen_by : Pass T I → List I
  seen_by pass = pass.seat.me.0.seen

  -- for how many callers it stands
  abbrev pub share_of : Pass T I → ℕ
  share_of pass = pass.share

  -- how many entries were added in its turns
  abbrev pub made_by : Pass T I → ℕ
  made_by pass = pass.seat.me.0.made

  -- the origin of the value that the turns began with
  abbrev pub origin_of : Pass T I → List ℕ
  origin_of pass = pass.seat.me.0.origin

  -- how many entries that value had
  abbrev pub start_of : Pass T I → ℕ
  start_of pass = pass.seat.me.0.start

  -- the pass is one of the turns with this name
  pub record IsPassOf (turns : TableId) (pass : Pass T I) : Type 0 where
    pub named : pass.seat.table_id ≡ turns
    pub between : pass.seat.me.0.stage ≡ Between
    pub empty_handed : pass.seat.me.1 ≡ []
    pub share : pass.seat.me.0.share ≡ pass.share
    pub stands_for_some : 0 < pass.share

  -- both passes' turns began with the same origin and as many entries
  abbrev pub BeganAs : Pass T I → Pass T I → Type 0
  BeganAs one other = (origin_of one ≡ origin_of other) × (start_of one ≡ start_of other)

module _ {T I : Type 0} (history : T → List I) (origin : T → List ℕ) where
  -- what is found in a turn begins with all that the pass has seen, and has the origin of the value that the turns began with
  abbrev pub Finds : Pass T I → T → Type 0
  Finds pass found = IsPrefix (seen_by pass) (history found) × (origin found ≡ origin_of pass)

  -- from one value to another entries were only added, and the origin is the same
  abbrev pub OnlyAppends : T → T → Type 0
  OnlyAppends found left = IsPrefix (history found) (history left) × (origin left ≡ origin found)

  module _ {F R : Type 0} (calls : Once F (MutBor T × Unit {0}) (R × (MutBor T × Unit {0}))) (act : F) where
    -- a closure may be called at whatever is found in a turn, and only appends
    abbrev pub MayAct : Pass T I → Type 0
    MayAct pass = (found : T) → Finds pass found
        → FnOnceTakesAtMut calls act found
        × ((r : R) (left : T) → FnOnceReturnsAtMut calls act found r left → OnlyAppends found left)

    -- a turn was taken: the closure was called at what was found, and what it left has been seen
    pub record TookTurn (before : Pass T I) (result : R) (after : Pass T I) : Type 0 where
      pub found : T
      pub left : T
      pub finds : Finds before found
      pub acted : FnOnceReturnsAtMut calls act found result left
      pub only_appended : OnlyAppends found left
      pub has_seen : seen_by after ≡ history left
      pub has_made : made_by after + length (history found) ≡ made_by before + length (history left)
