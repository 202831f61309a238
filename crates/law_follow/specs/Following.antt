-- A stream of frames that a keeper follows.
use Rattle.std.specs.Prelude.{ℕ, ◌≡◌, ◌≤◌, ◌⊎◌, ◌↔◌, ◌+◌, ◌-◌, ◌^◌, Bool, true, false, min, List, [], ◌∷◌, length, take, Option, Some, None, Result, Ok, Err, IsTrue}
use Rattle.desk_base.specs.Streams.{risen}
use Rattle.law_journal.specs.Grammar.{Listing}
use Rattle.law_keeper.specs.Keepers.{Holding, Keeps, LeavesOldOrSame}
use Rattle.law_register.specs.declared.desk.open_fault.OpenFault.{OpenFault}
use Rattle.law_follow.specs.Frames.{Message, Reads, message_of}
use Rattle.law_follow.specs.Messages.{AreRead}
use Rattle.law_follow.specs.Opening.{HasFirstCause, Refuses, opened_of}
use Rattle.law_follow.specs.Taking.{LeavesLists, after_taking, taken}
use Rattle.law_follow.specs.Worlds.{IsFrontOf, RefusesNothing, is_register}
use Rattle.law_follow.specs.declared.frame.Frame.{Frame}
use Rattle.law_follow.specs.declared.frame.FrameFault.TheVariants as frame_fault
use Rattle.law_follow.specs.declared.taken.Taken.{Taken}
use Rattle.law_follow.specs.declared.taken.Taken.TheVariants.{Added, Known}
use Rattle.law_follow.specs.declared.taken.TakeFault.{TakeFault}
use Rattle.law_follow.specs.declared.taken.TakeFault.TheVariants as take_fault
use Rattle.law_follow.specs.declared.followed.Followed.{Followed}
use Rattle.law_follow.specs.declared.followed.FollowFault.{FollowFault}
use Rattle.law_follow.specs.declared.followed.FollowFault.TheVariants as fault
use Rattle.law_follow.specs.declared.followed.Refusal.TheVariants as refusal
use Rattle.law_follow.specs.declared.followed.Tally.{Tally}

-- a count with one more; it stands still at its last value
abbrev pub one_more : ℕ → ℕ
one_more count = min (count + 1) (2 ^ 64 - 1)

-- what came of a message that is not refused: it was added, was known, or is further on
abbrev pub answer_of : Result Taken TakeFault → Option Taken
answer_of (Ok answer) = Some answer
answer_of (Err gap) = None

-- how the messages of a stream were answered: none yet, and once one more was
abbrev pub none_yet : Tally
none_yet = record { added = 0; known = 0; gaps = 0 }

abbrev pub counted : Tally → Option Taken → Tally
counted tally (Some Added) = record { added = one_more tally.added; known = tally.known; gaps = tally.gaps }
counted tally (Some Known) = record { added = tally.added; known = one_more tally.known; gaps = tally.gaps }
counted tally None = record { added = tally.added; known = tally.known; gaps = one_more tally.gaps }

-- how far a follower has come: what it has, and how it answered
pub record Course : Type 0 where
  pub payloads : List (List ℕ)
  pub tally : Tally

abbrev pub begun : List (List ℕ) → Course
begun payloads = record { payloads = payloads; tally = none_yet }

abbrev pub after_one : Course → Message → Course
after_one c m = record {
  payloads = after_taking c.payloads m.number m.payload;
  tally = counted c.tally (answer_of (taken c.payloads m.number m.payload));
}

-- the fold of the step of a follower over messages
abbrev pub followed : Course → List Message → Course
followed c [] = c
followed c (m ∷ ms) = followed (after_one c m) ms

-- none of them is refused
abbrev pub AreTrusted : List (List ℕ) → List Message → Type 0
AreTrusted payloads [] = Unit {0}
AreTrusted payloads (m ∷ ms) =
    RefusesNothing (taken payloads m.number m.payload) × AreTrusted (after_taking payloads m.number m.payload) ms

-- a follower that has these payloads is given these messages: it refuses none, and has all of these then
pub record CatchesUp (old : List (List ℕ)) (messages : List Message) (all : List (List ℕ)) : Type 0 where
  pub trusts : AreTrusted old messages
  pub whole : (followed (begun old) messages).payloads ≡ all

-- a follower that had these payloads was given the messages at the front of its input, of which none was refused: what it
-- has now, and how it answered, is what the fold makes of them
pub record HasCome (input : Option (List ℕ)) (old : List (List ℕ)) (messages : List Message) (rest : Option (List ℕ))
    (now : Course) : Type 0 where
  pub read : AreRead input messages rest
  pub trusts : AreTrusted old messages
  pub goes : followed (begun old) messages ≡ now

-- behind these messages, with that rest of its input, a follower stops; so much is left then
module _ (messages : List Message) (tally : Tally) (rest left : Option (List ℕ)) (new : List (List ℕ)) where
  -- the frame of a message that stands there was read, and the follower's answer is this
  pub record IsAsked (given : Result Taken TakeFault) (m : Message) : Type 0 where
    pub read : AreRead rest (m ∷ []) left
    pub answered : taken new m.number m.payload ≡ given

  -- the input has ended
  pub record HasEnded (done : Followed) : Type 0 where
    pub ended : Reads rest left (Ok None)
    pub length_is : done.length ≡ length new
    pub tally_is : done.tally ≡ tally

  -- what stands there is no frame, or not there whole
  pub record IsBroken (place : ℕ) : Type 0 where
    pub broken : Reads rest left (Err frame_fault.BadFrame)
    pub place_is : place ≡ one_more (length messages)

  -- the message that stands there is refused
  pub record IsRefused (number : ℕ) (given : TakeFault) : Type 0 where
    pub message : Message
    pub asked : IsAsked (Err given) message
    pub number_is : number ≡ message.number

  -- the frame that stands there could not be read
  pub record IsUnread : Type 0 where
    pub failed : Reads rest left (Err frame_fault.ReadFault)

  -- nothing was read behind them, or the frame of one more message, or what is no frame
  abbrev pub HasRead : Type 0
  HasRead = (left ≡ rest) ⊎ (((m : Message) × AreRead rest (m ∷ []) left) ⊎ Reads rest left (Err frame_fault.BadFrame))

  -- some were given to the keeper together, and it is not known how many of those it has
  pub record IsLeftSome : Type 0 where
    pub some : 1 ≤ length messages
    pub behind : HasRead

  -- there was not enough memory to read the frame that stands there, to take its message, or to give some to the keeper
  pub record IsWanting : Type 0 where
    pub wanting : Reads rest left (Err frame_fault.Memory) ⊎ HasRead

  abbrev pub StopsAt : Result Followed FollowFault → Type 0
  StopsAt (Ok done) = HasEnded done
  StopsAt (Err (fault.Open why)) = ⊥
  StopsAt (Err (fault.Refused (refusal.BadFrame place))) = IsBroken place
  StopsAt (Err (fault.Refused (refusal.Conflict number))) = IsRefused number (take_fault.Conflict number)
  StopsAt (Err (fault.Refused (refusal.BadEntry number broken))) = IsRefused number (take_fault.BadEntry broken)
  StopsAt (Err (fault.Refused (refusal.NotAccepted number rule))) = IsRefused number (take_fault.NotAccepted rule)
  StopsAt (Err fault.ReadFault) = IsUnread
  StopsAt (Err fault.KeeperFault) = IsLeftSome
  StopsAt (Err fault.Memory) = IsWanting

-- a follower that had these payloads follows its input, and stops: it has these then, whatever its keeper has
pub record HasFollowed (input : Option (List ℕ)) (old : List (List ℕ)) (left : Option (List ℕ)) (new : List (List ℕ))
    (result : Result Followed FollowFault) : Type 0 where
  pub messages : List Message
  pub tally : Tally
  pub rest : Option (List ℕ)
  pub come : HasCome input old messages rest (record { payloads = new; tally = tally })
  pub stops : StopsAt messages tally rest left new result

-- what was read is taken before this is told: the stream was followed to its end, or a frame is refused
abbrev pub is_whole : Result Followed FollowFault → Bool
is_whole (Ok done) = true
is_whole (Err (fault.Open why)) = false
is_whole (Err (fault.Refused why)) = true
is_whole (Err fault.ReadFault) = false
is_whole (Err fault.KeeperFault) = false
is_whole (Err fault.Memory) = false

-- a list is a register, and what the fold makes of some of these messages, the first ones; of all of them, where that is so
pub record HasTaken (old : List (List ℕ)) (messages : List Message) (result : Result Followed FollowFault) (list : Listing)
    : Type 0 where
  pub took : ℕ
  pub is : list ≡ Ok (followed (begun old) (take took messages)).payloads
  pub whole : IsTrue (is_whole result) → length messages ≤ took
  pub legal : is_register (followed (begun old) (take took messages)).payloads ≡ true

-- a list between two: it begins with the one, and the other begins with it
pub record IsBetween (old new : List (List ℕ)) (list : Listing) : Type 0 where
  pub payloads : List (List ℕ)
  pub is : list ≡ Ok payloads
  pub begins : IsFrontOf old payloads
  pub within : IsFrontOf payloads new

-- the same of a stream that was followed: where what was read was taken, the list is the one with all of it
abbrev pub IsKept : Result Followed FollowFault → List (List ℕ) → List (List ℕ) → Listing → Type 0
IsKept result old new list = IsBetween old new list × (IsTrue (is_whole result) → list ≡ Ok new)

-- a list that a crash could leave before, or one between
abbrev pub IsOldOrBetween : Holding → List (List ℕ) → List (List ℕ) → Listing → Type 0
IsOldOrBetween h old new list = h.may_leave list ⊎ IsBetween old new list

-- the same over a keeper, before and after. Where it tells its list, that was the register with which the follower began, and
-- is what the fold makes of the first of the messages that were read; and where it tells that, a crash at any moment since the
-- beginning leaves a list that it could leave before, or one between that register and what all of them make of it
pub record FollowsOver (input left : Option (List ℕ)) (before after : Holding) (result : Result Followed FollowFault)
    : Type 0 where
  pub old : List (List ℕ)
  pub new : List (List ℕ)
  pub found : before.tells → before.list ≡ Ok old
  pub legal : is_register old ≡ true
  pub went : HasFollowed input old left new result
  pub tells : before.tells ↔ after.tells
  pub kept : after.tells → HasTaken old went.messages result after.list
  pub legal_still : is_register new ≡ true
  pub crash : LeavesLists (IsOldOrBetween before old new) before after

-- a keeper that is not opened keeps its list
pub record IsUnopened (why : OpenFault) (before after : Holding) : Type 0 where
  pub refused : before.tells → Refuses why (opened_of before.list)
  pub same : Keeps before after
  pub crash : LeavesOldOrSame before after

abbrev pub Follows : Option (List ℕ) → Option (List ℕ) → Holding → Holding → Result Followed FollowFault → Type 0
Follows input left before after (Ok done) = FollowsOver input left before after (Ok done)
Follows input left before after (Err (fault.Open why)) = IsUnopened why before after
Follows input left before after (Err (fault.Refused why)) = FollowsOver input left before after (Err (fault.Refused why))
Follows input left before after (Err fault.ReadFault) = FollowsOver input left before after (Err fault.ReadFault)
Follows input left before after (Err fault.KeeperFault) = FollowsOver input left before after (Err fault.KeeperFault)
Follows input left before after (Err fault.Memory) = FollowsOver input left before after (Err fault.Memory)

-- where the keeper is not opened, the source is as it was
abbrev pub LeavesSource : {S : Type 0} → S → S → Result Followed FollowFault → Type 0
LeavesSource old new (Ok done) = Unit {0}
LeavesSource old new (Err (fault.Open why)) = new ≡ old
LeavesSource old new (Err (fault.Refused why)) = Unit {0}
LeavesSource old new (Err fault.ReadFault) = Unit {0}
LeavesSource old new (Err fault.KeeperFault) = Unit {0}
LeavesSource old new (Err fault.Memory) = Unit {0}

-- a fault of reading is one more in the count of the source's faults; else the count is as it was
abbrev pub HasSourceCause : {T : Type 0} → ℕ → ℕ → Result T FollowFault → Type 0
HasSourceCause before now (Ok done) = now ≡ before
HasSourceCause before now (Err (fault.Open why)) = now ≡ before
HasSourceCause before now (Err (fault.Refused why)) = now ≡ before
HasSourceCause before now (Err fault.ReadFault) = now ≡ risen before
HasSourceCause before now (Err fault.KeeperFault) = now ≡ before
HasSourceCause before now (Err fault.Memory) = now ≡ before

-- a fault of the keeper is one more in its count of faults, and its opening may fail; else the count is as it was
abbrev pub HasKeeperCause : {T : Type 0} → Holding → ℕ → ℕ → Result T FollowFault → Type 0
HasKeeperCause h before now (Ok done) = now ≡ before
HasKeeperCause h before now (Err (fault.Open why)) = HasFirstCause h before now why
HasKeeperCause h before now (Err (fault.Refused why)) = now ≡ before
HasKeeperCause h before now (Err fault.ReadFault) = now ≡ before
HasKeeperCause h before now (Err fault.KeeperFault) = now ≡ risen before
HasKeeperCause h before now (Err fault.Memory) = now ≡ before

-- a fault of the keeper, or of the memory that it wanted
abbrev pub IsOfKeeper : FollowFault → Type 0
IsOfKeeper (fault.Open why) = ⊥
IsOfKeeper (fault.Refused why) = ⊥
IsOfKeeper fault.ReadFault = ⊥
IsOfKeeper fault.KeeperFault = Unit {0}
IsOfKeeper fault.Memory = Unit {0}

-- the frame that was read at a place of a stream, or why none was
abbrev pub ReadsAt : ℕ → Option (List ℕ) → Option (List ℕ) → Result (Option Frame) FollowFault → Type 0
ReadsAt place rest left (Ok None) = Reads rest left (Ok None)
ReadsAt place rest left (Ok (Some f)) = AreRead rest (message_of f ∷ []) left
ReadsAt place rest left (Err (fault.Open why)) = ⊥
ReadsAt place rest left (Err (fault.Refused (refusal.BadFrame at))) = (at ≡ place) × Reads rest left (Err frame_fault.BadFrame)
ReadsAt place rest left (Err (fault.Refused (refusal.Conflict number))) = ⊥
ReadsAt place rest left (Err (fault.Refused (refusal.BadEntry number broken))) = ⊥
ReadsAt place rest left (Err (fault.Refused (refusal.NotAccepted number rule))) = ⊥
ReadsAt place rest left (Err fault.ReadFault) = Reads rest left (Err frame_fault.ReadFault)
ReadsAt place rest left (Err fault.KeeperFault) = ⊥
ReadsAt place rest left (Err fault.Memory) = Reads rest left (Err frame_fault.Memory)

-- what comes of a message of this number, by what came of its payload
abbrev pub answer_to : ℕ → Result Taken TakeFault → Result (Option Taken) FollowFault
answer_to number (Ok answer) = Ok (Some answer)
answer_to number (Err (take_fault.Gap expected got)) = Ok None
answer_to number (Err (take_fault.Conflict n)) = Err (fault.Refused (refusal.Conflict number))
answer_to number (Err (take_fault.BadEntry broken)) = Err (fault.Refused (refusal.BadEntry number broken))
answer_to number (Err (take_fault.NotAccepted rule)) = Err (fault.Refused (refusal.NotAccepted number rule))
answer_to number (Err take_fault.KeeperFault) = Err fault.KeeperFault
answer_to number (Err take_fault.Memory) = Err fault.Memory

-- a follower of which nothing is pending is given a message, and its keeper is not asked
module _ (m : Message) (old new : List (List ℕ)) where
  -- it is not refused
  pub record IsTrusted (answer : Option Taken) : Type 0 where
    pub trusted : RefusesNothing (taken old m.number m.payload)
    pub answered : answer_of (taken old m.number m.payload) ≡ answer
    pub payloads : new ≡ after_taking old m.number m.payload

  -- it is refused
  pub record IsDenied (number : ℕ) (given : TakeFault) : Type 0 where
    pub answered : taken old m.number m.payload ≡ Err given
    pub payloads : new ≡ old
    pub number_is : number ≡ m.number

  abbrev pub TakesMessage : Result (Option Taken) FollowFault → Type 0
  TakesMessage (Ok answer) = IsTrusted answer
  TakesMessage (Err (fault.Open why)) = ⊥
  TakesMessage (Err (fault.Refused (refusal.BadFrame place))) = ⊥
  TakesMessage (Err (fault.Refused (refusal.Conflict number))) = IsDenied number (take_fault.Conflict number)
  TakesMessage (Err (fault.Refused (refusal.BadEntry number broken))) = IsDenied number (take_fault.BadEntry broken)
  TakesMessage (Err (fault.Refused (refusal.NotAccepted number rule))) = IsDenied number (take_fault.NotAccepted rule)
  TakesMessage (Err fault.ReadFault) = ⊥
  TakesMessage (Err fault.KeeperFault) = ⊥
  TakesMessage (Err fault.Memory) = new ≡ old
