-- What a run of `follow` leaves: the frames that a source has are taken into what a keeper has.
use Rattle.std.specs.Prelude.{ℕ, ◌≡◌, ◌≢◌, ◌⊎◌, List, [], ◌∷◌, ◌++◌, Option, Result, Ok, Err, codes}
use Rattle.std.specs.Fmt.{decimal}
use Rattle.akn_json.specs.Printing.Refusals.{number_data}
use Rattle.desk_base.specs.Streams.{risen}
use Rattle.dossier_text.specs.Reports.{Told, line_of}
use Rattle.law_follow.specs.Following.{FollowsOver}
use Rattle.law_follow.specs.declared.followed.Followed.{Followed}
use Rattle.law_follow.specs.declared.followed.FollowFault.{FollowFault}
use Rattle.law_follow.specs.declared.followed.FollowFault.TheVariants as stops
use Rattle.law_follow.specs.declared.followed.Refusal.{Refusal}
use Rattle.law_follow.specs.declared.followed.Refusal.TheVariants.{BadFrame, Conflict, BadEntry, NotAccepted}
use Rattle.law_keeper.specs.Keepers.{Holding, Keeps, LeavesOldOrSame}
use Rattle.law_office.specs.Opening.{Refuses, opened_of}
use Rattle.law_register.specs.declared.desk.open_fault.OpenFault.{OpenFault}
use Rattle.lawdesk.specs.Telling.{EndsWith, Tells, TellsUnopened}
use Rattle.serde_json.specs.Data.{Data, string, object, no_members, member}

-- the statuses of `follow`: 0 the input was followed to its end, 12 a frame is refused, 3, 4 and 5 for a source, a sink and a keeper
-- that failed, 6 what is kept is damaged, 7 for want of memory
abbrev pub IsFollowStatus : ℕ → Type 0
IsFollowStatus status = (status ≡ 0) ⊎ ((status ≡ 3) ⊎ ((status ≡ 4) ⊎ ((status ≡ 5) ⊎ ((status ≡ 6)
    ⊎ ((status ≡ 7) ⊎ (status ≡ 12))))))

-- how long the list is then, and how many frames were added, were known, and were further on
abbrev pub told_followed : Followed → Told
told_followed done = record {
  status = 0;
  bytes = codes "length " ++ decimal done.length ++ codes " added " ++ decimal done.tally.added
      ++ codes " known " ++ decimal done.tally.known ++ codes " gaps " ++ decimal done.tally.gaps ++ 10 ∷ [];
}

-- a refusal by its number and its name, and the place of the frame in the stream or its number
abbrev pub refusal_number : Refusal → ℕ
refusal_number (BadFrame place) = 1
refusal_number (Conflict number) = 2
refusal_number (BadEntry number broken) = 3
refusal_number (NotAccepted number rule) = 4

abbrev pub refusal_name : Refusal → List ℕ
refusal_name (BadFrame place) = codes "BadFrame"
refusal_name (Conflict number) = codes "Conflict"
refusal_name (BadEntry number broken) = codes "BadEntry"
refusal_name (NotAccepted number rule) = codes "NotAccepted"

abbrev pub frame_number : Refusal → ℕ
frame_number (BadFrame place) = place
frame_number (Conflict number) = number
frame_number (BadEntry number broken) = number
frame_number (NotAccepted number rule) = number

abbrev pub refusal_data : Refusal → Data
refusal_data refusal =
    object (member (codes "follow") (number_data (refusal_number refusal))
    (member (codes "name") (string (refusal_name refusal))
    (member (codes "number") (number_data (frame_number refusal)) no_members)))

-- a frame that is refused
abbrev pub told_refusal : Refusal → Told
told_refusal refusal = record { status = 12; bytes = line_of (refusal_data refusal) }

-- a source, a sink and a keeper before and after, which clauses see by these functions
module _ {S W K : Type 0} (left : S → Option (List ℕ)) (read_faults : S → ℕ)
    (written : W → Option (List ℕ)) (write_faults : W → ℕ) (holding : K → Holding) (keeper_faults : K → ℕ)
    (source source_new : S) (sink sink_new : W) (keeper keeper_new : K) where
  -- no register was opened, which is told, and nothing was asked of the source; the payloads stay, and where the keeper tells it, a
  -- crash at any moment since the run began leaves a list that it could leave before, or the list itself
  pub record IsUnopened (status : ℕ) : Type 0 where
    pub fault : OpenFault
    pub refused : (holding keeper).tells → Refuses fault (opened_of (holding keeper).list)
    pub told : TellsUnopened written write_faults sink sink_new status fault
    pub same_source : source_new ≡ source
    pub same : Keeps (holding keeper) (holding keeper_new)
    pub crash : LeavesOldOrSame (holding keeper) (holding keeper_new)

  -- what is told of how following ended
  abbrev pub TellsFollowed : Result Followed FollowFault → ℕ → Type 0
  TellsFollowed (Ok done) status = Tells written write_faults sink sink_new status (told_followed done)
  TellsFollowed (Err (stops.Open why)) status = ⊥
  TellsFollowed (Err (stops.Refused refusal)) status = Tells written write_faults sink sink_new status (told_refusal refusal)
  TellsFollowed (Err stops.ReadFault) status = EndsWith written write_faults sink sink_new status 3
  TellsFollowed (Err stops.KeeperFault) status = EndsWith written write_faults sink sink_new status 5
  TellsFollowed (Err stops.Memory) status = EndsWith written write_faults sink sink_new status 7

  -- the register that is kept followed what the source had left: what is kept is what the fold of the step makes of the frames that
  -- were read, of the first of them where a device failed or memory was wanting
  pub record IsFollowed (status : ℕ) : Type 0 where
    pub ended : Result Followed FollowFault
    pub followed : FollowsOver (left source) (left source_new) (holding keeper) (holding keeper_new) ended
    pub told : TellsFollowed ended status

  -- what a run of `follow` leaves
  pub record RanFollow (status : ℕ) : Type 0 where
    pub status_is : IsFollowStatus status
    pub went : IsUnopened status ⊎ IsFollowed status
    -- each fault has its cause, and no count rose but that of the device which the status names; where the keeper tells its list,
    -- damage is no fault
    pub source_cause : status ≡ 3 → read_faults source_new ≡ risen (read_faults source)
    pub sink_cause : status ≡ 4 → write_faults sink_new ≡ risen (write_faults sink)
    pub keeper_cause : status ≡ 5 → keeper_faults keeper_new ≡ risen (keeper_faults keeper)
    pub source_stays : status ≢ 3 → read_faults source_new ≡ read_faults source
    pub sink_stays : status ≢ 4 → write_faults sink_new ≡ write_faults sink
    pub keeper_stays : (status ≡ 0) ⊎ ((status ≡ 3) ⊎ (status ≡ 12)) → keeper_faults keeper_new ≡ keeper_faults keeper
    pub damage_is_no_fault : status ≢ 5 → (holding keeper).tells → keeper_faults keeper_new ≡ keeper_faults keeper
