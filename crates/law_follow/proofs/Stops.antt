-- How a follower stops, and what it leaves of its keeper.
use Rattle.std.proofs.Common.{◌≡◌, ⊎_elim, ◌↔◌, ◌∙◌, sym, ap, subst, refl, inl, inr, true, false, ℕ, ◌<◌, List, [], ◌∷◌, length, Option, Some, None, Result, Ok, Err}
use Rattle.std.specs.Prelude.{IsTrue, is_ok}
use Rattle.std.proofs.lemmas.List.{length-map}
use Rattle.law_journal.specs.Grammar.{Listing}
use Rattle.law_keeper.specs.Keepers.{Holding, IsHolding, IsOldOrSame, Keeps, LeavesOldOrSame}
use Rattle.law_keeper.specs.declared.readiness.Readiness.{Readiness}
use Rattle.law_keeper.proofs.Moments.{rests, then_runs, weaker}
use Rattle.law_register.specs.declared.desk.damage.Damage.{Damage}
use Rattle.law_register.specs.declared.desk.open_fault.OpenFault.{OpenFault}
use Rattle.law_register.specs.declared.register.entry.Entry.{Entry}
use Rattle.entry_codec.specs.Entries.{spelling}
use Rattle.law_follow.specs.Following.{FollowsOver, Follows, HasCome, HasFollowed, HasKeeperCause, HasRead, HasSourceCause, IsBetween, IsKept, IsOfKeeper, IsOldOrBetween, IsTrusted, LeavesSource, ReadsAt, TakesMessage, is_whole}
use Rattle.law_follow.specs.Frames.{Message, Reads, ends, front_of}
use Rattle.law_follow.specs.Messages.{AreRead, StandAt}
use Rattle.law_follow.specs.Replicas.{HoldsReplica, IsRight, payloads_of, pending_of}
use Rattle.law_follow.specs.Taking.{LeavesLists}
use Rattle.law_follow.specs.Worlds.{IsFrontOf, is_register}
use Rattle.law_follow.specs.declared.followed.Followed.{Followed}
use Rattle.law_follow.specs.declared.followed.FollowFault.{FollowFault}
use Rattle.law_follow.specs.declared.followed.FollowFault.TheVariants as follow
use Rattle.law_follow.specs.declared.followed.Refusal.TheVariants as refusal
use Rattle.law_follow.specs.declared.followed.Tally.{Tally}
use Rattle.law_follow.specs.declared.replica.Replica.{Replica}
use Rattle.law_follow.specs.declared.taken.Taken.{Taken}
use Rattle.law_follow.proofs.Courses.{HasGone, course_of, front_self, front_taking, front_then, has_grown, some_read}
use Rattle.law_follow.proofs.Ending.{held_list}
use Rattle.law_follow.proofs.Fronts.{front_ended}
use Rattle.law_follow.proofs.Handed.{none_given}
use Rattle.law_follow.proofs.Reached.{kept_first}

-- it went so far, and the next frame is none, or could not be read
module _ (input rest left : Option (List ℕ)) (old new : List (List ℕ)) (tally : Tally) (place : ℕ)
    (gone : HasGone input old rest (course_of new tally) place) where
  pub stops_unread : (why : FollowFault) → ReadsAt place rest left (Err why) → HasFollowed input old left new (Err why)
  stops_unread (follow.Open why) read = absurd read
  stops_unread (follow.Refused (refusal.BadFrame at)) read = record {
    messages = gone.messages;
    tally = tally;
    rest = rest;
    come = gone.come;
    stops = record { broken = read.1; place_is = read.0 ∙ gone.place_is };
  }
  stops_unread (follow.Refused (refusal.Conflict number)) read = absurd read
  stops_unread (follow.Refused (refusal.BadEntry number broken)) read = absurd read
  stops_unread (follow.Refused (refusal.NotAccepted number rule)) read = absurd read
  stops_unread follow.ReadFault read = record {
    messages = gone.messages;
    tally = tally;
    rest = rest;
    come = gone.come;
    stops = record { failed = read };
  }
  stops_unread follow.KeeperFault read = absurd read
  stops_unread follow.Memory read = record {
    messages = gone.messages;
    tally = tally;
    rest = rest;
    come = gone.come;
    stops = record { wanting = inl read };
  }

  pub stops_ended : (done : Followed) → ReadsAt place rest left (Ok None) → done.length ≡ length new → done.tally ≡ tally
      → HasFollowed input old left new (Ok done)
  stops_ended done read long same = record {
    messages = gone.messages;
    tally = tally;
    rest = rest;
    come = gone.come;
    stops = record { ended = read; length_is = long; tally_is = same };
  }

-- it went so far, and the next message is not taken
module _ (input rest left : Option (List ℕ)) (old payloads new : List (List ℕ)) (tally : Tally) (place : ℕ) (m : Message)
    (gone : HasGone input old rest (course_of payloads tally) place) (read : AreRead rest (m ∷ []) left) where
  come : new ≡ payloads → HasCome input old gone.messages rest (course_of new tally)
  come same = subst (λ (ps : List (List ℕ)). HasCome input old gone.messages rest (course_of ps tally)) (sym same) gone.come

  pub stops_untaken : (why : FollowFault) → TakesMessage m payloads new (Err why) → HasFollowed input old left new (Err why)
  stops_untaken (follow.Open why) takes = absurd takes
  stops_untaken (follow.Refused (refusal.BadFrame at)) takes = absurd takes
  stops_untaken (follow.Refused (refusal.Conflict number)) takes = record {
    messages = gone.messages;
    tally = tally;
    rest = rest;
    come = come takes.payloads;
    stops = record { message = m; asked = record { read = read; answered = rw takes.payloads takes.answered }; number_is = takes.number_is };
  }
  stops_untaken (follow.Refused (refusal.BadEntry number broken)) takes = record {
    messages = gone.messages;
    tally = tally;
    rest = rest;
    come = come takes.payloads;
    stops = record { message = m; asked = record { read = read; answered = rw takes.payloads takes.answered }; number_is = takes.number_is };
  }
  stops_untaken (follow.Refused (refusal.NotAccepted number rule)) takes = record {
    messages = gone.messages;
    tally = tally;
    rest = rest;
    come = come takes.payloads;
    stops = record { message = m; asked = record { read = read; answered = rw takes.payloads takes.answered }; number_is = takes.number_is };
  }
  stops_untaken follow.ReadFault takes = absurd takes
  stops_untaken follow.KeeperFault takes = absurd takes
  stops_untaken follow.Memory takes = record {
    messages = gone.messages;
    tally = tally;
    rest = rest;
    come = come takes;
    stops = record { wanting = inr (inr (inl (m, read))) };
  }

-- it went so far, and the keeper did not take what it was given
module _ (input rest left : Option (List ℕ)) (old new : List (List ℕ)) (ms : List Message) (tally : Tally)
    (come : HasCome input old ms rest (course_of new tally)) (more : length old < length new) (read : HasRead ms tally rest left new) where
  pub stops_ungiven : (why : FollowFault) → IsOfKeeper why → HasFollowed input old left new (Err why)
  stops_ungiven (follow.Open why) is = absurd is
  stops_ungiven (follow.Refused why) is = absurd is
  stops_ungiven follow.ReadFault is = absurd is
  stops_ungiven follow.KeeperFault is = record {
    messages = ms;
    tally = tally;
    rest = rest;
    come = come;
    stops = record { some = some_read input old ms rest (course_of new tally) come more; behind = read };
  }
  stops_ungiven follow.Memory is =
      record { messages = ms; tally = tally; rest = rest; come = come; stops = record { wanting = inr read } }

-- at the end of the input nothing is left
ended_there : (input rest left : Option (List ℕ)) (ms : List Message) → AreRead input ms rest → Reads rest left (Ok None) → AreRead input ms left
ended_there None rest left ms read ended = tt
ended_there (Some bytes) rest left ms read ended = by (subst (λ (r : Option (List ℕ)). Reads r left (Ok None)) read.1 ended)
  where
    by : (front_of read.0 ≡ ends) × (left ≡ Some []) → AreRead (Some bytes) ms left
    by is = ([], is.1, subst (λ (l : List ℕ). StandAt bytes ms l) (front_ended read.0 is.0) read.2)

-- all was read, and the keeper did not take what it was given then
module _ (input left : Option (List ℕ)) (old new : List (List ℕ)) (more : length old < length new) (why : FollowFault) (is : IsOfKeeper why) where
  pub stops_late : (went : Result Followed FollowFault) → is_whole went ≡ true → HasFollowed input old left new went → HasFollowed input old left new (Err why)
  stops_late (Ok done) whole f =
      stops_ungiven input left left old new f.messages f.tally
      (record { read = ended_there input f.rest left f.messages f.come.read f.stops.ended; trusts = f.come.trusts; goes = f.come.goes })
      more (inl refl) why is
  stops_late (Err (follow.Open fault)) whole f = absurd f.stops
  stops_late (Err (follow.Refused (refusal.BadFrame place))) whole f =
      stops_ungiven input f.rest left old new f.messages f.tally f.come more (inr (inr f.stops.broken)) why is
  stops_late (Err (follow.Refused (refusal.Conflict number))) whole f =
      stops_ungiven input f.rest left old new f.messages f.tally f.come more (inr (inl (f.stops.message, f.stops.asked.read))) why is
  stops_late (Err (follow.Refused (refusal.BadEntry number broken))) whole f =
      stops_ungiven input f.rest left old new f.messages f.tally f.come more (inr (inl (f.stops.message, f.stops.asked.read))) why is
  stops_late (Err (follow.Refused (refusal.NotAccepted number rule))) whole f =
      stops_ungiven input f.rest left old new f.messages f.tally f.come more (inr (inl (f.stops.message, f.stops.asked.read))) why is
  stops_late (Err follow.ReadFault) whole f = absurd (cc whole)
  stops_late (Err follow.KeeperFault) whole f = absurd (cc whole)
  stops_late (Err follow.Memory) whole f = absurd (cc whole)

-- a fault of the keeper is told before what was read is taken
pub not_whole : (why : FollowFault) → IsOfKeeper why → is_whole (Err why) ≡ false
not_whole (follow.Open why) is = absurd is
not_whole (follow.Refused why) is = absurd is
not_whole follow.ReadFault is = absurd is
not_whole follow.KeeperFault is = refl
not_whole follow.Memory is = refl

pub no_whole : (why : FollowFault) → IsOfKeeper why → IsTrue (is_whole (Err why)) → ⊥
no_whole why is whole = let never : true ≡ false = sym whole ∙ not_whole why is in cc never

-- the source's count stayed, too
pub ungiven_source : (T : Type 0) (before now : ℕ) (why : FollowFault) → IsOfKeeper why → now ≡ before → HasSourceCause {T = T} before now (Err why)
ungiven_source T before now (follow.Open fault) is same = absurd is
ungiven_source T before now (follow.Refused told) is same = absurd is
ungiven_source T before now follow.ReadFault is same = absurd is
ungiven_source T before now follow.KeeperFault is same = same
ungiven_source T before now follow.Memory is same = same

pub late_source : (before now : ℕ) (went : Result Followed FollowFault) → is_whole went ≡ true → HasSourceCause before now went → now ≡ before
late_source before now (Ok done) whole cause = cause
late_source before now (Err (follow.Open fault)) whole cause = absurd (cc whole)
late_source before now (Err (follow.Refused told)) whole cause = cause
late_source before now (Err follow.ReadFault) whole cause = absurd (cc whole)
late_source before now (Err follow.KeeperFault) whole cause = absurd (cc whole)
late_source before now (Err follow.Memory) whole cause = absurd (cc whole)

-- the keeper's count stayed so far
pub late_keeper : (h : Holding) (before between : ℕ) (went : Result Followed FollowFault) → is_whole went ≡ true
    → HasKeeperCause h before between went → between ≡ before
late_keeper h before between (Ok done) whole cause = cause
late_keeper h before between (Err (follow.Open fault)) whole cause = absurd (cc whole)
late_keeper h before between (Err (follow.Refused told)) whole cause = cause
late_keeper h before between (Err follow.ReadFault) whole cause = absurd (cc whole)
late_keeper h before between (Err follow.KeeperFault) whole cause = absurd (cc whole)
late_keeper h before between (Err follow.Memory) whole cause = absurd (cc whole)

pub ungiven_cause : (T : Type 0) (h k : Holding) (before between now : ℕ) (why : FollowFault) → IsOfKeeper why → between ≡ before
    → HasKeeperCause {T = Unit {0}} k between now (Err why) → HasKeeperCause {T = T} h before now (Err why)
ungiven_cause T h k before between now (follow.Open fault) is same cause = absurd is
ungiven_cause T h k before between now (follow.Refused told) is same cause = absurd is
ungiven_cause T h k before between now follow.ReadFault is same cause = absurd is
ungiven_cause T h k before between now follow.KeeperFault is same cause = rw (sym same) cause
ungiven_cause T h k before between now follow.Memory is same cause = cause ∙ same

pub whole_cause : (h : Holding) (before between now : ℕ) (went : Result Followed FollowFault) → now ≡ between → HasKeeperCause h before between went
    → HasKeeperCause h before now went
whole_cause h before between now went same cause = subst (λ (n : ℕ). HasKeeperCause h before n went) (sym same) cause

-- a message that is not taken adds nothing
takes_on : (m : Message) (payloads new : List (List ℕ)) (why : FollowFault) → TakesMessage m payloads new (Err why) → new ≡ payloads
takes_on m payloads new (follow.Open why) takes = absurd takes
takes_on m payloads new (follow.Refused (refusal.BadFrame at)) takes = absurd takes
takes_on m payloads new (follow.Refused (refusal.Conflict number)) takes = takes.payloads
takes_on m payloads new (follow.Refused (refusal.BadEntry number broken)) takes = takes.payloads
takes_on m payloads new (follow.Refused (refusal.NotAccepted number rule)) takes = takes.payloads
takes_on m payloads new follow.ReadFault takes = absurd takes
takes_on m payloads new follow.KeeperFault takes = absurd takes
takes_on m payloads new follow.Memory takes = takes

pub trusted_front : (m : Message) (payloads new : List (List ℕ)) (answer : Option Taken) → IsTrusted m payloads new answer → IsFrontOf payloads new
trusted_front m payloads new answer trusted =
    subst (λ (ps : List (List ℕ)). IsFrontOf payloads ps) (sym trusted.payloads) (front_taking payloads m.number m.payload)

pub untaken_front : (m : Message) (payloads new : List (List ℕ)) (why : FollowFault) → TakesMessage m payloads new (Err why) → IsFrontOf payloads new
untaken_front m payloads new why takes =
    subst (λ (ps : List (List ℕ)). IsFrontOf payloads ps) (sym (takes_on m payloads new why takes)) (front_self payloads)

-- a crash at the beginning, when nothing was done
pub leaves_none : (h : Holding) (readiness : Readiness) (replica : Replica) → IsHolding h → replica.pending ≡ None → HoldsReplica h readiness replica
    → LeavesLists (IsBetween (payloads_of replica) (payloads_of replica)) h h
leaves_none h readiness replica is none held = λ told crash. (
  told,
  weaker h.may_leave (IsBetween (payloads_of replica) (payloads_of replica)) h h
      (λ list may. record {
        payloads = payloads_of replica;
        is = (held.settled (held.ready nothing)).durable crash list may
            ∙ held_list h readiness (payloads_of replica) (pending_of replica.pending) replica.end held nothing told;
        begins = front_self (payloads_of replica);
        within = front_self (payloads_of replica);
      })
      (rests h is crash),
)
  where
    nothing : pending_of replica.pending ≡ None
    nothing = none_given replica.pending none

-- more was read, of which the keeper was not told
pub leaves_wider : (first second : Holding) (old mid new : List (List ℕ)) → IsFrontOf mid new → LeavesLists (IsBetween old mid) first second
    → LeavesLists (IsBetween old new) first second
leaves_wider first second old mid new front before = λ told crash.
    let a = before told crash in (a.0, weaker (IsBetween old mid) (IsBetween old new) first second wider a.1)
  where
    wider : (list : Listing) → IsBetween old mid list → IsBetween old new list
    wider list b = record { payloads = b.payloads; is = b.is; begins = b.begins; within = front_then b.payloads mid new b.within front }

-- a keeper was opened, and then a stream was followed
module _ (input left : Option (List ℕ)) (before between after : Holding) (ready_mid : Readiness) (old new : Replica)
    (result : Result Followed FollowFault) (right : IsRight old) (none : old.pending ≡ None) (keeps : Keeps before between)
    (held : HoldsReplica between ready_mid old) (opening : LeavesOldOrSame before between)
    (followed : HasFollowed input (payloads_of old) left (payloads_of new) result) (tells : between.tells ↔ after.tells)
    (right_new : IsRight new) (kept : after.tells → IsKept result (payloads_of old) (payloads_of new) after.list)
    (crash : LeavesLists (IsBetween (payloads_of old) (payloads_of new)) between after) where
  found : before.tells → before.list ≡ Ok (payloads_of old)
  found told =
      sym (keeps.list told)
      ∙ held_list between ready_mid (payloads_of old) (pending_of old.pending) old.end held (none_given old.pending none) (keeps.tells.0 told)

  grown : IsFrontOf (payloads_of old) (payloads_of new)
  grown = has_grown input (payloads_of old) followed.messages followed.rest (course_of (payloads_of new) followed.tally) followed.come

  abbrev IsLeft : Listing → Type 0
  IsLeft = IsOldOrBetween before (payloads_of old) (payloads_of new)

  whole : LeavesLists IsLeft before after
  whole = λ told crashes.
      let a = opening crashes in
      let b = crash (keeps.tells.0 told) a.tells in (
        b.0,
        then_runs IsLeft before between after
            (weaker (IsOldOrSame before) IsLeft before between
            (λ list either. ⊎_elim
            (λ may. inl may)
            (λ is. inr (record { payloads = payloads_of old; is = is ∙ found told; begins = front_self (payloads_of old); within = grown }))
            either)
            a)
            (weaker (IsBetween (payloads_of old) (payloads_of new)) IsLeft between after (λ list is. inr is) b.1),
      )

  legal_new : is_register (payloads_of new) ≡ true
  legal_new = ap (λ (r : Result (List Entry) Damage). is_ok r) right_new.opens

  pub follows_over : FollowsOver input left before after result
  follows_over = record {
    old = payloads_of old;
    new = payloads_of new;
    found = found;
    legal = ap (λ (r : Result (List Entry) Damage). is_ok r) right.opens;
    went = followed;
    tells = (λ told. tells.0 (keeps.tells.0 told), λ told. keeps.tells.1 (tells.1 told));
    kept = λ told. kept_first input (payloads_of old) followed.messages followed.rest (course_of (payloads_of new) followed.tally) result after.list
        followed.come legal_new (kept told);
    legal_still = legal_new;
    crash = whole;
  }

-- the same by cases, since a keeper that was opened is not refused
pub follows_all : (input left : Option (List ℕ)) (before after : Holding) (result : Result Followed FollowFault) → FollowsOver input left before after result
    → Follows input left before after result
follows_all input left before after (Ok done) over = over
follows_all input left before after (Err (follow.Open why)) over = absurd (over.went).stops
follows_all input left before after (Err (follow.Refused why)) over = over
follows_all input left before after (Err follow.ReadFault) over = over
follows_all input left before after (Err follow.KeeperFault) over = over
follows_all input left before after (Err follow.Memory) over = over

pub source_free : {S : Type 0} (before after : S) (input left : Option (List ℕ)) (old new : List (List ℕ)) (result : Result Followed FollowFault)
    → HasFollowed input old left new result → LeavesSource before after result
source_free before after input left old new (Ok done) followed = tt
source_free before after input left old new (Err (follow.Open why)) followed = absurd followed.stops
source_free before after input left old new (Err (follow.Refused why)) followed = tt
source_free before after input left old new (Err follow.ReadFault) followed = tt
source_free before after input left old new (Err follow.KeeperFault) followed = tt
source_free before after input left old new (Err follow.Memory) followed = tt

-- the keeper's count rose since it was opened, which left it as it was
pub keeper_caused : (h k : Holding) (before between after : ℕ) (input left : Option (List ℕ)) (old new : List (List ℕ))
    (result : Result Followed FollowFault) → HasFollowed input old left new result → between ≡ before → HasKeeperCause k between after result
    → HasKeeperCause h before after result
keeper_caused h k before between after input left old new result followed same cause =
    by result (λ why is. followed_open why (subst (HasFollowed input old left new) is followed))
    (subst (λ (n : ℕ). HasKeeperCause k n after result) same cause)
  where
    followed_open : (why : OpenFault) → HasFollowed input old left new (Err (follow.Open why)) → ⊥
    followed_open why f = f.stops

    by : (result : Result Followed FollowFault)
        → ((why : OpenFault) → result ≡ Err (follow.Open why) → ⊥)
        → HasKeeperCause k before after result → HasKeeperCause h before after result
    by (Ok done) never cause = cause
    by (Err (follow.Open why)) never cause = absurd (never why refl)
    by (Err (follow.Refused why)) never cause = cause
    by (Err follow.ReadFault) never cause = cause
    by (Err follow.KeeperFault) never cause = cause
    by (Err follow.Memory) never cause = cause

-- how many payloads a replica has
pub length_of : (replica : Replica) → length replica.register.entries ≡ length (payloads_of replica)
length_of replica = sym (length-map replica.register.entries spelling)
