-- What is written of messages so far, and how the writing of one more goes on.
use Rattle.std.proofs.Common.{◌≡◌, ◌∙◌, sym, ap, subst, refl, ℕ, ◌+◌, ◌≤◌, ◌<◌, List, [], ◌∷◌, ◌++◌, length, get_or, Option, Some, None, Result, Ok, Err, append_assoc}
use Rattle.std.specs.Prelude.{is_ok}
use Rattle.std.proofs.lemmas.List.{append-nil, drop_all, drop_more}
use Rattle.desk_base.specs.Streams.{Appended, AppendsFront}
use Rattle.law_keeper.specs.Keepers.{Holding, Keeps}
use Rattle.law_keeper.specs.declared.readiness.Readiness.{Readiness}
use Rattle.law_register.specs.declared.desk.damage.Damage.{Damage}
use Rattle.law_register.specs.declared.register.entry.Entry.{Entry}
use Rattle.law_follow.specs.Exporting.{ArePut, Exports, HasKeeperCause, HasSinkCause, IsPut, LeavesSink, Puts, Writes, exported}
use Rattle.law_follow.specs.Frames.{Message, frame}
use Rattle.law_follow.specs.Messages.{frames, messages_above, numbered}
use Rattle.law_follow.specs.Replicas.{HoldsReplica, IsRight, payloads_of, pending_of}
use Rattle.law_follow.specs.Writing as writing
use Rattle.law_follow.specs.Writing.{HasPutCause}
use Rattle.law_follow.specs.declared.put_fault.PutFault.{PutFault}
use Rattle.law_follow.specs.declared.put_fault.PutFault.TheVariants as put
use Rattle.law_follow.specs.declared.replica.Replica.{Replica}
use Rattle.law_follow.proofs.Ending.{held_list}
use Rattle.law_follow.proofs.Handed.{none_given}

frames_append : (xs ys : List Message) → frames (xs ++ ys) ≡ frames xs ++ frames ys
frames_append [] ys = refl
frames_append (x ∷ xs) ys = ap (λ (l : List ℕ). frame x ++ l) (frames_append xs ys) ∙ sym (append_assoc (frame x) (frames xs) (frames ys))

-- nothing is written yet
pub none_put : (before : Option (List ℕ)) (messages : List Message) → ArePut before before messages messages
none_put before messages = record { first = []; all = refl; written = by before }
  where
    by : (before : Option (List ℕ)) → IsPut before before []
    by None = tt
    by (Some bytes) = ap Some (sym (append-nil bytes))

-- all are written
pub all_put : (before now : Option (List ℕ)) (messages others : List Message) → ArePut before now messages others → others ≡ []
    → IsPut before now (frames messages)
all_put before now messages others are none =
    subst (λ (ms : List Message). IsPut before now (frames ms))
    (sym (append-nil are.first) ∙ ap (λ (ms : List Message). are.first ++ ms) (sym none) ∙ are.all) are.written

-- one more is written
pub put_more : (before mid now : Option (List ℕ)) (messages rest : List Message) (m : Message) → ArePut before mid messages (m ∷ rest)
    → Appended {E = PutFault} mid now (frame m) (Ok tt) → ArePut before now messages rest
put_more before mid now messages rest m are more = record {
  first = are.first ++ m ∷ [];
  all = append_assoc are.first (m ∷ []) rest ∙ are.all;
  written = by before are.written;
}
  where
    by : (before : Option (List ℕ)) → IsPut before mid (frames are.first) → IsPut before now (frames (are.first ++ m ∷ []))
    by None is = tt
    by (Some bytes) is =
        subst (λ (b : Option (List ℕ)). Appended {E = PutFault} b now (frame m) (Ok tt)) is more
        ∙ ap Some (append_assoc bytes (frames are.first) (frame m)
        ∙ ap (λ (l : List ℕ). bytes ++ l) (sym (frames_append are.first (m ∷ []) ∙ ap (λ (l : List ℕ). frames are.first ++ l) (append-nil (frame m)))))

-- one more is not written
pub put_failed : {W : Type 0} (before : Option (List ℕ)) (written : W → Option (List ℕ)) (mid now : W) (messages rest : List Message) (m : Message) (why : PutFault)
    → ArePut before (written mid) messages (m ∷ rest) → Appended (written mid) (written now) (frame m) (Err why) → writing.LeavesSink mid now (Err why)
    → Puts before (written now) messages (Err why)
put_failed before written mid now messages rest m put.Memory are more same =
    (m ∷ rest, subst (λ (w : Option (List ℕ)). ArePut before w messages (m ∷ rest)) (ap written (sym same)) are)
put_failed before written mid now messages rest m put.WriteFault are more same = by before are.written
  where
    whole : (frames are.first ++ (frame m ++ frames rest)) ≡ frames messages
    whole = sym (frames_append are.first (m ∷ rest)) ∙ ap frames are.all

    part : (bytes : List ℕ) → AppendsFront (Some (bytes ++ frames are.first)) (written now) (frame m) → AppendsFront (Some bytes) (written now) (frames messages)
    part bytes front = (
      frames are.first ++ front.0,
      (
        front.1.0 ++ frames rest,
        (
          front.1.1.0 ∙ ap Some (append_assoc bytes (frames are.first) front.0),
          append_assoc (frames are.first) front.0 (front.1.0 ++ frames rest)
              ∙ ap (λ (l : List ℕ). frames are.first ++ l)
              (sym (append_assoc front.0 front.1.0 (frames rest)) ∙ ap (λ (l : List ℕ). l ++ frames rest) front.1.1.1)
              ∙ whole,
        ),
      ),
    )

    by : (before : Option (List ℕ)) → IsPut before (written mid) (frames are.first) → AppendsFront before (written now) (frames messages)
    by None is = tt
    by (Some bytes) is =
        part bytes (subst (λ (b : Option (List ℕ)). Appended {E = PutFault} b (written now) (frame m) (Err put.WriteFault)) is more)

-- the message of the payload at a place comes first of those that are left
pub next_above : (payloads : List (List ℕ)) (i : ℕ) → i < length payloads
    → messages_above i payloads ≡ record { number = i + 1; payload = get_or payloads i [] } ∷ messages_above (i + 1) payloads
next_above payloads i low = ap (numbered (i + 1)) (drop_more payloads i [] low)

pub none_above : (payloads : List (List ℕ)) (i : ℕ) → length payloads ≤ i → messages_above i payloads ≡ []
none_above payloads i over = ap (numbered (i + 1)) (drop_all i payloads over)

-- a keeper was opened, and the payloads of its register were written
module _ (from : ℕ) (before between : Holding) (readiness : Readiness) (replica : Replica) (was now : Option (List ℕ)) (right : IsRight replica)
    (none : replica.pending ≡ None) (keeps : Keeps before between) (held : HoldsReplica between readiness replica) where
  writes : (put : Result Unit PutFault) → Puts was now (messages_above from (payloads_of replica)) put → Writes from before was now put
  writes put written = record {
    payloads = payloads_of replica;
    found = λ told.
        sym (keeps.list told)
        ∙ held_list between readiness (payloads_of replica) (pending_of replica.pending) replica.end held (none_given replica.pending none) (keeps.tells.0 told);
    legal = ap (λ (r : Result (List Entry) Damage). is_ok r) right.opens;
    written = written;
  }

  pub exports_all : (put : Result Unit PutFault) → Puts was now (messages_above from (payloads_of replica)) put → Exports from before was now (exported put)
  exports_all (Ok done) written = writes (Ok done) written
  exports_all (Err put.WriteFault) written = writes (Err put.WriteFault) written
  exports_all (Err put.Memory) written = writes (Err put.Memory) written

pub sink_free : {W : Type 0} (before after : W) (made : Result Unit PutFault) → LeavesSink before after (exported made)
sink_free before after (Ok done) = tt
sink_free before after (Err put.WriteFault) = tt
sink_free before after (Err put.Memory) = tt

pub sink_caused : (before after : ℕ) (made : Result Unit PutFault) → HasPutCause before after made → HasSinkCause before after (exported made)
sink_caused before after (Ok done) cause = cause
sink_caused before after (Err put.WriteFault) cause = cause
sink_caused before after (Err put.Memory) cause = cause

pub keeper_free : (h : Holding) (before after : ℕ) (made : Result Unit PutFault) → after ≡ before → HasKeeperCause h before after (exported made)
keeper_free h before after (Ok done) same = same
keeper_free h before after (Err put.WriteFault) same = same
keeper_free h before after (Err put.Memory) same = same
