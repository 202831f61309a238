-- Answer by answer, what a crash leaves is what stood before or stands behind it.
use Rattle.std.proofs.Common.{◌≡◌, ◌⊎◌, inl, inr, ⊎_elim, refl, sym, ap, subst, ◌∙◌, ℕ, ◌≤◌, Bool, List, [], ◌∷◌, ◌++◌, Option, Some, None, Result, Ok, Err, arith}
use Rattle.std.specs.Prelude.{IfSome, ⊤}
use Rattle.desk_base.specs.Crashes.{AreCrashes, Crashes, LeavesOnly}
use Rattle.law_register.specs.declared.answer.past_key.PastKey.{PastKey}
use Rattle.law_register.specs.declared.desk.command_fault.CommandFault.{CommandFault}
use Rattle.law_register.specs.declared.desk.command_fault.CommandFault.TheVariants as fails
use Rattle.law_register.specs.declared.register.entry.Entry.{Entry}
use Rattle.law_register.specs.declared.register.verdict.Reply.{Reply}
use Rattle.law_register.specs.Desk.Commands.{Ends, LeavesNoMore}
use Rattle.law_register.specs.Desk.States.{DeskState, Found, IsFoundOf, MayFollow, Standing, standing}
use Rattle.akn_json.specs.declared.asked.Asked.{Asked}
use Rattle.law_http.specs.Asking.{asking_of}
use Rattle.law_http.specs.declared.asking.Asking.{Asking}
use Rattle.law_http.specs.declared.asking.Asking.TheVariants as asks
use Rattle.law_http.specs.declared.refusal.RequestRefusal.{RequestRefusal}
use Rattle.law_http.specs.declared.response.Response.{Response}
use Rattle.law_http.specs.Serving.{Does, SaysOutcome, Serves, ServesAsking}
use Rattle.law_http.specs.Streaming.{AreServed, Exchange, fault_told}
use Rattle.lawdesk.specs.Outliving.{BeginWith, IsFaulted, IsKept, IsOneMore, OutliveAll, Outlives, SomeFaulted}
use Rattle.lawdesk.proofs.Stepping.{asking_begin, begin_same, begin_then, served_begins}

-- a run behind a run
pub then_runs : {A : Type 0} (P : A → Type 0) (o m n : Crashes A) → LeavesOnly P o m → LeavesOnly P m n → LeavesOnly P o n
then_runs P o m n first second = record {
  tells = second.tells;
  now = second.now;
  any_moment = λ moments.
      let a = first.any_moment moments in
      let b = second.any_moment a.tells in
      record {
        tells = b.tells;
        later = omega (arith, a.later, b.later);
        since = λ thing left. ⊎_elim (a.since thing) (λ p. p) (b.before o.moment thing a.later left);
        before = λ t thing le left. ⊎_elim (a.before t thing le) (λ p. inr p) (b.before t thing (omega (arith, le, a.later)) left);
      };
}

-- what has P has Q
pub weaker : {A : Type 0} (P Q : A → Type 0) (o n : Crashes A) → ((thing : A) → P thing → Q thing) → LeavesOnly P o n
    → LeavesOnly Q o n
weaker P Q o n leads run = record {
  tells = run.tells;
  now = λ thing left. leads thing (run.now thing left);
  any_moment = λ moments.
      let a = run.any_moment moments in
      record {
        tells = a.tells;
        later = a.later;
        since = λ thing left. leads thing (a.since thing left);
        before = λ t thing le left. ⊎_elim (λ old. inl old) (λ p. inr (leads thing p)) (a.before t thing le left);
      };
}

-- nothing is done
rests : {A : Type 0} (c : Crashes A) → AreCrashes c → c.tells → LeavesOnly c.may_leave c c
rests c are tells = record {
  tells = tells;
  now = λ thing may. may;
  any_moment = λ moments. record {
    tells = moments;
    later = omega arith;
    since = λ thing left. are.only_now moments thing left;
    before = λ t thing le left. inl left;
  };
}

module _ (all : List Exchange) where
  -- an entry that is pending is accepted behind these, and it was told that the keeper failed
  abbrev pub IsOwed : List Entry → Option Entry → Type 0
  IsOwed entries None = ⊤
  IsOwed entries (Some entry) = MayFollow entries entry × SomeFaulted all entry

  pub owed_none : (entries : List Entry) (pending : Option Entry) → pending ≡ None → IsOwed entries pending
  owed_none entries pending none = subst (IsOwed entries) (sym none) tt

  owed_same : (old new : Standing) → new.entries ≡ old.entries → new.pending ≡ old.pending
      → IsOwed old.entries old.pending → IsOwed new.entries new.pending
  owed_same old new entries pending owed =
      subst (λ (es : List Entry). IsOwed es new.pending) (sym entries)
      (subst (IsOwed old.entries) (sym pending) owed)

  owed_some : (entries : List Entry) (pending : Option Entry) (entry : Entry) → pending ≡ Some entry
      → IfSome pending (MayFollow entries) → SomeFaulted all entry → IsOwed entries pending
  owed_some entries None entry is follows faulted = absurd (cc is)
  owed_some entries (Some other) entry is follows faulted =
      let same : other ≡ entry = cc is in
      (follows, subst (SomeFaulted all) (sym same) faulted)

  -- after a command
  owed_after : (asked : Asked) (closes : Bool) (old new : Standing) (result : Result Reply CommandFault)
      (response : Response) → Ends asked.drafter asked.request asked.command old new result
      → SaysOutcome closes result response → IsOwed old.entries old.pending
      → IfSome new.pending (MayFollow new.entries)
      → ((entry : Entry) → entry.drafter ≡ asked.drafter → entry.request ≡ asked.request
      → entry.command ≡ asked.command → fault_told response ≡ 1 → SomeFaulted all entry)
      → IsOwed new.entries new.pending
  owed_after asked closes old new (Ok reply) response ends says owed sound faulted =
      owed_none new.entries new.pending ends.pending
  owed_after asked closes old new (Err (fails.Rule rule)) response ends says owed sound faulted =
      owed_none new.entries new.pending ends.pending
  owed_after asked closes old new (Err fails.KeeperFault) response (inl waits) says owed sound faulted =
      owed_same old new (waits.0).entries (waits.0).pending owed
  owed_after asked closes old new (Err fails.KeeperFault) response (inr is) says owed sound faulted =
      owed_some new.entries new.pending _ is.pending sound (faulted _ refl refl refl (ap fault_told says))
  owed_after asked closes old new (Err fails.Memory) response (inl waits) says owed sound faulted =
      owed_same old new waits.entries waits.pending owed
  owed_after asked closes old new (Err fails.Memory) response (inr idle) says owed sound faulted =
      owed_none new.entries new.pending idle.pending

  -- what is found of entries that stand between the first and the last
  found_kept : (first final entries : List Entry) (pending : Option Entry) (found : Found) → BeginWith entries first
      → BeginWith final entries → IsOwed entries pending → IsFoundOf entries pending found
      → IsKept first final all found
  found_kept first final entries None found begin end owed is =
      record { entries = entries; is = is; holds = begin; among = inl end }
  found_kept first final entries (Some entry) found begin end owed (inl is) =
      record { entries = entries; is = is; holds = begin; among = inl end }
  found_kept first final entries (Some entry) found begin end owed (inr is) = record {
    entries = entries ++ entry ∷ [];
    is = is;
    holds = begin_then first entries (entries ++ entry ∷ []) begin (entry ∷ [], refl);
    among = inr (record {
      front = entries;
      entry = entry;
      are = refl;
      begin = end;
      follows = owed.0;
      faulted = owed.1;
    });
  }

  later_kept : (first more final : List Entry) (found : Found) → BeginWith more first → IsKept more final all found
      → IsKept first final all found
  later_kept first more final found begin kept = record {
    entries = kept.entries;
    is = kept.is;
    holds = begin_then first more kept.entries begin kept.holds;
    among = kept.among;
  }

  module _ {D : Type 0} (state : D → DeskState) (crashes : D → Crashes Found) (past : D → List PastKey)
      (are : (desk : D) → AreCrashes (crashes desk)) where
    -- a desk of which it is told what a crash leaves: its entries, with the one that is pending or without it
    pub record Stands (desk : D) : Type 0 where
      pub tells : (crashes desk).tells
      pub durable : (found : Found) → (crashes desk).may_leave found
          → IsFoundOf (state desk).entries (state desk).pending found
      pub owed : IsOwed (state desk).entries (state desk).pending

    abbrev IsEither : D → D → Found → Type 0
    IsEither old new found = IsFoundOf (state old).entries (state old).pending found
        ⊎ IsFoundOf (state new).entries (state new).pending found

    record StandsOn (old new : D) : Type 0 where
      stands : Stands new
      leaves : LeavesOnly (IsEither old new) (crashes old) (crashes new)

    same_on : (old new : D) → state new ≡ state old → LeavesNoMore (crashes old) (crashes new) → Stands old → StandsOn old new
    same_on old new same crash stands =
        let run : LeavesOnly (crashes old).may_leave (crashes old) (crashes new) = crash stands.tells in
        record {
          stands = record {
            tells = run.tells;
            durable = λ found may. subst (λ (s : DeskState). IsFoundOf s.entries s.pending found) (sym same)
                (stands.durable found (run.now found may));
            owed = subst (λ (s : DeskState). IsOwed s.entries s.pending) (sym same) stands.owed;
          };
          leaves = weaker (crashes old).may_leave (IsEither old new) (crashes old) (crashes new)
              (λ found may. inl (stands.durable found may)) run;
        }

    asking_on : (e : Exchange) (asking : Result Asking RequestRefusal) (old new : D) → asking_of e.request ≡ asking
        → ((entry : Entry) → IsFaulted e entry → SomeFaulted all entry)
        → ServesAsking state crashes past e.request.closes asking old new e.response → Stands old → StandsOn old new
    asking_on e (Err refusal) old new is faulted serves stands = same_on old new (serves.0).same (serves.0).crash stands
    asking_on e (Ok asks.Front) old new is faulted serves stands = same_on old new (serves.0).same (serves.0).crash stands
    asking_on e (Ok (asks.Text text)) old new is faulted serves stands = same_on old new (serves.0).same (serves.0).crash stands
    asking_on e (Ok (asks.Preview preview)) old new is faulted serves stands = same_on old new (serves.0).same (serves.0).crash stands
    asking_on e (Ok (asks.Draft drafter)) old new is faulted serves stands = same_on old new (serves.0).same (serves.0).crash stands
    asking_on e (Ok (asks.Command asked)) old new is faulted (inl nothing) stands = same_on old new (nothing.0).same (nothing.0).crash stands
    asking_on e (Ok (asks.Command asked)) old new is faulted (inr done) stands =
        let does : Does state crashes past asked old new done.0 = done.1 in
        let run : LeavesOnly (IsEither old new) (crashes old) (crashes new) = does.crash stands.tells in
        record {
          stands = record {
            tells = run.tells;
            durable = does.durable run.tells;
            owed = owed_after asked e.request.closes (standing (state old)) (standing (state new)) done.0 e.response
                does.outcome done.2 stands.owed (does.sound).pending
                (λ entry drafter request command told. faulted entry (record {
                  asked = asked;
                  asks_for = is;
                  drafter = drafter;
                  request = request;
                  command = command;
                  told = told;
                }));
          };
          leaves = run;
        }

    serves_on : (e : Exchange) (old new : D) → ((entry : Entry) → IsFaulted e entry → SomeFaulted all entry)
        → Serves state crashes past e.request old new e.response → Stands old → StandsOn old new
    serves_on e old new faulted serves stands = asking_on e (asking_of e.request) old new refl faulted serves stands

    outlives : (exchanges : List Exchange) (old new : D) → AreServed state crashes past exchanges old new
        → ((entry : Entry) → SomeFaulted exchanges entry → SomeFaulted all entry) → Stands old
        → Outlives state crashes all old new
    outlives [] old new same among stands =
        subst (λ (d : D). Outlives state crashes all old d) (sym same)
        (weaker (crashes old).may_leave (IsKept (state old).entries (state old).entries all) (crashes old) (crashes old)
        (λ found may. found_kept (state old).entries (state old).entries (state old).entries (state old).pending found
        (begin_same (state old).entries (state old).entries refl)
        (begin_same (state old).entries (state old).entries refl) stands.owed (stands.durable found may))
        (rests (crashes old) (are old) stands.tells))
    outlives (e ∷ es) old new served among stands =
        let mid : D = served.0 in
        let on : StandsOn old mid = serves_on e old mid (λ entry f. among entry (inl f)) served.1 stands in
        let more : Outlives state crashes all mid new =
        outlives es mid new served.2 (λ entry f. among entry (inr f)) on.stands in
        let first : BeginWith (state mid).entries (state old).entries =
        asking_begin state crashes past e.request.closes (asking_of e.request) old mid e.response served.1 in
        let last : BeginWith (state new).entries (state mid).entries = served_begins state crashes past es mid new served.2 in
        let P : Found → Type 0 = IsKept (state old).entries (state new).entries all in
        then_runs P (crashes old) (crashes mid) (crashes new)
        (weaker (IsEither old mid) P (crashes old) (crashes mid)
        (λ found either. ⊎_elim
        (λ is. found_kept (state old).entries (state new).entries (state old).entries (state old).pending found
        (begin_same (state old).entries (state old).entries refl)
        (begin_then (state old).entries (state mid).entries (state new).entries first last) stands.owed is)
        (λ is. found_kept (state old).entries (state new).entries (state mid).entries (state mid).pending found
        first last (on.stands).owed is)
        either)
        on.leaves)
        (weaker (IsKept (state mid).entries (state new).entries all) P (crashes mid) (crashes new)
        (λ found kept. later_kept (state old).entries (state mid).entries (state new).entries found first kept) more)

    -- from the beginning, and from each response on
    pub outlive_all : (exchanges : List Exchange) (old new : D) (served : AreServed state crashes past exchanges old new)
        → ((entry : Entry) → SomeFaulted exchanges entry → SomeFaulted all entry) → Stands old
        → OutliveAll state crashes past all exchanges old new served
    outlive_all [] old new served among stands = outlives [] old new served among stands
    outlive_all (e ∷ es) old new served among stands =
        let on : StandsOn old served.0 = serves_on e old served.0 (λ entry f. among entry (inl f)) served.1 stands in (
          outlives (e ∷ es) old new served among stands,
          outlive_all es served.0 new served.2 (λ entry f. among entry (inr f)) on.stands,
        )
