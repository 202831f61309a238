-- What each answer leaves of a desk: its entries begin with those before, it has what it was lent, and where the
-- response does not say that the keeper failed, its count of faults is as it was.
use Rattle.std.proofs.Common.{◌≡◌, refl, sym, ap, ◌∙◌, inl, inr, ℕ, ◌+◌, Bool, List, [], ◌∷◌, ◌++◌, append_assoc, Option, Some, None, Result, Ok, Err, arith}
use Rattle.std.proofs.lemmas.List.{append-nil}
use Rattle.desk_base.specs.Crashes.{Crashes}
use Rattle.law_register.specs.declared.answer.past_key.PastKey.{PastKey}
use Rattle.law_register.specs.declared.desk.command_fault.CommandFault.{CommandFault}
use Rattle.law_register.specs.declared.desk.command_fault.CommandFault.TheVariants as fails
use Rattle.law_register.specs.declared.law.command.Command.{Command}
use Rattle.law_register.specs.declared.register.entry.Entry.{Entry}
use Rattle.law_register.specs.declared.register.rules.Rule.{Rule}
use Rattle.law_register.specs.declared.register.verdict.Reply.{Reply}
use Rattle.law_register.specs.declared.register.verdict.Verdict.{Verdict}
use Rattle.law_register.specs.declared.register.verdict.Verdict.TheVariants.{Accepted, Repeat, Refused}
use Rattle.law_register.specs.Desk.Commands.{AreSettled, Ends, HasCommandCause}
use Rattle.law_register.specs.Desk.States.{DeskState, Found, Standing}
use Rattle.law_register.specs.Register.Entering.{entered, entered_by, entry_of}
use Rattle.law_register.specs.Register.Verdicts.{verdict}
use Rattle.akn_json.specs.declared.asked.Asked.{Asked}
use Rattle.law_http.specs.Asking.{asking_of}
use Rattle.law_http.specs.declared.asking.Asking.{Asking}
use Rattle.law_http.specs.declared.asking.Asking.TheVariants as asks
use Rattle.law_http.specs.Serving.{Does, SaysOutcome, Serves, ServesAsking}
use Rattle.law_http.specs.Streaming.{AreServed, Exchange, fault_told, faults_told}
use Rattle.law_http.specs.declared.refusal.RequestRefusal.{RequestRefusal}
use Rattle.law_http.specs.declared.response.Response.{Response}
use Rattle.lawdesk.specs.Outliving.{BeginWith}

pub begin_same : (xs ys : List Entry) → ys ≡ xs → BeginWith ys xs
begin_same xs ys same = ([], same ∙ sym (append-nil xs))

pub begin_then : (xs ys zs : List Entry) → BeginWith ys xs → BeginWith zs ys → BeginWith zs xs
begin_then xs ys zs first second =
    (first.0 ++ second.0, second.1 ∙ ap (λ (all : List Entry). all ++ second.0) first.1 ∙ append_assoc xs first.0 second.0)

begin_settled : (entries : List Entry) (pending : Option Entry) (settled : List Entry) → AreSettled entries pending settled
    → BeginWith settled entries
begin_settled entries None settled same = begin_same entries settled same
begin_settled entries (Some entry) settled (inl same) = begin_same entries settled same
begin_settled entries (Some entry) settled (inr more) = (entry ∷ [], more)

-- the entries that are told, or these
entries_in : List Entry → Result (List Entry × Reply) Rule → List Entry
entries_in entries (Ok made) = made.0
entries_in entries (Err rule) = entries

begin_by : (entries : List Entry) (drafter : List ℕ) (request day : ℕ) (command : Command) (said : Verdict)
    (more : List Entry) (reply : Reply) → entered_by entries drafter request day command said ≡ Ok (more, reply)
    → BeginWith more entries
unfolding entries_in
begin_by entries drafter request day command (Accepted law other) more reply told =
    (entry_of drafter request day law command ∷ [], sym (ap (entries_in entries) told))
begin_by entries drafter request day command (Repeat other) more reply told =
    begin_same entries more (sym (ap (entries_in entries) told))
begin_by entries drafter request day command (Refused rule) more reply told = absurd (cc told)

begin_entered : (entries : List Entry) (drafter : List ℕ) (request day : ℕ) (command : Command) (more : List Entry)
    (reply : Reply) → entered entries drafter request day command ≡ Ok (more, reply) → BeginWith more entries
unfolding entered
begin_entered entries drafter request day command more reply told =
    begin_by entries drafter request day command (verdict entries drafter request command) more reply told

-- a command ends
pub begin_ends : (drafter : List ℕ) (request : ℕ) (command : Command) (old new : Standing)
    (result : Result Reply CommandFault) → Ends drafter request command old new result
    → BeginWith new.entries old.entries
begin_ends drafter request command old new (Ok reply) done =
    begin_then old.entries done.settled new.entries
    (begin_settled old.entries old.pending done.settled done.begins.settles)
    (begin_entered done.settled drafter request done.day command new.entries reply done.entered)
begin_ends drafter request command old new (Err (fails.Rule rule)) done =
    begin_settled old.entries old.pending new.entries done.begins.settles
begin_ends drafter request command old new (Err fails.KeeperFault) (inl waits) =
    begin_same old.entries new.entries (waits.0).entries
begin_ends drafter request command old new (Err fails.KeeperFault) (inr done) =
    begin_settled old.entries old.pending new.entries done.begins.settles
begin_ends drafter request command old new (Err fails.Memory) (inl waits) =
    begin_same old.entries new.entries waits.entries
begin_ends drafter request command old new (Err fails.Memory) (inr done) =
    begin_settled old.entries old.pending new.entries done.begins.settles

-- the count of faults is as it was where no response says that the keeper failed
no_fault : (closes : Bool) (result : Result Reply CommandFault) (response : Response) (before now : ℕ)
    → SaysOutcome closes result response → HasCommandCause before now result → fault_told response ≡ 0 → now ≡ before
no_fault closes (Ok reply) response before now says cause none = cause
no_fault closes (Err (fails.Rule rule)) response before now says cause none = cause
no_fault closes (Err fails.KeeperFault) response before now says cause none =
    let one : fault_told response ≡ 1 = ap fault_told says in absurd (omega arith)
no_fault closes (Err fails.Memory) response before now says cause none = cause

module _ {D : Type 0} (state : D → DeskState) (crashes : D → Crashes Found) (past : D → List PastKey) where
  -- what comes of a desk in one answer
  record IsStep (old new : D) (response : Response) : Type 0 where
    begin : BeginWith (state new).entries (state old).entries
    origin : (state new).origin ≡ (state old).origin
    no_fault_told : fault_told response ≡ 0 → (state new).faults ≡ (state old).faults

  same_step : (old new : D) (response : Response) → state new ≡ state old → IsStep old new response
  same_step old new response same = record {
    begin = begin_same (state old).entries (state new).entries (ap (λ (s : DeskState). s.entries) same);
    origin = ap (λ (s : DeskState). s.origin) same;
    no_fault_told = λ none. ap (λ (s : DeskState). s.faults) same;
  }

  asking_step : (closes : Bool) (asking : Result Asking RequestRefusal) (old new : D) (response : Response)
      → ServesAsking state crashes past closes asking old new response → IsStep old new response
  asking_step closes (Err refusal) old new response serves = same_step old new response (serves.0).same
  asking_step closes (Ok asks.Front) old new response serves = same_step old new response (serves.0).same
  asking_step closes (Ok (asks.Text text)) old new response serves = same_step old new response (serves.0).same
  asking_step closes (Ok (asks.Preview preview)) old new response serves = same_step old new response (serves.0).same
  asking_step closes (Ok (asks.Draft drafter)) old new response serves = same_step old new response (serves.0).same
  asking_step closes (Ok (asks.Command asked)) old new response (inl nothing) = same_step old new response (nothing.0).same
  asking_step closes (Ok (asks.Command asked)) old new response (inr done) =
      let does : Does state crashes past asked old new done.0 = done.1 in
      record {
        begin = begin_ends asked.drafter asked.request asked.command _ _ done.0 does.outcome;
        origin = does.origin;
        no_fault_told = λ none. no_fault closes done.0 response _ _ done.2 does.cause none;
      }

  pub asking_begin : (closes : Bool) (asking : Result Asking RequestRefusal) (old new : D) (response : Response)
      → ServesAsking state crashes past closes asking old new response → BeginWith (state new).entries (state old).entries
  asking_begin closes asking old new response serves = (asking_step closes asking old new response serves).begin

  -- and in all of them
  pub served_begins : (exchanges : List Exchange) (old new : D) → AreServed state crashes past exchanges old new
      → BeginWith (state new).entries (state old).entries
  served_begins [] old new same =
      begin_same (state old).entries (state new).entries (ap (λ (d : D). (state d).entries) same)
  served_begins (e ∷ es) old new served =
      begin_then (state old).entries (state served.0).entries (state new).entries
      (asking_step e.request.closes (asking_of e.request) old served.0 e.response served.1).begin
      (served_begins es served.0 new served.2)

  pub served_origin : (exchanges : List Exchange) (old new : D) → AreServed state crashes past exchanges old new
      → (state new).origin ≡ (state old).origin
  served_origin [] old new same = ap (λ (d : D). (state d).origin) same
  served_origin (e ∷ es) old new served =
      served_origin es served.0 new served.2
      ∙ (asking_step e.request.closes (asking_of e.request) old served.0 e.response served.1).origin

  pub served_faults : (exchanges : List Exchange) (old new : D) → AreServed state crashes past exchanges old new
      → faults_told exchanges ≡ 0 → (state new).faults ≡ (state old).faults
  served_faults [] old new same none = ap (λ (d : D). (state d).faults) same
  served_faults (e ∷ es) old new served none =
      served_faults es served.0 new served.2 (omega arith)
      ∙ (asking_step e.request.closes (asking_of e.request) old served.0 e.response served.1).no_fault_told (omega arith)
