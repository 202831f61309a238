-- What one turn makes of a desk's history.
use Rattle.std.proofs.Common.{◌≡◌, ◌∙◌, sym, ap, subst, refl, ℕ, ◌+◌, ◌*◌, ◌≤◌, ◌≢◌, true, false, Bool, inl, inr, List, [], ◌∷◌, ◌++◌, length, take, drop, Option, None, Some, Result, Ok, Err, append_assoc, append-nil, length-append, arith}
use Rattle.std.specs.Prelude.{IsSome}
use Rattle.std.proofs.lemmas.List.{take_all}
use Rattle.std.proofs.Math.Seq.{drop-append_seam, take-append_seam}
use mathlib.Core.List.{IsPrefix}
use Rattle.desk_base.specs.Crashes.{Crashes}
use Rattle.akn_json.specs.declared.asked.Asked.{Asked}
use Rattle.law_register.specs.Desk.Commands.{AreSettled, Ends, mark_of, marks_after}
use Rattle.law_register.specs.Desk.History.{entries_of, events_from, history_of}
use Rattle.law_register.specs.Desk.States.{DeskState, Found, IsSound, Standing, standing}
use Rattle.law_register.specs.Register.Entering.{entered, entered_by, entry_of}
use Rattle.law_register.specs.Register.Verdicts.{is_legal, verdict}
use Rattle.law_register.specs.declared.answer.past_key.PastKey.{PastKey}
use Rattle.law_register.specs.declared.desk.command_fault.CommandFault.{CommandFault}
use Rattle.law_register.specs.declared.desk.command_fault.CommandFault.TheVariants as fails
use Rattle.law_register.specs.declared.desk.event.Event.{Event}
use Rattle.law_register.specs.declared.desk.event.Event.TheVariants.{Faulted}
use Rattle.law_register.specs.declared.desk.fault_mark.FaultMark.{FaultMark}
use Rattle.law_register.specs.declared.law.command.Command.{Command}
use Rattle.law_register.specs.declared.register.entry.Entry.{Entry}
use Rattle.law_register.specs.declared.register.rules.Rule.{Rule}
use Rattle.law_register.specs.declared.register.verdict.Reply.{Reply as Outcome}
use Rattle.law_register.specs.declared.register.verdict.Verdict.{Verdict}
use Rattle.law_register.specs.declared.register.verdict.Verdict.TheVariants.{Accepted, Repeat, Refused}
use Rattle.law_http.specs.Asking.{asking_of}
use Rattle.law_http.specs.Connections.{AnswersSeen, AreMarked, Fits, FitsWhereMade, IsAnswered, IsMadeOf, IsTurnOf, commands_in, faulted_in}
use Rattle.law_http.specs.Faultless.{entered_reply, reply_on}
use Rattle.law_http.specs.Lasting.{BeginWith, HoldsAsked, is_created}
use Rattle.law_http.specs.Refusals.{request_reply}
use Rattle.law_http.specs.Responses.{Reply, Says, reply_bytes, response_bytes}
use Rattle.law_http.specs.Serving.{Does, SaysOutcome, Serves, ServesAsking, ServesCommand, rule_reply}
use Rattle.law_http.specs.Streaming.{AreServed, Exchange, fault_told}
use Rattle.law_http.specs.Telling.{SaysTold, Tells}
use Rattle.law_http.specs.declared.asking.Asking.{Asking}
use Rattle.law_http.specs.declared.asking.Asking.TheVariants as asks
use Rattle.law_http.specs.declared.heard.Request.{Request}
use Rattle.law_http.specs.declared.refusal.RequestRefusal.{RequestRefusal}
use Rattle.law_http.specs.declared.response.Response.{Response}
use Rattle.law_http.specs.declared.response.Response.TheVariants.{Made, MemoryFault, KeeperFault}
use Rattle.law_http.specs.declared.telling.DeskTold.{DeskTold}
use Rattle.law_http.proofs.Answered.{asking_holds, request_other, says_other}
use Rattle.law_http.proofs.Faultless.{said_whole}
use Rattle.law_http.proofs.Growing.{asking_step, entered_begin, settled_begin}
use Rattle.law_http.proofs.Rising.{asking_origin, origin_stays}
use Rattle.law_http.proofs.ToldWithin.{some_response, told_serves}
use Rattle.law_http.proofs.Histories.{entries_begin, entries_from, mark_more, more_entries, none_before, prefix_length, prefix_on, prefix_self, sized, unmarked}

-- what a command adds

settled_most : (entries : List Entry) (pending : Option Entry) (settled : List Entry) → AreSettled entries pending settled → length settled ≤ length entries + 1
settled_most entries None settled is = omega (arith, ap length is)
settled_most entries (Some e) settled (inl is) = omega (arith, ap length is)
settled_most entries (Some e) settled (inr is) = omega (arith, ap length is, length-append entries (e ∷ []))

settled_same : (entries : List Entry) (pending : Option Entry) (settled : List Entry) → AreSettled entries pending settled → pending ≡ None → length settled ≤ length entries
settled_same entries None settled is none = omega (arith, ap length is)
settled_same entries (Some e) settled is none = absurd (let no : Some e ≡ None = none in cc)

abbrev entries_in : Result (List Entry × Outcome) Rule → List Entry
entries_in (Ok p) = p.0
entries_in (Err rule) = []

verdict_most : (es : List Entry) (d : List ℕ) (r day : ℕ) (c : Command) (v : Verdict) (now : List Entry) (reply : Outcome)
    → entered_by es d r day c v ≡ Ok (now, reply) → length now ≤ length es + 1
verdict_most es d r day c (Accepted law first) now reply h =
    omega (arith, ap length (ap entries_in h), length-append es (entry_of d r day law c ∷ []))
verdict_most es d r day c (Repeat first) now reply h = omega (arith, ap length (ap entries_in h))
verdict_most es d r day c (Refused rule) now reply h = absurd (cc)

entered_most : (es : List Entry) (d : List ℕ) (r day : ℕ) (c : Command) (now : List Entry) (reply : Outcome) → entered es d r day c ≡ Ok (now, reply) → length now ≤ length es + 1
unfolding entered
entered_most es d r day c now reply h = verdict_most es d r day c (verdict es d r c) now reply h

-- 1 for a fault of the keeper
abbrev told : Result Outcome CommandFault → ℕ
told (Ok outcome) = 0
told (Err (fails.Rule rule)) = 0
told (Err fails.KeeperFault) = 1
told (Err fails.Memory) = 0

ends_most : (d : List ℕ) (r : ℕ) (c : Command) (old new : Standing) (result : Result Outcome CommandFault) → Ends d r c old new result
    → length new.entries + told result ≤ length old.entries + 2
ends_most d r c old new (Ok reply) is =
    omega (arith, settled_most old.entries old.pending is.settled is.begins.settles, entered_most is.settled d r is.day c new.entries reply is.entered)
ends_most d r c old new (Err (fails.Rule rule)) is = omega (arith, settled_most old.entries old.pending new.entries is.begins.settles)
ends_most d r c old new (Err fails.KeeperFault) (inl (waits, some)) = omega (arith, ap length waits.entries)
ends_most d r c old new (Err fails.KeeperFault) (inr is) = omega (arith, settled_most old.entries old.pending new.entries is.begins.settles)
ends_most d r c old new (Err fails.Memory) (inl waits) = omega (arith, ap length waits.entries)
ends_most d r c old new (Err fails.Memory) (inr is) = omega (arith, settled_most old.entries old.pending new.entries is.begins.settles)

ends_fewer : (d : List ℕ) (r : ℕ) (c : Command) (old new : Standing) (result : Result Outcome CommandFault) → Ends d r c old new result → old.pending ≡ None
    → length new.entries + told result ≤ length old.entries + 1
ends_fewer d r c old new (Ok reply) is none =
    omega (arith, settled_same old.entries old.pending is.settled is.begins.settles none, entered_most is.settled d r is.day c new.entries reply is.entered)
ends_fewer d r c old new (Err (fails.Rule rule)) is none = omega (arith, settled_same old.entries old.pending new.entries is.begins.settles none)
ends_fewer d r c old new (Err fails.KeeperFault) (inl (waits, some)) none = omega (arith, ap length waits.entries)
ends_fewer d r c old new (Err fails.KeeperFault) (inr is) none = omega (arith, settled_same old.entries old.pending new.entries is.begins.settles none)
ends_fewer d r c old new (Err fails.Memory) (inl waits) none = omega (arith, ap length waits.entries)
ends_fewer d r c old new (Err fails.Memory) (inr is) none = omega (arith, settled_same old.entries old.pending new.entries is.begins.settles none)

-- what is said

-- a response is said on the first k of these entries
record IsSaidAmong (closes : Bool) (asking : Result Asking RequestRefusal) (response : Response) (old new : List Entry) : Type 0 where
  pub k : ℕ
  pub day : ℕ
  pub not_older : length old ≤ k
  pub not_newer : k ≤ length new
  pub said : response_bytes response ≡ reply_bytes (reply_on (take k new) day closes asking)

whole : (es : List Entry) → take (length es) es ≡ es
whole es = take_all (length es) es (omega arith)

module _ {D : Type 0} (state : D → DeskState) (crashes : D → Crashes Found) (past : D → List PastKey) where
  outcome_said : (closes : Bool) (asked : Asked) (old new : D) (result : Result Outcome CommandFault) (response : Response)
      → Ends asked.drafter asked.request asked.command (standing (state old)) (standing (state new)) result → SaysOutcome closes result response
      → response ≢ MemoryFault → fault_told response ≡ 0 → IsSaidAmong closes (Ok (asks.Command asked)) response (state old).entries (state new).entries
  outcome_said closes asked old new (Ok outcome) response is says had quiet =
      let older = settled_begin (state old).entries (state old).pending is.settled is.begins.settles in
      let newer = entered_begin is.settled asked.drafter asked.request is.day asked.command (state new).entries outcome is.entered in
      let front : take (length is.settled) (state new).entries ≡ is.settled = ap (take (length is.settled)) newer.1 ∙ take-append_seam is.settled newer.0 in record {
        k = length is.settled;
        day = is.day;
        not_older = omega (arith, ap length older.1, length-append (state old).entries older.0);
        not_newer = omega (arith, ap length newer.1, length-append is.settled newer.0);
        said = ap response_bytes says ∙ ap (λ t. reply_bytes (entered_reply closes t)) (sym is.entered)
            ∙ ap (λ es. reply_bytes (reply_on es is.day closes (Ok (asks.Command asked)))) (sym front);
      }
  outcome_said closes asked old new (Err (fails.Rule rule)) response is says had quiet =
      let older = settled_begin (state old).entries (state old).pending (state new).entries is.begins.settles in record {
        k = length (state new).entries;
        day = is.day;
        not_older = omega (arith, ap length older.1, length-append (state old).entries older.0);
        not_newer = omega arith;
        said = said_whole (rule_reply closes rule) response says had ∙ ap (λ t. reply_bytes (entered_reply closes t)) (sym is.refused)
            ∙ ap (λ es. reply_bytes (reply_on es is.day closes (Ok (asks.Command asked)))) (sym (whole (state new).entries));
      }
  outcome_said closes asked old new (Err fails.KeeperFault) response is says had quiet = absurd (omega (arith, quiet, ap fault_told says))
  outcome_said closes asked old new (Err fails.Memory) response is says had quiet = absurd (had says)

  command_said : (closes : Bool) (asked : Asked) (old new : D) (response : Response) → ServesCommand state crashes past closes asked old new response
      → response ≢ MemoryFault → fault_told response ≡ 0 → IsSaidAmong closes (Ok (asks.Command asked)) response (state old).entries (state new).entries
  command_said closes asked old new response (inl (stays, fault)) had quiet = absurd (had fault)
  command_said closes asked old new response (inr (result, does, says)) had quiet = outcome_said closes asked old new result response does.outcome says had quiet

  asking_said : (closes : Bool) (asking : Result Asking RequestRefusal) (old new : D) (response : Response) → ServesAsking state crashes past closes asking old new response
      → response ≢ MemoryFault → fault_told response ≡ 0 → IsSaidAmong closes asking response (state old).entries (state new).entries
  asking_said closes (Ok (asks.Command asked)) old new response serves had quiet = command_said closes asked old new response serves had quiet
  asking_said closes asking old new response (stays, says) had quiet =
      let same : (state new).entries ≡ (state old).entries = ap (λ (s : DeskState). s.entries) stays.same in record {
        k = length (state old).entries;
        day = 0;
        not_older = omega arith;
        not_newer = omega (arith, ap length same);
        said = said_whole (reply_on (state old).entries 0 closes asking) response says had
            ∙ ap (λ es. reply_bytes (reply_on es 0 closes asking)) (sym (ap (take (length (state old).entries)) same ∙ whole (state old).entries));
      }

-- what moves

-- the marks behind an answer: one more where the response says that the keeper failed
abbrev MarksMove : Result Asking RequestRefusal → DeskState → DeskState → Response → Type 0
MarksMove asking old new (Made message closes) = new.marks ≡ old.marks
MarksMove asking old new MemoryFault = new.marks ≡ old.marks
MarksMove asking old new (KeeperFault closes) =
    (asked : Asked) × (asking ≡ Ok (asks.Command asked)) × (new.marks ≡ old.marks ++ mark_of asked.drafter asked.request new.entries ∷ [])

record Moves (asking : Result Asking RequestRefusal) (response : Response) (old new : DeskState) : Type 0 where
  pub marks : MarksMove asking old new response
  pub most : length new.entries + length new.marks ≤ length old.entries + length old.marks + 2 * commands_in asking
  pub fewer : old.pending ≡ None → length new.entries + length new.marks ≤ length old.entries + length old.marks + commands_in asking
  pub sound : IsSound old → IsSound new

said_marks : (asking : Result Asking RequestRefusal) (s : DeskState) (r : Reply) (response : Response) → Says r response → MarksMove asking s s response
said_marks asking s r response (inl made) = subst (MarksMove asking s s) (sym made) refl
said_marks asking s r response (inr fault) = subst (MarksMove asking s s) (sym fault) refl

stay_moves : (asking : Result Asking RequestRefusal) (s : DeskState) (response : Response) → MarksMove asking s s response → Moves asking response s s
stay_moves asking s response marks =
    record { marks = marks; most = omega arith; fewer = λ none. omega arith; sound = λ sound. sound }

outcome_marks : (closes : Bool) (asked : Asked) (old new : DeskState) (result : Result Outcome CommandFault) (response : Response) → SaysOutcome closes result response
    → new.marks ≡ marks_after old.marks (mark_of asked.drafter asked.request new.entries) result
    → MarksMove (Ok (asks.Command asked)) old new response × (length new.marks ≡ length old.marks + told result)
outcome_marks closes asked old new (Ok outcome) response says is =
    (subst (MarksMove (Ok (asks.Command asked)) old new) (sym says) is, omega (arith, ap length is))
outcome_marks closes asked old new (Err (fails.Rule rule)) response (inl made) is =
    (subst (MarksMove (Ok (asks.Command asked)) old new) (sym made) is, omega (arith, ap length is))
outcome_marks closes asked old new (Err (fails.Rule rule)) response (inr fault) is =
    (subst (MarksMove (Ok (asks.Command asked)) old new) (sym fault) is, omega (arith, ap length is))
outcome_marks closes asked old new (Err fails.KeeperFault) response says is = (
  subst (MarksMove (Ok (asks.Command asked)) old new) (sym says) (asked, refl, is),
  omega (arith, ap length is, length-append old.marks (mark_of asked.drafter asked.request new.entries ∷ [])),
)
outcome_marks closes asked old new (Err fails.Memory) response says is =
    (subst (MarksMove (Ok (asks.Command asked)) old new) (sym says) is, omega (arith, ap length is))

module _ {D : Type 0} (state : D → DeskState) (crashes : D → Crashes Found) (past : D → List PastKey) where
  does_moves : (closes : Bool) (asked : Asked) (old new : D) (result : Result Outcome CommandFault) (response : Response)
      → Does state crashes past asked old new result → SaysOutcome closes result response → Moves (Ok (asks.Command asked)) response (state old) (state new)
  does_moves closes asked old new result response does says =
      let (marks, count) = outcome_marks closes asked (state old) (state new) result response says does.marks in
      let ends = does.outcome in record {
        marks = marks;
        most = omega (arith, count, ends_most asked.drafter asked.request asked.command (standing (state old)) (standing (state new)) result ends);
        fewer = λ none. omega (arith, count, ends_fewer asked.drafter asked.request asked.command (standing (state old)) (standing (state new)) result ends none);
        sound = λ sound. does.sound;
      }

  stays_moves : (asking : Result Asking RequestRefusal) (old new : D) (r : Reply) (response : Response) → state new ≡ state old → Says r response → Moves asking response (state old) (state new)
  stays_moves asking old new r response same says =
      subst (λ (s : DeskState). Moves asking response (state old) s) (sym same) (stay_moves asking (state old) response (said_marks asking (state old) r response says))

  command_moves : (closes : Bool) (asked : Asked) (old new : D) (response : Response) → ServesCommand state crashes past closes asked old new response
      → Moves (Ok (asks.Command asked)) response (state old) (state new)
  command_moves closes asked old new response (inl (stays, fault)) =
      subst (λ (s : DeskState). Moves (Ok (asks.Command asked)) response (state old) s) (sym stays.same)
      (stay_moves (Ok (asks.Command asked)) (state old) response (subst (MarksMove (Ok (asks.Command asked)) (state old) (state old)) (sym fault) refl))
  command_moves closes asked old new response (inr (result, does, says)) = does_moves closes asked old new result response does says

  asking_moves : (closes : Bool) (asking : Result Asking RequestRefusal) (old new : D) (response : Response) → ServesAsking state crashes past closes asking old new response
      → Moves asking response (state old) (state new)
  asking_moves closes (Ok (asks.Command asked)) old new response serves = command_moves closes asked old new response serves
  asking_moves closes asking old new response (stays, says) = stays_moves asking old new (reply_on (state old).entries 0 closes asking) response stays.same says

-- a history grows by the entries, and then by the mark

prefix_of : (a b : List Entry) (marks : List FaultMark) → BeginWith a b → IsPrefix (events_from 0 a marks) (events_from 0 b marks)
prefix_of a b marks (more, is) = subst (λ es. IsPrefix (events_from 0 a marks) (events_from 0 es marks)) (sym is) (more_entries 0 a more marks)

-- a history is that of the entries with the older marks, and behind it the mark
record IsMarkedBy (asking : Result Asking RequestRefusal) (response : Response) (old new : DeskState) : Type 0 where
  pub more : List Event
  pub are : history_of new ≡ events_from 0 new.entries old.marks ++ more
  pub marked : (request : Request) → asking_of request ≡ asking → (front : List Event)
      → AreMarked (faulted_in (record { request = request; response = response } ∷ [])) (front ++ more)

marks_moved : (asking : Result Asking RequestRefusal) (response : Response) (old new : DeskState) → MarksMove asking old new response → IsMarkedBy asking response old new
marks_moved asking (Made message closes) old new same = record {
  more = [];
  are = ap (events_from 0 new.entries) same ∙ sym (append-nil (events_from 0 new.entries old.marks));
  marked = λ request is front. tt;
}
marks_moved asking MemoryFault old new same = record {
  more = [];
  are = ap (events_from 0 new.entries) same ∙ sym (append-nil (events_from 0 new.entries old.marks));
  marked = λ request is front. tt;
}
marks_moved asking (KeeperFault closes) old new (asked, asks_, marks) =
    let mark = mark_of asked.drafter asked.request new.entries in record {
      more = Faulted mark ∷ [];
      are = ap (events_from 0 new.entries) marks ∙ mark_more 0 new.entries old.marks mark (omega arith);
      marked = λ request is front. ([], record { before = front; mark = mark; are = refl; is_mark = (asked, is ∙ asks_, refl, refl) }, tt);
    }

fits_by : (entries : List Entry) (least : ℕ) (e : Exchange) (response : Response) → e.response ≡ response
    → (response ≢ MemoryFault → fault_told response ≡ 0 → Fits entries least (length entries) e)
    → FitsWhereMade entries least (length entries) e response
fits_by entries least e (Made message closes) is fits = fits (λ no. cc) refl
fits_by entries least e MemoryFault is fits = tt
fits_by entries least e (KeeperFault closes) is fits = tt

none_pending : (pending : Option Entry) (marks : List FaultMark) → (IsSome pending → marks ≢ []) → marks ≡ [] → pending ≡ None
none_pending None marks some none = refl
none_pending (Some e) marks some none = absurd (some refl none)

module _ {D : Type 0} (state : D → DeskState) (crashes : D → Crashes Found) (past : D → List PastKey) where
  asking_grows : (closes : Bool) (asking : Result Asking RequestRefusal) (old new : D) (response : Response) → ServesAsking state crashes past closes asking old new response
      → IsPrefix (history_of (state old)) (history_of (state new))
  asking_grows closes asking old new response serves =
      let moves = asking_moves state crashes past closes asking old new response serves in
      let marked = marks_moved asking response (state old) (state new) moves.marks in
      let grows = (asking_step state crashes past closes asking old new response serves).grows in
      prefix_on (history_of (state old)) (events_from 0 (state new).entries (state old).marks) (history_of (state new))
      (prefix_of (state old).entries (state new).entries (state old).marks grows) (marked.more, sym marked.are)

  history_grows : (request : Request) (old new : D) (response : Response) → Serves state crashes past request old new response
      → IsPrefix (history_of (state old)) (history_of (state new))
  history_grows request old new response serves = asking_grows request.closes (asking_of request) old new response serves

  fits_at : (request : Request) (old new : D) (seen : List Event) (response : Response) → Serves state crashes past request old new response
      → IsPrefix seen (history_of (state old))
      → FitsWhereMade (state new).entries (length (entries_of seen)) (length (state new).entries) (record { request = request; response = response }) response
  fits_at request old new seen response serves begins =
      let e : Exchange = record { request = request; response = response } in
      let before : length (entries_of seen) ≤ length (state old).entries =
      omega (
        arith,
        prefix_length (entries_of seen) (entries_of (history_of (state old))) (entries_begin seen (history_of (state old)) begins),
        ap length (entries_from 0 (state old).entries (state old).marks),
      ) in
      fits_by (state new).entries (length (entries_of seen)) e response refl
      (λ had quiet. let said = asking_said state crashes past request.closes (asking_of request) old new response serves had quiet in record {
        k = said.k;
        not_older = omega (arith, before, said.not_older);
        not_newer = said.not_newer;
        within = omega arith;
        said = record { day = said.day; said = said.said };
        stands = λ is. subst (HoldsAsked e) (sym (whole (state new).entries))
            (asking_holds state crashes past request.closes (asking_of request) old new response serves is);
      })

  marked_at : (request : Request) (old new : D) (seen : List Event) (response : Response) → Serves state crashes past request old new response
      → IsPrefix seen (history_of (state old))
      → AreMarked (faulted_in (record { request = request; response = response } ∷ [])) (drop (length seen) (history_of (state new)))
  marked_at request old new seen response serves begins =
      let moves = asking_moves state crashes past request.closes (asking_of request) old new response serves in
      let marked = marks_moved (asking_of request) response (state old) (state new) moves.marks in
      let grows = (asking_step state crashes past request.closes (asking_of request) old new response serves).grows in
      let p = prefix_on seen (history_of (state old)) (events_from 0 (state new).entries (state old).marks) begins
      (prefix_of (state old).entries (state new).entries (state old).marks grows) in
      let all : history_of (state new) ≡ seen ++ (p.0 ++ marked.more) = marked.are ∙ ap (λ l. l ++ marked.more) (sym p.1) ∙ append_assoc seen p.0 marked.more in
      subst (AreMarked (faulted_in (record { request = request; response = response } ∷ [])))
      (sym (ap (drop (length seen)) all ∙ drop-append_seam seen (p.0 ++ marked.more))) (marked.marked request refl p.0)

  makes_at : (request : Request) (old new : D) (made now : ℕ) (response : Response) → Serves state crashes past request old new response → IsSound (state old)
      → now + length (history_of (state old)) ≡ made + length (history_of (state new))
      → IsMadeOf (commands_in (asking_of request)) (history_of (state new)) made now
  makes_at request old new made now response serves sound count =
      let moves = asking_moves state crashes past request.closes (asking_of request) old new response serves in
      let before = sized (state old).entries (state old).marks sound.marks in
      let behind = sized (state new).entries (state new).marks (moves.sound sound).marks in record {
        most = omega (arith, count, before, behind, moves.most);
        unmarked = λ none.
            let earlier = none_before (history_of (state old)) (history_of (state new)) (history_grows request old new response serves) none in
            let pending = none_pending (state old).pending (state old).marks sound.marked (unmarked (state old).entries (state old).marks sound.marks earlier) in
            omega (arith, count, before, behind, moves.fewer pending);
      }

  answered_here : (request : Request) (old new : D) (seen : List Event) (made now : ℕ) (response : Response) → Serves state crashes past request old new response
      → IsSound (state old) → is_legal (state new).entries ≡ true → IsPrefix seen (history_of (state old))
      → now + length (history_of (state old)) ≡ made + length (history_of (state new))
      → IsAnswered request seen (history_of (state new)) made now response
  answered_here request old new seen made now response serves sound legal begins count =
      let same : entries_of (history_of (state new)) ≡ (state new).entries = entries_from 0 (state new).entries (state new).marks in record {
        grows = prefix_on seen (history_of (state old)) (history_of (state new)) begins (history_grows request old new response serves);
        legal = λ before. ap is_legal same ∙ legal;
        fits = subst (λ es. FitsWhereMade es (length (entries_of seen)) (length es) (record { request = request; response = response }) response) (sym same)
            (fits_at request old new seen response serves begins);
        marked = marked_at request old new seen response serves begins;
        makes = makes_at request old new made now response serves sound count;
      }

  -- along requests that are answered

  histories_grow : (es : List Exchange) (old new : D) → AreServed state crashes past es old new → IsPrefix (history_of (state old)) (history_of (state new))
  histories_grow [] old new same = subst (λ d. IsPrefix (history_of (state old)) (history_of (state d))) (sym same) (prefix_self (history_of (state old)))
  histories_grow (e ∷ es) old new (mid, serves, more) =
      prefix_on (history_of (state old)) (history_of (state mid)) (history_of (state new)) (history_grows e.request old mid e.response serves) (histories_grow es mid new more)

  pub all_grow : (history : D → List Event) → ((desk : D) → history desk ≡ history_of (state desk)) → (es : List Exchange) (old new : D)
      → AreServed state crashes past es old new → IsPrefix (history old) (history new)
  all_grow history are es old new served =
      subst (λ l. IsPrefix l (history new)) (sym (are old))
      (subst (IsPrefix (history_of (state old))) (sym (are new)) (histories_grow es old new served))

  pub all_keep_origin : (origin : D → List ℕ) → ((desk : D) → origin desk ≡ (state desk).origin) → (es : List Exchange) (old new : D)
      → AreServed state crashes past es old new → origin new ≡ origin old
  all_keep_origin origin are es old new served = are new ∙ origin_stays state crashes past es old new served ∙ sym (are old)

  -- of what is told

  pub tells_grow : (history : D → List Event) → ((desk : D) → history desk ≡ history_of (state desk)) → (asking : Asking) (old new : D) (t : DeskTold)
      → Tells state crashes past asking old new t → IsPrefix (history old) (history new)
  tells_grow history are asking old new t tells =
      let (response, says) = some_response true t in
      subst (λ l. IsPrefix l (history new)) (sym (are old))
      (subst (IsPrefix (history_of (state old))) (sym (are new))
      (asking_grows true (Ok asking) old new response (told_serves state crashes past true asking old new t response tells says)))

  pub tells_keep_origin : (origin : D → List ℕ) → ((desk : D) → origin desk ≡ (state desk).origin) → (asking : Asking) (old new : D) (t : DeskTold)
      → Tells state crashes past asking old new t → origin new ≡ origin old
  tells_keep_origin origin are asking old new t tells =
      let (response, says) = some_response true t in
      are new ∙ asking_origin state crashes past true (Ok asking) old new response (told_serves state crashes past true asking old new t response tells says) ∙ sym (are old)

  -- what is asked is told in a turn, and said outside it
  pub told_answered : (history : D → List Event) → ((desk : D) → history desk ≡ history_of (state desk))
      → (request : Request) (closes : Bool) (asking : Asking) (old new : List Event × ℕ) (t : DeskTold) (response : Response)
      → request.closes ≡ closes → asking_of request ≡ Ok asking → IsTurnOf state crashes past history asking old new t → SaysTold closes t response
      → AnswersSeen request old new response
  told_answered history are request closes asking old new t response closes_is asks_is turn says =
      let serves : Serves state crashes past request turn.found turn.left response =
      subst (λ l. ServesAsking state crashes past l (asking_of request) turn.found turn.left response) (sym closes_is)
      (subst (λ a. ServesAsking state crashes past closes a turn.found turn.left response) (sym asks_is)
      (told_serves state crashes past closes asking turn.found turn.left t response turn.tells says)) in
      subst (λ l. IsAnswered request old.0 l old.1 new.1 response) (sym (turn.has_seen ∙ are turn.left))
      (answered_here request turn.found turn.left old.0 old.1 new.1 response serves turn.sound turn.legal (subst (IsPrefix old.0) (are turn.found) turn.begins)
      (ap (λ l. new.1 + length l) (sym (are turn.found)) ∙ turn.has_made ∙ ap (λ l. old.1 + length l) (are turn.left)))

-- nothing is asked of the desk

pub nothing_answered : (request : Request) (seen : List Event) (made : ℕ) → IsAnswered request seen seen made made MemoryFault
nothing_answered request seen made = record {
  grows = prefix_self seen;
  legal = λ legal. legal;
  fits = tt;
  marked = tt;
  makes = record { most = omega arith; unmarked = λ none. omega arith };
}

not_created : {A : Type 0} (response : Response) → is_created response ≡ false → is_created response ≡ true → A
not_created response isnt is = absurd (let no : false ≡ true = sym isnt ∙ is in cc)

pub refused_answered : (request : Request) (seen : List Event) (made : ℕ) (refusal : RequestRefusal) (response : Response) → asking_of request ≡ Err refusal
    → Says (request_reply refusal request.closes) response → IsAnswered request seen seen made made response
refused_answered request seen made refusal response is (inr fault) =
    subst (λ r. IsAnswered request seen seen made made r) (sym fault) (nothing_answered request seen made)
refused_answered request seen made refusal response is (inl said) =
    let entries = entries_of seen in
    let e : Exchange = record { request = request; response = response } in record {
      grows = prefix_self seen;
      legal = λ legal. legal;
      fits = fits_by entries (length entries) e response refl (λ had quiet. record {
        k = length entries;
        not_older = omega arith;
        not_newer = omega arith;
        within = omega arith;
        said = record {
          day = 0;
          said = ap response_bytes said ∙ ap (λ a. reply_bytes (reply_on (take (length entries) entries) 0 request.closes a)) (sym is);
        };
        stands = λ created. not_created response
            (says_other (request_reply refusal request.closes) response (request_other refusal request.closes) (inl said)) created;
      });
      marked = subst (λ r. AreMarked (faulted_in (record { request = request; response = r } ∷ [])) (drop (length seen) seen)) (sym said) tt;
      makes = record { most = omega arith; unmarked = λ none. omega arith };
    }
