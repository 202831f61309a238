-- What is served without a fault is determined.
use Rattle.std.proofs.Common.{◌≡◌, ◌∙◌, sym, ap, subst, refl, ℕ, zero, suc, ◌+◌, Bool, true, false, inl, inr, List, [], ◌∷◌, ◌++◌, map, Option, None, Some, Result, Ok, Err, arith}
use Rattle.std.specs.Prelude.{◌≢◌, IsTrue}
use Rattle.akn_json.specs.declared.asked.Asked.{Asked}
use Rattle.desk_base.specs.Clocks.{GivesDay, later_days}
use Rattle.desk_base.specs.Crashes.{Crashes}
use Rattle.law_register.specs.Desk.Commands.{AreSettled, Ends}
use Rattle.law_register.specs.Desk.States.{DeskState, Found, standing}
use Rattle.law_register.specs.declared.answer.past_key.PastKey.{PastKey}
use Rattle.law_register.specs.Register.Entering.{entered}
use Rattle.law_register.specs.declared.desk.command_fault.CommandFault.{CommandFault}
use Rattle.law_register.specs.declared.desk.command_fault.CommandFault.TheVariants as fails
use Rattle.law_register.specs.declared.register.entry.Entry.{Entry}
use Rattle.law_register.specs.declared.register.verdict.Reply.{Reply as Outcome}
use Rattle.law_http.proofs.Determined.{all_same}
use Rattle.law_http.specs.Asking.{asking_of}
use Rattle.law_http.specs.Faultless.{AreDays, IsAllHeard, IsDetermined, IsFaultless, IsWhole, after, days_on, entered_reply, entries_behind, entries_on, output, reply_on}
use Rattle.law_http.specs.Responses.{Reply, Says, reply_bytes, response_bytes}
use Rattle.law_http.specs.Serving.{SaysOutcome, ServesAsking, ServesCommand, rule_reply}
use Rattle.law_http.specs.Streaming.{AppendsAll, ArePut, AreServed, AreWritten, EndsAs, Exchange, HadMemory, HearsAll, IsStreamed, fault_told, faults_told, refused, requests_of, responses_bytes, responses_of}
use Rattle.law_http.specs.declared.asking.Asking.{Asking}
use Rattle.law_http.specs.declared.asking.Asking.TheVariants as asks
use Rattle.law_http.specs.declared.heard.Heard.{Heard}
use Rattle.law_http.specs.declared.heard.Heard.TheVariants as heard
use Rattle.law_http.specs.declared.heard.Request.{Request}
use Rattle.law_http.specs.declared.refusal.MessageRefusal.{MessageRefusal}
use Rattle.law_http.specs.declared.refusal.RequestRefusal.{RequestRefusal}
use Rattle.law_http.specs.declared.response.Response.{Response}
use Rattle.law_http.specs.declared.response.Response.TheVariants.{MemoryFault}
use Rattle.law_http.specs.declared.streaming.Served.{Served}
use Rattle.law_http.specs.declared.streaming.StreamEnd.{StreamEnd}
use Rattle.law_http.specs.declared.streaming.StreamEnd.TheVariants as ends

pub said_whole : (r : Reply) (response : Response) → Says r response → response ≢ MemoryFault → response_bytes response ≡ reply_bytes r
said_whole r response (inl made) had = ap response_bytes made
said_whole r response (inr fault) had = absurd (had fault)

nothing_settled : (entries : List Entry) (pending : Option Entry) (settled : List Entry) → pending ≡ None → AreSettled entries pending settled → settled ≡ entries
nothing_settled entries None settled none is = is
nothing_settled entries (Some e) settled none is = absurd (let some : Some e ≡ None = none in cc)

-- a day, and then others
abbrev first_then : ℕ → (ℕ → ℕ) → ℕ → ℕ
first_then day days zero = day
first_then day days (suc n) = days n

one_more : (n : ℕ) → n + 1 ≡ suc n
one_more n = omega arith

behind_first : (day : ℕ) (later : ℕ → ℕ) → later_days (first_then day later) ≡ later
behind_first day later = λ i n. ap (first_then day later) (one_more n) i

given_days : (told now : Option (ℕ → ℕ)) (day : ℕ) (later : ℕ → ℕ) → GivesDay told now day → AreDays now later → AreDays told (first_then day later)
given_days None now day later gives are = tt
given_days (Some told) now day later (first, behind) are = λ i n. by n i
  where
    rest : later ≡ later_days told
    rest = subst (λ now. AreDays now later) behind are

    by : (n : ℕ) → first_then day later n ≡ told n
    by zero = first
    by (suc n) = ap (λ (days : ℕ → ℕ). days n) rest ∙ ap told (one_more n)

-- a request is answered without a fault, on the first of these days where it takes one; then later days are to come
record IsSaidOn {D : Type 0} (state : D → DeskState) (closes : Bool) (asking : Result Asking RequestRefusal) (old new : D) (response : Response) (later : ℕ → ℕ) : Type 0 where
  pub days : ℕ → ℕ
  pub are_days : AreDays (state old).days days
  pub goes_on : days_on days asking ≡ later
  pub said : response_bytes response ≡ reply_bytes (reply_on (state old).entries (days 0) closes asking)
  pub entries : (state new).entries ≡ entries_on (state old).entries (days 0) asking

record IsOn {D : Type 0} (state : D → DeskState) (closes : Bool) (asking : Result Asking RequestRefusal) (old new : D) (response : Response) : Type 0 where
  pub none_pending : (state new).pending ≡ None
  pub with_days : (later : ℕ → ℕ) → AreDays (state new).days later → IsSaidOn state closes asking old new response later

module _ {D : Type 0} (state : D → DeskState) (crashes : D → Crashes Found) (past : D → List PastKey) where
  outcome_on : (closes : Bool) (asked : Asked) (old new : D) (result : Result Outcome CommandFault) (response : Response)
      → Ends asked.drafter asked.request asked.command (standing (state old)) (standing (state new)) result → SaysOutcome closes result response
      → (state old).pending ≡ None → response ≢ MemoryFault → fault_told response ≡ 0 → IsOn state closes (Ok (asks.Command asked)) old new response
  outcome_on closes asked old new (Ok outcome) response is says none had quiet =
      let before : is.settled ≡ (state old).entries = nothing_settled (state old).entries (state old).pending is.settled none is.begins.settles in
      let enters : entered (state old).entries asked.drafter asked.request is.day asked.command ≡ Ok ((state new).entries, outcome) =
      subst (λ es. entered es asked.drafter asked.request is.day asked.command ≡ Ok ((state new).entries, outcome)) before is.entered in record {
        none_pending = is.pending;
        with_days = λ later are. record {
          days = first_then is.day later;
          are_days = given_days (state old).days (state new).days is.day later is.begins.gives are;
          goes_on = behind_first is.day later;
          said = ap response_bytes says ∙ ap (λ t. reply_bytes (entered_reply closes t)) (sym enters);
          entries = sym (ap (entries_behind (state old).entries) enters);
        };
      }
  outcome_on closes asked old new (Err (fails.Rule rule)) response is says none had quiet =
      let before : (state new).entries ≡ (state old).entries = nothing_settled (state old).entries (state old).pending (state new).entries none is.begins.settles in
      let refuses : entered (state old).entries asked.drafter asked.request is.day asked.command ≡ Err rule =
      subst (λ es. entered es asked.drafter asked.request is.day asked.command ≡ Err rule) before is.refused in record {
        none_pending = is.pending;
        with_days = λ later are. record {
          days = first_then is.day later;
          are_days = given_days (state old).days (state new).days is.day later is.begins.gives are;
          goes_on = behind_first is.day later;
          said = said_whole (rule_reply closes rule) response says had ∙ ap (λ t. reply_bytes (entered_reply closes t)) (sym refuses);
          entries = before ∙ sym (ap (entries_behind (state old).entries) refuses);
        };
      }
  outcome_on closes asked old new (Err fails.KeeperFault) response is says none had quiet = absurd (omega (arith, quiet, ap fault_told says))
  outcome_on closes asked old new (Err fails.Memory) response is says none had quiet = absurd (had says)

  command_on : (closes : Bool) (asked : Asked) (old new : D) (response : Response) → ServesCommand state crashes past closes asked old new response
      → (state old).pending ≡ None → response ≢ MemoryFault → fault_told response ≡ 0 → IsOn state closes (Ok (asks.Command asked)) old new response
  command_on closes asked old new response (inl (stays, fault)) none had quiet = absurd (had fault)
  command_on closes asked old new response (inr (result, does, says)) none had quiet =
      outcome_on closes asked old new result response does.outcome says none had quiet

  asking_on : (closes : Bool) (asking : Result Asking RequestRefusal) (old new : D) (response : Response) → ServesAsking state crashes past closes asking old new response
      → (state old).pending ≡ None → response ≢ MemoryFault → fault_told response ≡ 0 → IsOn state closes asking old new response
  asking_on closes (Ok (asks.Command asked)) old new response serves none had quiet = command_on closes asked old new response serves none had quiet
  asking_on closes asking old new response (stays, says) none had quiet = record {
    none_pending = ap (λ (s : DeskState). s.pending) stays.same ∙ none;
    with_days = λ later are. record {
      days = later;
      are_days = subst (λ (s : DeskState). AreDays s.days later) stays.same are;
      goes_on = refl;
      said = said_whole (reply_on (state old).entries (later 0) closes asking) response says had;
      entries = ap (λ (s : DeskState). s.entries) stays.same;
    };
  }

-- what is heard and said behind the last request leaves the entries as they are
record Closes (closing : List Response) (more : List Heard) : Type 0 where
  pub said : (entries : List Entry) (days : ℕ → ℕ) → responses_bytes closing ≡ output entries days more
  pub entries : (entries : List Entry) (days : ℕ → ℕ) → entries ≡ after entries days more

-- these responses are what is said to these members
record AreSaidTo {D : Type 0} (state : D → DeskState) (old new : D) (responses : List Response) (members : List Heard) : Type 0 where
  pub days : ℕ → ℕ
  pub are_days : AreDays (state old).days days
  pub said : responses_bytes responses ≡ output (state old).entries days members
  pub entries : (state new).entries ≡ after (state old).entries days members
  pub none_pending : (state new).pending ≡ None

abbrev some_days : Option (ℕ → ℕ) → ℕ → ℕ
some_days None = λ n. 0
some_days (Some told) = told

some_are_days : (told : Option (ℕ → ℕ)) → AreDays told (some_days told)
some_are_days None = tt
some_are_days (Some told) = refl

-- one more in front
joined : {D : Type 0} (state : D → DeskState) (request : Request) (response : Response) (old mid new : D) (responses : List Response) (members : List Heard)
    (others : AreSaidTo state mid new responses members) → IsSaidOn state request.closes (asking_of request) old mid response others.days
    → AreSaidTo state old new (response ∷ responses) (heard.Request request ∷ members)
joined state request response old mid new responses members others on = record {
  days = on.days;
  are_days = on.are_days;
  said = λ i. on.said i ++ (others.said ∙ (λ j. output (on.entries j) (sym on.goes_on j) members)) i;
  entries = others.entries ∙ (λ j. after (on.entries j) (sym on.goes_on j) members);
  none_pending = others.none_pending;
}

all_said : {D : Type 0} (state : D → DeskState) (crashes : D → Crashes Found) (past : D → List PastKey) (es : List Exchange) (old new : D) (closing : List Response) (more : List Heard)
    → AreServed state crashes past es old new → (state old).pending ≡ None → HadMemory (responses_of es ++ closing) → faults_told es ≡ 0 → Closes closing more
    → AreSaidTo state old new (responses_of es ++ closing) (map heard.Request (requests_of es) ++ more)
all_said state crashes past [] old new closing more same none had quiet closes = record {
  days = some_days (state old).days;
  are_days = some_are_days (state old).days;
  said = closes.said (state old).entries (some_days (state old).days);
  entries = ap (λ d. (state d).entries) same ∙ closes.entries (state old).entries (some_days (state old).days);
  none_pending = ap (λ d. (state d).pending) same ∙ none;
}
all_said state crashes past (e ∷ es) old new closing more (mid, serves, rest) none (had, have) quiet closes =
    let one = asking_on state crashes past e.request.closes (asking_of e.request) old mid e.response serves none had (omega (arith, quiet)) in
    let others = all_said state crashes past es mid new closing more rest one.none_pending have (omega (arith, quiet)) closes in
    joined state e.request e.response old mid new (responses_of es ++ closing) (map heard.Request (requests_of es) ++ more) others (one.with_days others.days others.are_days)

none_told : (n : ℕ) → (n ≢ 0 → ⊥) → n ≡ 0
none_told zero some = refl
none_told (suc n) some = absurd (some (λ e. omega (arith, e)))

not_both : (t : Bool) → t ≡ false → IsTrue t → ⊥
not_both true is told = absurd (let e : true ≡ false = is in cc)
not_both false is told = absurd (let e : false ≡ true = told in cc)

all_heard : (left : Option (List ℕ)) (requests : List Request) (more : List Heard) → HearsAll left requests more → IsAllHeard left (map heard.Request requests ++ more)
all_heard None requests more hears = tt
all_heard (Some bytes) requests more hears = hears

closes_at_end : (closing : List Response) → closing ≡ [] → Closes closing []
closes_at_end closing none = record { said = λ entries days. ap responses_bytes none; entries = λ entries days. refl }

closes_refused : (closing : List Response) (refusal : MessageRefusal) → closing ≡ refused refusal ∷ [] → Closes closing (heard.Refused refusal ∷ [])
closes_refused closing refusal is = record { said = λ entries days. ap responses_bytes is; entries = λ entries days. refl }

pub determined : {D : Type 0} (state : D → DeskState) (crashes : D → Crashes Found) (past : D → List PastKey) (judging : D → List Entry → Entry → ℕ) (left over before now : Option (List ℕ)) (old new : D) (steps later : ℕ) (served : Served)
    → IsStreamed state crashes past judging left over before now old new steps later served → (state old).pending ≡ None → IsFaultless served
    → IsDetermined left before now (state old).entries (state old).days (state new).entries × ((state new).pending ≡ None)
determined state crashes past judging left over before now old new steps later served s none faultless =
    by served.end faultless.whole s.ends s.puts
  where
    quiet : faults_told s.exchanges ≡ 0
    quiet = none_told (faults_told s.exchanges) (λ some. not_both served.faulted faultless.none_told (s.faulted.1 some))

    put : (more : List Heard) → HearsAll left (requests_of s.exchanges) more → Closes s.closing more → AreWritten before now (responses_of s.exchanges ++ s.closing)
        → IsDetermined left before now (state old).entries (state old).days (state new).entries × ((state new).pending ≡ None)
    put more hears closes written =
        let all = all_said state crashes past s.exchanges old new s.closing more s.answered none written.had_memory quiet closes in (
          record {
            members = map heard.Request (requests_of s.exchanges) ++ more;
            heard = all_heard left (requests_of s.exchanges) more hears;
            days = all.days;
            are_days = all.are_days;
            written = subst (AppendsAll before now) all.said written.written;
            left_behind = all.entries;
          },
          all.none_pending,
        )

    by : (end : StreamEnd) → IsWhole end → EndsAs end left over (requests_of s.exchanges) s.closing → ArePut end before now (responses_of s.exchanges ++ s.closing)
        → IsDetermined left before now (state old).entries (state old).days (state new).entries × ((state new).pending ≡ None)
    by ends.End whole (hears, closing) written = put [] hears (closes_at_end s.closing closing) written
    by (ends.Refused refusal) whole (hears, closing) written = put (heard.Refused refusal ∷ []) hears (closes_refused s.closing refusal closing) written
    by ends.ReadFault whole ends_ written = absurd whole
    by ends.WriteFault whole ends_ written = absurd whole
    by ends.Memory whole ends_ written = absurd whole

-- two of the same bytes, over the same entries with the same days to come
pub same_served : (bytes before : List ℕ) (now other : Option (List ℕ)) (entries : List Entry) (told : ℕ → ℕ) (later others : List Entry)
    → IsDetermined (Some bytes) (Some before) now entries (Some told) later → IsDetermined (Some bytes) (Some before) other entries (Some told) others
    → (now ≡ other) × (later ≡ others)
same_served bytes before now other entries told later others a b =
    let members : a.members ≡ b.members = all_same bytes a.members b.members a.heard b.heard in
    let days : a.days ≡ b.days = a.are_days ∙ sym b.are_days in (
      a.written ∙ (λ i. Some (before ++ output entries (days i) (members i))) ∙ sym b.written,
      a.left_behind ∙ (λ i. after entries (days i) (members i)) ∙ sym b.left_behind,
    )
