-- A response that says 201 has its entry among those of the desk behind it.
use Rattle.std.proofs.Common.{◌≡◌, ◌∙◌, sym, ap, refl, ℕ, ◌==◌, Bool, true, false, cond, not, ◌&&◌, inl, inr, List, [], ◌∷◌, ◌++◌, Option, None, Some, Result, Ok, Err, append_assoc}
use Rattle.std.specs.Prelude.{◌≢◌, codes}
use Rattle.std.specs.List.{starts_with}
use Rattle.serde_json.specs.Written.{compact_text}
use Rattle.std.specs.Option.{option_map_or, option_or}
use Rattle.akn_json.specs.declared.asked.Asked.{Asked}
use Rattle.akn_json.specs.Printing.Refusals.{query_data, rule_data}
use Rattle.law_register.proofs.Equality.{commands_decide}
use Rattle.law_register.proofs.Puts.{bytes_same, left_true, number_same, right_true}
use Rattle.desk_base.specs.Crashes.{AreCrashes, Crashes}
use Rattle.law_register.specs.Answer.Asking.{answer_at}
use Rattle.law_register.specs.Answer.Previewing.{preview_at}
use Rattle.law_register.specs.Desk.States.{DeskState, Found}
use Rattle.law_register.specs.declared.answer.past_key.PastKey.{PastKey}
use Rattle.law_register.specs.Law.Same.{same_command}
use Rattle.law_register.specs.Register.Drafts.{draft_of, is_by}
use Rattle.law_register.specs.Register.Entering.{entered, entered_by, entry_of}
use Rattle.law_register.specs.Register.LawList.{front}
use Rattle.law_register.specs.Register.Verdicts.{again, broken_where, first_rule, law_number, newly, reply_number, reply_to, request_from, request_of, verdict}
use Rattle.law_register.specs.declared.answer.queries.QueryRule.{QueryRule}
use Rattle.law_register.specs.declared.answer.queries.QueryRule.TheVariants as query
use Rattle.law_register.specs.declared.answer.answer.Answer.{Answer}
use Rattle.law_register.specs.declared.desk.command_fault.CommandFault.{CommandFault}
use Rattle.law_register.specs.declared.desk.command_fault.CommandFault.TheVariants as fails
use Rattle.law_register.specs.declared.law.command.Command.{Command}
use Rattle.law_register.specs.declared.register.entry.Entry.{Entry}
use Rattle.law_register.specs.declared.register.rules.Rule.{Rule}
use Rattle.law_register.specs.declared.register.rules.Rule.TheVariants as rules
use Rattle.law_register.specs.declared.register.verdict.Reply.{Reply as Outcome}
use Rattle.law_register.specs.declared.register.verdict.Verdict.TheVariants.{Accepted, Repeat, Refused}
use Rattle.law_http.specs.Asking.{asking_of, question_at, question_previewed}
use Rattle.law_http.specs.Lasting.{AreAcknowledged, BeginWith, Holds, HoldsAsked, IsKept, is_created}
use Rattle.law_http.specs.Refusals.{request_reply}
use Rattle.law_http.specs.Responses.{Reply, Says, reply, reply_bytes}
use Rattle.law_http.specs.Serving.{Does, SaysOutcome, ServesAsking, answer_reply, draft_reply, front_reply, query_status, rule_reply, rule_status}
use Rattle.law_http.specs.Streaming.{AreServed, Exchange}
use Rattle.law_http.specs.declared.asking.Asking.{Asking}
use Rattle.law_http.specs.declared.asking.Asking.TheVariants as asks
use Rattle.law_http.specs.declared.refusal.RequestRefusal.{RequestRefusal}
use Rattle.law_http.specs.declared.refusal.RequestRefusal.TheVariants.{NoRoute, WrongMethod, BadForm}
use Rattle.law_http.specs.declared.response.Response.{Response}
use Rattle.law_http.specs.declared.response.Response.TheVariants.{MemoryFault, KeeperFault}
use Rattle.law_http.specs.declared.status.Allow.{Allow}
use Rattle.law_http.specs.declared.status.Status.{Status}
use Rattle.law_http.specs.declared.status.Status.TheVariants as status
use Rattle.law_http.proofs.Growing.{entries_grow, found_after, kept_on}

-- which responses say 201

abbrev says_created : List ℕ → Bool
says_created bytes = starts_with ◌==◌ bytes (codes "HTTP/1.1 201 ")

other_status : (s : Status) → s ≢ status.Created → (allow : Option Allow) (closes : Bool) (body : List ℕ) → says_created (reply_bytes (reply s allow closes body)) ≡ false
other_status status.Ok other allow closes body = refl
other_status status.Created other allow closes body = absurd (other refl)
other_status status.BadRequest other allow closes body = refl
other_status status.NotFound other allow closes body = refl
other_status status.MethodNotAllowed other allow closes body = refl
other_status status.Conflict other allow closes body = refl
other_status status.LengthRequired other allow closes body = refl
other_status status.ContentTooLarge other allow closes body = refl
other_status status.FieldsTooLarge other allow closes body = refl
other_status status.InternalServerError other allow closes body = refl
other_status status.NotImplemented other allow closes body = refl
other_status status.ServiceUnavailable other allow closes body = refl

rule_other : (rule : Rule) → rule_status rule ≢ status.Created
rule_other (rules.UnknownWork work) = λ e. cc
rule_other (rules.UnknownModification law item) = λ e. cc
rule_other (rules.BadTree fault) = λ e. cc
rule_other (rules.BadModification item) = λ e. cc
rule_other (rules.BadPeriod item) = λ e. cc
rule_other rule = λ e. cc

query_other : (rule : QueryRule) → query_status rule ≢ status.Created
query_other (query.ViewpointAhead n) = λ e. cc
query_other rule = λ e. cc

pub request_other : (refusal : RequestRefusal) (closes : Bool) → says_created (reply_bytes (request_reply refusal closes)) ≡ false
request_other NoRoute closes = refl
request_other (WrongMethod allow) closes = refl
request_other (BadForm form place) closes = refl

answer_other : (closes : Bool) (answer : Result Answer QueryRule) → says_created (reply_bytes (answer_reply closes answer)) ≡ false
answer_other closes (Ok answer) = refl
answer_other closes (Err rule) = other_status (query_status rule) (query_other rule) None closes (compact_text (query_data rule))

memory_other : is_created MemoryFault ≡ false
memory_other = refl

keeper_other : (closes : Bool) → is_created (KeeperFault closes) ≡ false
keeper_other closes = refl

pub says_other : (r : Reply) (response : Response) → says_created (reply_bytes r) ≡ false → Says r response → is_created response ≡ false
says_other r response other (inl made) = ap is_created made ∙ other
says_other r response other (inr fault) = ap is_created fault ∙ memory_other

-- what is entered stands

abbrev entry_in : Entry → Option (Entry × Outcome) → Entry
entry_in other None = other
entry_in other (Some found) = found.0

-- the entry of a request stands among these
abbrev StandsIn : List Entry → List ℕ → ℕ → Entry → Type 0
StandsIn es d r entry = (front : List Entry) × (behind : List Entry) × (es ≡ front ++ entry ∷ behind) × (entry.drafter ≡ d) × (entry.request ≡ r)

stands_first : (e : Entry) (es : List Entry) (d : List ℕ) (r : ℕ) (entry : Entry) → e ≡ entry → is_by d e && (e.request == r) ≡ true → StandsIn (e ∷ es) d r entry
stands_first e es d r entry same is = (
  [],
  es,
  ap (λ x. x ∷ es) same,
  ap (λ (x : Entry). x.drafter) (sym same) ∙ bytes_same e.drafter d (left_true (is_by d e) (e.request == r) is),
  ap (λ (x : Entry). x.request) (sym same) ∙ number_same e.request r (right_true (is_by d e) (e.request == r) is),
)

stands_later : (e : Entry) (es : List Entry) (d : List ℕ) (r : ℕ) (entry : Entry) → StandsIn es d r entry → StandsIn (e ∷ es) d r entry
stands_later e es d r entry (front, behind, are, drafter, request) = (e ∷ front, behind, ap (λ l. e ∷ l) are, drafter, request)

stands_by : (t : Bool) (e : Entry) (es : List Entry) (d : List ℕ) (r : ℕ) (first : Outcome) (later : Option (Entry × Outcome)) (found : Entry × Outcome) → is_by d e && (e.request == r) ≡ t
    → (later ≡ Some found → StandsIn es d r found.0) → option_or (cond t (Some (e, first)) None) later ≡ Some found → StandsIn (e ∷ es) d r found.0
stands_by true e es d r first later found is rest h = stands_first e es d r found.0 (ap (entry_in e) h) is
stands_by false e es d r first later found is rest h = stands_later e es d r found.0 (rest h)

found_from : (before es : List Entry) (d : List ℕ) (r : ℕ) (found : Entry × Outcome) → request_from before d r es ≡ Some found → StandsIn es d r found.0
found_from before [] d r found h = absurd (let none : None ≡ Some found = h in cc)
found_from before (e ∷ es) d r found h =
    stands_by (is_by d e && (e.request == r)) e es d r (reply_to before d e.command) (request_from (before ++ e ∷ []) d r es) found refl
    (λ later. found_from (before ++ e ∷ []) es d r found later) h

abbrev entries_in : Result (List Entry × Outcome) Rule → List Entry
entries_in (Ok p) = p.0
entries_in (Err rule) = []

by_rule : (asked : Asked) (es : List Entry) (day : ℕ) (law : Option ℕ) (first : Outcome) (rule : Option Rule) (now : List Entry) (said : Outcome)
    → entered_by es asked.drafter asked.request day asked.command (option_map_or (λ x. Refused x) rule (Accepted law first)) ≡ Ok (now, said) → Holds asked now
by_rule asked es day law first None now said h = record {
  before = es;
  entry = entry_of asked.drafter asked.request day law asked.command;
  behind = [];
  are = sym (ap entries_in h);
  drafter = refl;
  request = refl;
  command = refl;
}
by_rule asked es day law first (Some rule) now said h = absurd (cc)

commands_same : (a b : Command) → same_command a b ≡ true → a ≡ b
unfolding same_command
commands_same a b same = (commands_decide a b).0 same

by_same : (asked : Asked) (es : List Entry) (day : ℕ) (found : Entry × Outcome) (rule : Rule) (t : Bool) (now : List Entry) (said : Outcome)
    → request_of es asked.drafter asked.request ≡ Some found → same_command found.0.command asked.command ≡ t
    → entered_by es asked.drafter asked.request day asked.command (option_map_or (λ x. Refused x) (broken_where (not t) rule) (Repeat found.1)) ≡ Ok (now, said) → Holds asked now
by_same asked es day found rule true now said is same h =
    let (front, behind, are, drafter, request) = found_from [] es asked.drafter asked.request found is in record {
      before = front;
      entry = found.0;
      behind = behind;
      are = sym (ap entries_in h) ∙ are;
      drafter = drafter;
      request = request;
      command = commands_same found.0.command asked.command same;
    }
by_same asked es day found rule false now said is same h = absurd (cc)

by_found : (asked : Asked) (es : List Entry) (day : ℕ) (found : Option (Entry × Outcome)) (now : List Entry) (said : Outcome) → request_of es asked.drafter asked.request ≡ found
    → entered_by es asked.drafter asked.request day asked.command (option_map_or (λ f. again asked.command f) found (newly es asked.drafter asked.command)) ≡ Ok (now, said) → Holds asked now
by_found asked es day None now said is h =
    by_rule asked es day (law_number es asked.command) (reply_to es asked.drafter asked.command) (first_rule es asked.drafter asked.command) now said h
by_found asked es day (Some found) now said is h = by_same asked es day found (rules.NumberReused (reply_number found.1)) (same_command found.0.command asked.command) now said is refl h

entered_holds : (asked : Asked) (es : List Entry) (day : ℕ) (now : List Entry) (said : Outcome) → entered es asked.drafter asked.request day asked.command ≡ Ok (now, said) → Holds asked now
unfolding entered verdict
entered_holds asked es day now said h = by_found asked es day (request_of es asked.drafter asked.request) now said refl h

-- what a 201 acknowledges

no_other : {A : Type 0} (response : Response) → is_created response ≡ true → is_created response ≡ false → A
no_other response is other = absurd (let e : true ≡ false = sym is ∙ other in cc)

outcome_holds : {D : Type 0} (state : D → DeskState) (crashes : D → Crashes Found) (past : D → List PastKey) (closes : Bool) (asked : Asked) (old new : D) (result : Result Outcome CommandFault) (response : Response)
    → Does state crashes past asked old new result → SaysOutcome closes result response → is_created response ≡ true → Holds asked (state new).entries
outcome_holds state crashes past closes asked old new (Ok said) response does says is =
    entered_holds asked does.outcome.settled does.outcome.day (state new).entries said does.outcome.entered
outcome_holds state crashes past closes asked old new (Err (fails.Rule rule)) response does says is =
    no_other response is (says_other (rule_reply closes rule) response (other_status (rule_status rule) (rule_other rule) None closes (compact_text (rule_data rule))) says)
outcome_holds state crashes past closes asked old new (Err fails.KeeperFault) response does says is = no_other response is (ap is_created says ∙ keeper_other closes)
outcome_holds state crashes past closes asked old new (Err fails.Memory) response does says is = no_other response is (ap is_created says ∙ memory_other)

pub asking_holds : {D : Type 0} (state : D → DeskState) (crashes : D → Crashes Found) (past : D → List PastKey) (closes : Bool) (asking : Result Asking RequestRefusal) (old new : D) (response : Response)
    → ServesAsking state crashes past closes asking old new response → is_created response ≡ true → (asked : Asked) × (asking ≡ Ok (asks.Command asked)) × Holds asked (state new).entries
asking_holds state crashes past closes (Err refusal) old new response (stays, says) is = no_other response is (says_other (request_reply refusal closes) response (request_other refusal closes) says)
asking_holds state crashes past closes (Ok asks.Front) old new response (stays, says) is =
    no_other response is (says_other (front_reply closes (front (state old).entries)) response refl says)
asking_holds state crashes past closes (Ok (asks.Text text)) old new response (stays, says) is =
    no_other response is (says_other (answer_reply closes (answer_at (state old).entries (question_at (front (state old).entries) text))) response (answer_other closes (answer_at (state old).entries (question_at (front (state old).entries) text))) says)
asking_holds state crashes past closes (Ok (asks.Preview preview)) old new response (stays, says) is =
    let answer = preview_at (state old).entries preview.drafter (question_previewed preview) in
    no_other response is (says_other (answer_reply closes answer) response (answer_other closes answer) says)
asking_holds state crashes past closes (Ok (asks.Draft drafter)) old new response (stays, says) is =
    no_other response is (says_other (draft_reply closes (draft_of drafter (state old).entries)) response refl says)
asking_holds state crashes past closes (Ok (asks.Command asked)) old new response (inl (stays, says)) is = no_other response is (ap is_created says ∙ memory_other)
asking_holds state crashes past closes (Ok (asks.Command asked)) old new response (inr (result, does, says)) is =
    (asked, refl, outcome_holds state crashes past closes asked old new result response does says is)

pub holds_more : (asked : Asked) (a b : List Entry) → BeginWith a b → Holds asked a → Holds asked b
holds_more asked a b (more, is) h = record {
  before = h.before;
  entry = h.entry;
  behind = h.behind ++ more;
  are = is ∙ ap (λ l. l ++ more) h.are ∙ append_assoc h.before (h.entry ∷ h.behind) more;
  drafter = h.drafter;
  request = h.request;
  command = h.command;
}

pub asked_more : (e : Exchange) (a b : List Entry) → BeginWith a b → HoldsAsked e a → HoldsAsked e b
asked_more e a b begins (asked, is, holds) = (asked, is, holds_more asked a b begins holds)

acknowledged_more : (es : List Exchange) (a b : List Entry) → BeginWith a b → AreAcknowledged a es → AreAcknowledged b es
acknowledged_more [] a b begins all = tt
acknowledged_more (e ∷ es) a b begins (first, rest) = ((λ is. asked_more e a b begins (first is)), acknowledged_more es a b begins rest)

pub acknowledged_stand : {D : Type 0} (state : D → DeskState) (crashes : D → Crashes Found) (past : D → List PastKey) (es : List Exchange) (old new : D) → AreServed state crashes past es old new → AreAcknowledged (state new).entries es
acknowledged_stand state crashes past [] old new same = tt
acknowledged_stand state crashes past (e ∷ es) old new (mid, serves, more) = (
  (λ is. asked_more e (state mid).entries (state new).entries (entries_grow state crashes past es mid new more)
      (asking_holds state crashes past e.request.closes (asking_of e.request) old mid e.response serves is)),
  acknowledged_stand state crashes past es mid new more,
)

pub acknowledged_last : {D : Type 0} (state : D → DeskState) (crashes : D → Crashes Found) (past : D → List PastKey) → ((desk : D) → AreCrashes (crashes desk)) → (before after : List Exchange) (old mid new : D)
    → AreServed state crashes past before old mid → AreServed state crashes past after mid new → IsKept state crashes old
    → (found : Found) → (crashes new).left_since (crashes mid).moment found → (entries : List Entry) × (found ≡ Ok entries) × AreAcknowledged entries before
acknowledged_last state crashes past are before after old mid new first second kept found since =
    let (entries, is, begins) = found_after state crashes past are after mid new second (kept_on state crashes past before old mid first kept) found since in
    (entries, is, acknowledged_more before (state mid).entries entries begins (acknowledged_stand state crashes past before old mid first))
