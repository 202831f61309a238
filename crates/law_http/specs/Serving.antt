-- What a desk serves: what it answers to a request, and what comes of the desk.
use Rattle.std.specs.Prelude.{◌≡◌, ◌≤◌, ◌⊎◌, ℕ, ◌+◌, nat_lt, Bool, if◌then◌else◌, List, ◌++◌, codes, None, Result, Ok, Err}
use Rattle.std.proofs.Common.{inl, inr}
use Rattle.std.specs.Fmt.{decimal}
use Rattle.serde_json.specs.Written.{compact_text}
use Rattle.desk_base.specs.Crashes.{Crashes}
use Rattle.law_register.specs.Answer.Asking.{answer_at}
use Rattle.law_register.specs.Answer.PastAsking.{keys_asked, past_cost}
use Rattle.law_register.specs.Answer.Previewing.{preview_at, previewing_at}
use Rattle.law_register.specs.Desk.Commands.{Ends, HasCommandCause, LeavesBetween, LeavesNoMore, mark_of, marks_after, spending}
use Rattle.law_register.specs.Desk.States.{DeskState, Found, IsDurable, IsSound, standing}
use Rattle.law_register.specs.Register.Drafts.{draft_of}
use Rattle.law_register.specs.Register.LawList.{front}
use Rattle.law_register.specs.declared.answer.answer.Answer.{Answer}
use Rattle.law_register.specs.declared.answer.past_key.PastKey.{PastKey}
use Rattle.law_register.specs.declared.answer.queries.QueryRule.{QueryRule}
use Rattle.law_register.specs.declared.answer.queries.QueryRule.TheVariants as query
use Rattle.law_register.specs.declared.answer.question.Question.{Question}
use Rattle.law_register.specs.declared.desk.command_fault.CommandFault.{CommandFault}
use Rattle.law_register.specs.declared.desk.command_fault.CommandFault.TheVariants as fails
use Rattle.law_register.specs.declared.register.draft.DraftItem.{DraftItem}
use Rattle.law_register.specs.declared.register.entry.Entry.{Entry}
use Rattle.law_register.specs.declared.register.rules.Rule.{Rule}
use Rattle.law_register.specs.declared.register.rules.Rule.TheVariants as rules
use Rattle.law_register.specs.declared.register.verdict.Reply.{Reply as Outcome}
use Rattle.law_register.specs.declared.register.verdict.Reply.TheVariants as outcome
use Rattle.akn_json.specs.Printing.Answers.{answer_data}
use Rattle.akn_json.specs.Printing.Drafts.{draft_value}
use Rattle.akn_json.specs.Printing.Refusals.{query_data, rule_data}
use Rattle.akn_json.specs.declared.asked.Asked.{Asked}
use Rattle.law_http.specs.Asking.{asking_of, question_at, question_previewed}
use Rattle.law_http.specs.Refusals.{request_reply}
use Rattle.law_http.specs.Responses.{Reply, Says, reply, reply_bytes}
use Rattle.law_http.specs.declared.asking.Asking.{Asking}
use Rattle.law_http.specs.declared.asking.Asking.TheVariants as asks
use Rattle.law_http.specs.declared.heard.Request.{Request}
use Rattle.law_http.specs.declared.refusal.RequestRefusal.{RequestRefusal}
use Rattle.law_http.specs.declared.response.Response.{Response}
use Rattle.law_http.specs.declared.response.Response.TheVariants.{Made, MemoryFault, KeeperFault}
use Rattle.law_http.specs.declared.status.Status.{Status}
use Rattle.law_http.specs.declared.status.Status.TheVariants as status

-- the status of a question that is refused
abbrev pub query_status : QueryRule → Status
query_status (query.ViewpointAhead front) = status.Conflict
query_status rule = status.NotFound

-- the status of a command that is refused
abbrev pub rule_status : Rule → Status
rule_status (rules.UnknownWork work) = status.NotFound
rule_status (rules.UnknownModification law item) = status.NotFound
rule_status (rules.BadTree fault) = status.BadRequest
rule_status (rules.BadModification item) = status.BadRequest
rule_status (rules.BadPeriod item) = status.BadRequest
rule_status rule = status.Conflict

-- how many law entries there are
abbrev pub front_text : ℕ → List ℕ
front_text n = codes "{\"front\":" ++ decimal n ++ codes "}"

abbrev pub front_reply : Bool → ℕ → Reply
front_reply closes n = reply status.Ok None closes (front_text n)

-- an answer
abbrev pub shown_reply : Bool → Answer → Reply
shown_reply closes answer = reply status.Ok None closes (compact_text (answer_data answer))

-- a question that is refused
abbrev pub query_reply : Bool → QueryRule → Reply
query_reply closes rule = reply (query_status rule) None closes (compact_text (query_data rule))

-- an answer, or the rule that the question breaks
abbrev pub answer_reply : Bool → Result Answer QueryRule → Reply
answer_reply closes (Ok answer) = shown_reply closes answer
answer_reply closes (Err rule) = query_reply closes rule

-- the items of a draft
abbrev pub draft_reply : Bool → List DraftItem → Reply
draft_reply closes draft = reply status.Ok None closes (compact_text (draft_value draft))

-- the law number of a law entry, or the item number of an entry of a draft
abbrev pub outcome_text : Outcome → List ℕ
outcome_text (outcome.Law number) = codes "{\"law\":" ++ decimal number ++ codes "}"
outcome_text (outcome.Draft number) = codes "{\"draft\":" ++ decimal number ++ codes "}"

-- a command that is accepted, or was before
abbrev pub accepted_reply : Bool → Outcome → Reply
accepted_reply closes outcome = reply status.Created None closes (outcome_text outcome)

-- a command that is refused
abbrev pub rule_reply : Bool → Rule → Reply
rule_reply closes rule = reply (rule_status rule) None closes (compact_text (rule_data rule))

-- what is said of a command; of one that is accepted nothing else can be said, also for want of memory
abbrev pub SaysOutcome : Bool → Result Outcome CommandFault → Response → Type 0
SaysOutcome closes (Ok outcome) response = response ≡ Made (reply_bytes (accepted_reply closes outcome)) closes
SaysOutcome closes (Err (fails.Rule rule)) response = Says (rule_reply closes rule) response
SaysOutcome closes (Err fails.KeeperFault) response = response ≡ KeeperFault closes
SaysOutcome closes (Err fails.Memory) response = response ≡ MemoryFault

-- a question asks for a viewpoint before the front
abbrev pub is_past : List Entry → Question → Bool
is_past entries q = nat_lt q.viewpoint (front entries)

-- the keys of the tables of past viewpoints once a question is answered: at the front, or ahead of it, they are as before
abbrev pub keys_answered : List Entry → Question → List PastKey → List PastKey
keys_answered entries q keys = if is_past entries q then keys_asked entries q keys else keys

-- how many ids are applied at most to answer a question: none at the front, or ahead of it
abbrev pub answering_cost : List Entry → Question → List PastKey → ℕ
answering_cost entries q keys = if is_past entries q then past_cost entries q keys else 0

-- a desk of any kind: how it stands, what a crash leaves of it, and the keys of the tables that it keeps of past viewpoints
module _ {D : Type 0} (state : D → DeskState) (crashes : D → Crashes Found) (past : D → List PastKey) where
  -- a call that changes nothing
  pub record Stays (old new : D) : Type 0 where
    pub same : state new ≡ state old
    pub crash : LeavesNoMore (crashes old) (crashes new)
    pub keys : past new ≡ past old

  -- a question that is answered so changes nothing but which tables are kept of past viewpoints; for want of memory it
  -- may leave these too
  pub record Asks (q : Question) (old new : D) (response : Response) : Type 0 where
    pub same : state new ≡ state old
    pub crash : LeavesNoMore (crashes old) (crashes new)
    pub keys : (past new ≡ keys_answered (state old).entries q (past old))
        ⊎ ((response ≡ MemoryFault) × (past new ≡ past old))

  -- a command that was asked for is done, with this outcome
  pub record Does (asked : Asked) (old new : D) (result : Result Outcome CommandFault) : Type 0 where
    pub outcome : Ends asked.drafter asked.request asked.command (standing (state old)) (standing (state new)) result
    pub marks : (state new).marks
        ≡ marks_after (state old).marks (mark_of asked.drafter asked.request (state new).entries) result
    pub cause : HasCommandCause (state old).faults (state new).faults result
    pub crash : LeavesBetween (state old) (state new) (crashes old) (crashes new)
    pub sound : IsSound (state new)
    pub durable : IsDurable (state new) (crashes new)
    pub origin : (state new).origin ≡ (state old).origin
    pub keys : past new ≡ past old

  -- a command is done and its outcome said, or there was no memory for it before anything was done
  abbrev pub ServesCommand : Bool → Asked → D → D → Response → Type 0
  ServesCommand closes asked old new response =
      (Stays old new × (response ≡ MemoryFault))
      ⊎ ((result : Result Outcome CommandFault) × Does asked old new result × SaysOutcome closes result response)

  -- what is asked is answered
  abbrev pub ServesAsking : Bool → Result Asking RequestRefusal → D → D → Response → Type 0
  ServesAsking closes (Err refusal) old new response = Stays old new × Says (request_reply refusal closes) response
  ServesAsking closes (Ok asks.Front) old new response =
      Stays old new × Says (front_reply closes (front (state old).entries)) response
  ServesAsking closes (Ok (asks.Text text)) old new response =
      Asks (question_at (front (state old).entries) text) old new response
      × Says (answer_reply closes (answer_at (state old).entries (question_at (front (state old).entries) text))) response
  ServesAsking closes (Ok (asks.Preview preview)) old new response = Stays old new
      × Says (answer_reply closes (preview_at (state old).entries preview.drafter (question_previewed preview))) response
  ServesAsking closes (Ok (asks.Draft drafter)) old new response = Stays old new
      × Says (draft_reply closes (draft_of drafter (state old).entries)) response
  ServesAsking closes (Ok (asks.Command asked)) old new response = ServesCommand closes asked old new response

  -- a request is answered by a response, and the desk goes from old to new
  abbrev pub Serves : Request → D → D → Response → Type 0
  Serves request old new response = ServesAsking request.closes (asking_of request) old new response

  -- the steps that a command may take, by what came of it, where a desk judges so many references for an entry
  abbrev pub commanding_cost : (judging : D → List Entry → Entry → ℕ) (closes : Bool) (asked : Asked) (old new : D) (response : Response)
      → ServesCommand closes asked old new response → ℕ
  commanding_cost judging closes asked old new response (inl nothing) = 0
  commanding_cost judging closes asked old new response (inr (result, does, says)) =
      spending asked.drafter asked.request asked.command (standing (state old)) (standing (state new)) (judging old) result does.outcome

  -- the steps that an answer may take, by what is answered
  abbrev pub asking_cost : (judging : D → List Entry → Entry → ℕ) (closes : Bool) (asking : Result Asking RequestRefusal) (old new : D) (response : Response)
      → ServesAsking closes asking old new response → ℕ
  asking_cost judging closes (Err refusal) old new response served = 0
  asking_cost judging closes (Ok asks.Front) old new response served = 0
  asking_cost judging closes (Ok (asks.Text text)) old new response served =
      answering_cost (state old).entries (question_at (front (state old).entries) text) (past old)
  asking_cost judging closes (Ok (asks.Preview preview)) old new response served =
      previewing_at (state old).entries preview.drafter (question_previewed preview)
  asking_cost judging closes (Ok (asks.Draft drafter)) old new response served = 0
  asking_cost judging closes (Ok (asks.Command asked)) old new response served =
      commanding_cost judging closes asked old new response served

  -- the steps that the answer to a request may take
  abbrev pub serving_cost : (judging : D → List Entry → Entry → ℕ) (request : Request) (old new : D) (response : Response) → Serves request old new response → ℕ
  serving_cost judging request old new response served = asking_cost judging request.closes (asking_of request) old new response served

  -- what is asked is answered, and so many steps were taken before it, and after
  pub record ServesWithin (judging : D → List Entry → Entry → ℕ) (closes : Bool) (asking : Result Asking RequestRefusal) (old new : D) (response : Response)
      (before after : ℕ) : Type 0 where
    pub serves : ServesAsking closes asking old new response
    pub within : after ≤ before + asking_cost judging closes asking old new response serves
