-- What a stream that is served without a fault says and leaves: functions of the entries at its start, of what is heard
-- of it, and of the days that the clock gives.
use Rattle.std.specs.Prelude.{◌≡◌, ℕ, Bool, List, [], ◌∷◌, ◌++◌, Option, None, Some, Result, Ok, Err, IsFalse, ⊤}
use Rattle.desk_base.specs.Clocks.{later_days}
use Rattle.law_register.specs.Answer.Asking.{answer_at}
use Rattle.law_register.specs.Answer.Previewing.{preview_at}
use Rattle.law_register.specs.Register.Drafts.{draft_of}
use Rattle.law_register.specs.Register.Entering.{entered}
use Rattle.law_register.specs.Register.LawList.{front}
use Rattle.law_register.specs.declared.register.entry.Entry.{Entry}
use Rattle.law_register.specs.declared.register.rules.Rule.{Rule}
use Rattle.law_register.specs.declared.register.verdict.Reply.{Reply as Outcome}
use Rattle.law_http.specs.Asking.{asking_of, question_at, question_previewed}
use Rattle.law_http.specs.Hearing.{AreHeard}
use Rattle.law_http.specs.Refusals.{message_reply, request_reply}
use Rattle.law_http.specs.Responses.{Reply, reply_bytes}
use Rattle.law_http.specs.Serving.{accepted_reply, answer_reply, draft_reply, front_reply, rule_reply}
use Rattle.law_http.specs.Streaming.{AppendsAll}
use Rattle.law_http.specs.declared.asking.Asking.{Asking}
use Rattle.law_http.specs.declared.asking.Asking.TheVariants as asks
use Rattle.law_http.specs.declared.heard.Heard.{Heard}
use Rattle.law_http.specs.declared.heard.Heard.TheVariants as heard
use Rattle.law_http.specs.declared.refusal.RequestRefusal.{RequestRefusal}
use Rattle.law_http.specs.declared.streaming.Served.{Served}
use Rattle.law_http.specs.declared.streaming.StreamEnd.{StreamEnd}
use Rattle.law_http.specs.declared.streaming.StreamEnd.TheVariants as ends

-- what is said of a command: that it was accepted, now or before, or the rule that it breaks
abbrev pub entered_reply : Bool → Result (List Entry × Outcome) Rule → Reply
entered_reply closes (Ok (entries, outcome)) = accepted_reply closes outcome
entered_reply closes (Err rule) = rule_reply closes rule

-- the entries behind a command
abbrev pub entries_behind : List Entry → Result (List Entry × Outcome) Rule → List Entry
entries_behind entries (Ok (later, outcome)) = later
entries_behind entries (Err rule) = entries

-- what is said to what is asked, where these entries stand; a command comes on this day
abbrev pub reply_on : List Entry → ℕ → Bool → Result Asking RequestRefusal → Reply
reply_on entries day closes (Err refusal) = request_reply refusal closes
reply_on entries day closes (Ok asks.Front) = front_reply closes (front entries)
reply_on entries day closes (Ok (asks.Text text)) =
    answer_reply closes (answer_at entries (question_at (front entries) text))
reply_on entries day closes (Ok (asks.Preview preview)) =
    answer_reply closes (preview_at entries preview.drafter (question_previewed preview))
reply_on entries day closes (Ok (asks.Draft drafter)) = draft_reply closes (draft_of drafter entries)
reply_on entries day closes (Ok (asks.Command asked)) =
    entered_reply closes (entered entries asked.drafter asked.request day asked.command)

-- the entries behind it: a command alone may change them
abbrev pub entries_on : List Entry → ℕ → Result Asking RequestRefusal → List Entry
entries_on entries day (Ok (asks.Command asked)) =
    entries_behind entries (entered entries asked.drafter asked.request day asked.command)
entries_on entries day asking = entries

-- the days that are still to come behind it: a command alone takes one
abbrev pub days_on : (ℕ → ℕ) → Result Asking RequestRefusal → ℕ → ℕ
days_on days (Ok (asks.Command asked)) = later_days days
days_on days asking = days

-- the bytes of the responses to what is heard, one after another, where these entries stand and these days are to come
abbrev pub output : List Entry → (ℕ → ℕ) → List Heard → List ℕ
output entries days [] = []
output entries days (heard.Request request ∷ more) =
    reply_bytes (reply_on entries (days 0) request.closes (asking_of request))
    ++ output (entries_on entries (days 0) (asking_of request)) (days_on days (asking_of request)) more
output entries days (heard.Refused refusal ∷ more) = reply_bytes (message_reply refusal) ++ output entries days more
output entries days (heard.End ∷ more) = output entries days more

-- the entries that are left behind it all
abbrev pub after : List Entry → (ℕ → ℕ) → List Heard → List Entry
after entries days [] = entries
after entries days (heard.Request request ∷ more) =
    after (entries_on entries (days 0) (asking_of request)) (days_on days (asking_of request)) more
after entries days (heard.Refused refusal ∷ more) = after entries days more
after entries days (heard.End ∷ more) = after entries days more

-- a stream was served to its end, or to what is no request
abbrev pub IsWhole : StreamEnd → Type 0
IsWhole ends.End = ⊤
IsWhole (ends.Refused refusal) = ⊤
IsWhole ends.ReadFault = ⊥
IsWhole ends.WriteFault = ⊥
IsWhole ends.Memory = ⊥

-- nothing failed, no response said that the keeper did, and there was memory for all
pub record IsFaultless (served : Served) : Type 0 where
  pub whole : IsWhole served.end
  pub none_told : IsFalse served.faulted

-- this is all that is heard of a stream, where its link told the bytes
abbrev pub IsAllHeard : Option (List ℕ) → List Heard → Type 0
IsAllHeard None members = ⊤
IsAllHeard (Some bytes) members = AreHeard bytes members

-- these are the days to come, where a clock tells them
abbrev pub AreDays : Option (ℕ → ℕ) → (ℕ → ℕ) → Type 0
AreDays None days = ⊤
AreDays (Some told) days = days ≡ told

-- of a stream that had these bytes left, over a desk that had these entries and these days to come: what was written and
-- the entries that are left are those functions of the entries, of all that is heard, and of the days
pub record IsDetermined (left before now : Option (List ℕ)) (entries : List Entry) (told : Option (ℕ → ℕ))
    (later : List Entry) : Type 0 where
  pub members : List Heard
  pub heard : IsAllHeard left members
  pub days : ℕ → ℕ
  pub are_days : AreDays told days
  pub written : AppendsAll before now (output entries days members)
  pub left_behind : later ≡ after entries days members
