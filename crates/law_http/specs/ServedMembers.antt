-- What a member of a stream comes to, whatever answers requests: one is answered and the stream goes on, or it ends.
use Rattle.std.specs.Prelude.{◌≡◌, ◌≢◌, ◌⊎◌, ◌↔◌, ℕ, ◌≤◌, ◌<◌, ◌||◌, Bool, IsTrue, IsFalse, List, Option, None, Some, Result, Ok, Err}
use Rattle.desk_base.specs.Crashes.{Crashes}
use Rattle.desk_base.specs.Streams.{AppendsFront, risen}
use Rattle.desk_base.specs.declared.source.Failed.{Failed}
use Rattle.law_register.specs.Desk.States.{DeskState, Found}
use Rattle.law_register.specs.declared.answer.past_key.PastKey.{PastKey}
use Rattle.law_register.specs.declared.register.entry.Entry.{Entry}
use Rattle.law_http.specs.Asking.{asking_of}
use Rattle.law_http.specs.Hearing.{IsHeardOf}
use Rattle.law_http.specs.Refusals.{message_reply}
use Rattle.law_http.specs.Responses.{Says, response_bytes}
use Rattle.law_http.specs.Exchanges.{IsServed}
use Rattle.law_http.specs.Serving.{ServesWithin}
use Rattle.law_http.specs.Streaming.{AppendsAll, fault_told}
use Rattle.law_http.specs.declared.heard.HearFault.{HearFault}
use Rattle.law_http.specs.declared.heard.HearFault.TheVariants as faults
use Rattle.law_http.specs.declared.heard.Request.{Request}
use Rattle.law_http.specs.declared.heard.Heard.TheVariants as heard
use Rattle.law_http.specs.declared.refusal.MessageRefusal.{MessageRefusal}
use Rattle.law_http.specs.declared.response.Response.{Response}
use Rattle.law_http.specs.declared.response.Response.TheVariants.{Made, MemoryFault, KeeperFault}
use Rattle.law_http.specs.declared.streaming.Served.{Served}
use Rattle.law_http.specs.declared.streaming.StreamEnd.{StreamEnd}
use Rattle.law_http.specs.declared.streaming.StreamEnd.TheVariants as ends

-- how a stream ends behind a response that is written, where it would end so: for want of memory after the fixed 500
abbrev pub end_behind : Response → Option StreamEnd → Option StreamEnd
end_behind (Made message closes) end = end
end_behind MemoryFault end = Some ends.Memory
end_behind (KeeperFault closes) end = end

-- the same where the write may have failed
abbrev pub end_after : Result Unit Failed → Option StreamEnd → Option StreamEnd
end_after (Ok done) end = end
end_after (Err fault) end = Some ends.WriteFault

-- a response is written whole
pub record IsPut (before now : Option (List ℕ)) (response : Response) (count later : ℕ) : Type 0 where
  pub written : AppendsAll before now (response_bytes response)
  pub same : later ≡ count

-- the write of a response failed
pub record IsPutInPart (before now : Option (List ℕ)) (response : Response) (count later : ℕ) : Type 0 where
  pub written : AppendsFront before now (response_bytes response)
  pub rose : later ≡ risen count

-- what comes of writing a response behind which the stream ends so, or goes on
abbrev pub PutsBefore : Option (List ℕ) → Option (List ℕ) → Response → ℕ → ℕ → Option StreamEnd → Option StreamEnd
    → Type 0
PutsBefore before now response count later end result =
    ((result ≡ end_behind response end) × IsPut before now response count later)
    ⊎ ((result ≡ Some ends.WriteFault) × IsPutInPart before now response count later)

-- what comes of refusing what is no request
abbrev pub Refuses : Option (List ℕ) → Option (List ℕ) → MessageRefusal → ℕ → ℕ → Option StreamEnd → Type 0
Refuses before now refusal count later result = (response : Response) × Says (message_reply refusal) response
    × PutsBefore before now response count later (Some (ends.Refused refusal)) result

-- what comes of it where nothing was heard
abbrev pub Leaves : Option (List ℕ) → Option (List ℕ) → HearFault → ℕ → ℕ → Option StreamEnd → Type 0
Leaves before now faults.ReadFault count later result =
    (result ≡ Some ends.ReadFault) × (now ≡ before) × (later ≡ count)
Leaves before now faults.Memory count later result =
    PutsBefore before now MemoryFault count later (Some ends.Memory) result

-- what was served, where a fault was told before or not
abbrev pub with_fault : Bool → Served → Served
with_fault told served = record { end = served.end; faulted = told || served.faulted }

-- the cause of an end, where a member ends the stream; else a count is as it was
abbrev pub HasMemberCause : (StreamEnd → ℕ → ℕ → Type 0) → Option StreamEnd → ℕ → ℕ → Type 0
HasMemberCause cause None before now = now ≡ before
HasMemberCause cause (Some end) before now = cause end before now

-- a member after which the stream goes on takes a byte at least
abbrev pub SpendsMember : Option StreamEnd → ℕ → ℕ → Type 0
SpendsMember None before now = now < before
SpendsMember (Some end) before now = now ≤ before

module _ {S : Type 0} (answers : Request → S → S → Response → Type 0) where
  -- a request that does not close the stream is answered
  pub record IsExchanged (left rest before now : Option (List ℕ)) (old new : S) (told : Bool) : Type 0 where
    pub request : Request
    pub response : Response
    pub heard : IsHeardOf left rest (heard.Request request)
    pub goes_on : IsFalse request.closes
    pub answered : answers request old new response
    pub had_memory : response ≢ MemoryFault
    pub written : AppendsAll before now (response_bytes response)
    pub faulted : IsTrue told ↔ (fault_told response ≢ 0)

  -- a member is served, behind which the link has these bytes over
  abbrev pub IsMemberServed : Option (List ℕ) → Option (List ℕ) → Option (List ℕ) → Option (List ℕ) → Option (List ℕ) → S → S
      → Bool → Option StreamEnd → Type 0
  IsMemberServed left rest over before now old new told None = IsExchanged left rest before now old new told
  IsMemberServed left rest over before now old new told (Some end) =
      IsServed answers left over before now old new (record { end = end; faulted = told })

  -- whatever is served from here on is served from the start
  abbrev pub GoesOn : Option (List ℕ) → Option (List ℕ) → Option (List ℕ) → Option (List ℕ) → S → S → Bool → Type 0
  GoesOn left here before written old mid told =
      (over now : Option (List ℕ)) (new : S) (served : Served)
      → IsServed answers here over written now mid new served
      → IsServed answers left over before now old new (with_fault told served)

module _ {D : Type 0} (state : D → DeskState) (crashes : D → Crashes Found) (past : D → List PastKey) where
  -- a request is answered by a response, the desk goes from the one to the other, and so many steps were taken before it, and after
  abbrev pub ServesCounted : (D → List Entry → Entry → ℕ) → Request → D × ℕ → D × ℕ → Response → Type 0
  ServesCounted judging request old new response =
      ServesWithin state crashes past judging request.closes (asking_of request) old.0 new.0 response old.1 new.1
