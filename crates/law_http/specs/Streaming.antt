-- What a stream serves: the requests that are heard of it, one after another, each answered before more is read.
use Rattle.std.specs.Prelude.{◌≡◌, ◌≢◌, ◌⊎◌, ◌↔◌, ℕ, ◌+◌, ◌-◌, ◌^◌, ◌≤◌, max, min, true, List, [], ◌∷◌, ◌++◌, map, IsTrue, IsFalse, Option, None, Some, ⊤}
use Rattle.std.specs.Io.KnownBytes.{append_known}
use Rattle.std.specs.List.{AllByRecursion}
use Rattle.desk_base.specs.Crashes.{Crashes}
use Rattle.desk_base.specs.Streams.{AppendsFront, risen}
use Rattle.law_register.specs.Desk.States.{DeskState, Found}
use Rattle.law_register.specs.declared.answer.past_key.PastKey.{PastKey}
use Rattle.law_register.specs.declared.register.entry.Entry.{Entry}
use Rattle.law_http.specs.Cutting.{after_empty_lines}
use Rattle.law_http.specs.Hearing.{AreHeard, HoldsNoRequest, IsFirstHeard}
use Rattle.law_http.specs.Refusals.{message_reply}
use Rattle.law_http.specs.Responses.{reply_bytes, response_bytes}
use Rattle.law_http.specs.Serving.{Serves, serving_cost}
use Rattle.law_http.specs.declared.heard.Request.{Request}
use Rattle.law_http.specs.declared.heard.Heard.{Heard}
use Rattle.law_http.specs.declared.heard.Heard.TheVariants as heard
use Rattle.law_http.specs.declared.refusal.MessageRefusal.{MessageRefusal}
use Rattle.law_http.specs.declared.response.Response.{Response}
use Rattle.law_http.specs.declared.response.Response.TheVariants.{Made, MemoryFault, KeeperFault}
use Rattle.law_http.specs.declared.streaming.Served.{Served}
use Rattle.law_http.specs.declared.streaming.StreamEnd.{StreamEnd}
use Rattle.law_http.specs.declared.streaming.StreamEnd.TheVariants as ends

-- a request and the response to it
pub record Exchange : Type 0 where
  pub request : Request
  pub response : Response

abbrev pub requests_of : List Exchange → List Request
requests_of exchanges = map (λ e. e.request) exchanges

abbrev pub responses_of : List Exchange → List Response
responses_of exchanges = map (λ e. e.response) exchanges

-- the bytes of responses, one after another
abbrev pub responses_bytes : List Response → List ℕ
responses_bytes [] = []
responses_bytes (response ∷ responses) = response_bytes response ++ responses_bytes responses

-- 1 where a response says that the keeper failed
abbrev pub fault_told : Response → ℕ
fault_told (Made message closes) = 0
fault_told MemoryFault = 0
fault_told (KeeperFault closes) = 1

-- how many of the responses say that the keeper failed
abbrev pub faults_told : List Exchange → ℕ
faults_told [] = 0
faults_told (e ∷ es) = fault_told e.response + faults_told es

-- a count of faults rose by so many; it stands still at its last value
abbrev pub RoseBy : ℕ → ℕ → ℕ → Type 0
RoseBy n before now = now ≡ max before (min (before + n) (2 ^ 64 - 1))

-- all that is heard of a stream, where its link told the bytes: these requests, and then this
abbrev pub HearsAll : Option (List ℕ) → List Request → List Heard → Type 0
HearsAll None requests more = ⊤
HearsAll (Some bytes) requests more = AreHeard bytes (map heard.Request requests ++ more)

-- these requests are heard first of a stream of these bytes; behind one that closes the stream there is no other, and
-- nothing more is said
abbrev pub AreHeardFirst : List ℕ → List Request → List Response → Type 0
AreHeardFirst bytes [] closing = ⊤
AreHeardFirst bytes (request ∷ requests) closing = (rest : List ℕ)
    × IsFirstHeard bytes (heard.Request request) rest
    × (IsTrue request.closes → (requests ≡ []) × (closing ≡ []))
    × AreHeardFirst rest requests closing

-- the same where the link told the bytes
abbrev pub HearsFirst : Option (List ℕ) → List Request → List Response → Type 0
HearsFirst None requests closing = ⊤
HearsFirst (Some bytes) requests closing = AreHeardFirst bytes requests closing

-- these requests are heard first of a stream of these bytes, and none closes it; of what is behind them a front was read,
-- which holds no whole request, and the rest is left. Empty lines where a request would begin don't count
abbrev pub BreaksOff : List ℕ → List Request → List ℕ → Type 0
BreaksOff bytes [] left =
    (part : List ℕ) × HoldsNoRequest part × (after_empty_lines (part ++ left) ≡ after_empty_lines bytes)
BreaksOff bytes (request ∷ requests) left = (rest : List ℕ)
    × IsFirstHeard bytes (heard.Request request) rest × IsFalse request.closes × BreaksOff rest requests left

-- the same where the link told the bytes, and what it has left
abbrev pub HearsUntil : Option (List ℕ) → List Request → Option (List ℕ) → Type 0
HearsUntil None requests over = ⊤
HearsUntil (Some bytes) requests None = ⊥
HearsUntil (Some bytes) requests (Some left) = BreaksOff bytes requests left

-- the response where no request can be read; the stream is closed
abbrev pub refused : MessageRefusal → Response
refused refusal = Made (reply_bytes (message_reply refusal)) true

-- how much is heard, and what is said behind the responses to it, by how a stream ends: at its end nothing, and at what
-- is no request that refusal; before its end nothing, or that there was not enough memory. Where a read failed, each
-- request that was read whole is among them
abbrev pub EndsAs : StreamEnd → Option (List ℕ) → Option (List ℕ) → List Request → List Response → Type 0
EndsAs ends.End left over requests closing = HearsAll left requests [] × (closing ≡ [])
EndsAs (ends.Refused refusal) left over requests closing =
    HearsAll left requests (heard.Refused refusal ∷ []) × (closing ≡ refused refusal ∷ [])
EndsAs ends.ReadFault left over requests closing = HearsUntil left requests over × (closing ≡ [])
EndsAs ends.WriteFault left over requests closing =
    (HearsFirst left requests closing × ((closing ≡ []) ⊎ (closing ≡ MemoryFault ∷ [])))
    ⊎ ((refusal : MessageRefusal) × HearsAll left requests (heard.Refused refusal ∷ [])
    × (closing ≡ refused refusal ∷ []))
EndsAs ends.Memory left over requests closing =
    HearsFirst left requests closing × ((closing ≡ []) ⊎ (closing ≡ MemoryFault ∷ []))

-- the bytes are written behind those before, where the link tells what is written
abbrev pub AppendsAll : Option (List ℕ) → Option (List ℕ) → List ℕ → Type 0
AppendsAll None now bytes = ⊤
AppendsAll (Some before) now bytes = now ≡ Some (before ++ bytes)

-- each response says what it has to, and none that there was not enough memory
abbrev pub HadMemory : List Response → Type 0
HadMemory responses = AllByRecursion (λ r. r ≢ MemoryFault) responses

-- there was memory for each of the responses, and all are written
pub record AreWritten (before now : Option (List ℕ)) (said : List Response) : Type 0 where
  pub had_memory : HadMemory said
  pub written : AppendsAll before now (responses_bytes said)

-- the responses are written, and of the last a front part, since that write failed
pub record AreCut (before now : Option (List ℕ)) (said : List Response) : Type 0 where
  pub whole : List Response
  pub last : Response
  pub are : said ≡ whole ++ last ∷ []
  pub had_memory : HadMemory whole
  pub written : AppendsFront (append_known before (responses_bytes whole)) now (response_bytes last)

-- the responses are written, and the last says that there was not enough memory
pub record AreGivenUp (before now : Option (List ℕ)) (said : List Response) : Type 0 where
  pub whole : List Response
  pub are : said ≡ whole ++ MemoryFault ∷ []
  pub had_memory : HadMemory whole
  pub written : AppendsAll before now (responses_bytes said)

-- what is written of the responses, by how a stream ends
abbrev pub ArePut : StreamEnd → Option (List ℕ) → Option (List ℕ) → List Response → Type 0
ArePut ends.End before now said = AreWritten before now said
ArePut (ends.Refused refusal) before now said = AreWritten before now said
ArePut ends.ReadFault before now said = AreWritten before now said
ArePut ends.WriteFault before now said = AreCut before now said
ArePut ends.Memory before now said = AreGivenUp before now said

-- a stream ends by a failed read only where the count of failed reads rose by one, and else that is as it was
abbrev pub HasReadCause : StreamEnd → ℕ → ℕ → Type 0
HasReadCause ends.ReadFault before now = now ≡ risen before
HasReadCause end before now = now ≡ before

-- the same of a failed write
abbrev pub HasWriteCause : StreamEnd → ℕ → ℕ → Type 0
HasWriteCause ends.WriteFault before now = now ≡ risen before
HasWriteCause end before now = now ≡ before

module _ {D : Type 0} (state : D → DeskState) (crashes : D → Crashes Found) (past : D → List PastKey) where
  -- these requests are answered one after another, and the desk goes from old to new
  abbrev pub AreServed : List Exchange → D → D → Type 0
  AreServed [] old new = new ≡ old
  AreServed (e ∷ es) old new = (mid : D) × Serves state crashes past e.request old mid e.response × AreServed es mid new

  -- the steps that the answers may take, by what is answered
  abbrev pub serving_costs : (judging : D → List Entry → Entry → ℕ) (exchanges : List Exchange) (old new : D) → AreServed exchanges old new → ℕ
  serving_costs judging [] old new served = 0
  serving_costs judging (e ∷ es) old new served =
      serving_cost state crashes past judging e.request old served.0 e.response served.1 + serving_costs judging es served.0 new served.2

  -- what is served of a stream that had these bytes left, and has these over, and wrote behind these, where its link
  -- tells them, and how many steps were taken before and after
  pub record IsStreamed (judging : D → List Entry → Entry → ℕ) (left over before now : Option (List ℕ)) (old new : D) (steps later : ℕ) (served : Served)
      : Type 0 where
    -- the requests that were heard, with the responses to them
    pub exchanges : List Exchange
    -- what was said behind the last
    pub closing : List Response
    pub answered : AreServed exchanges old new
    pub ends : EndsAs served.end left over (requests_of exchanges) closing
    pub puts : ArePut served.end before now (responses_of exchanges ++ closing)
    pub faulted : IsTrue served.faulted ↔ (faults_told exchanges ≢ 0)
    pub faults : RoseBy (faults_told exchanges) (state old).faults (state new).faults
    pub cost : later ≤ steps + serving_costs judging exchanges old new answered
