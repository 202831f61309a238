-- What a connection to a desk in turns is answered: from what its pass had seen before to what it has seen after.
use Rattle.std.specs.Prelude.{◌≡◌, ◌↔◌, ◌≢◌, ℕ, ◌+◌, ◌*◌, ◌≤◌, List, [], ◌∷◌, ◌++◌, length, take, drop, slice_get, IsTrue, true, Option, Some, Result, Ok, Err, ⊤}
use Rattle.std.specs.List.{AllByRecursion}
use mathlib.Core.List.{IsPrefix}
use Rattle.akn_json.specs.declared.asked.Asked.{Asked}
use Rattle.desk_base.specs.Crashes.{Crashes}
use Rattle.law_register.specs.Desk.History.{entries_of, marks_of}
use Rattle.law_register.specs.Desk.States.{DeskState, Found, IsSound}
use Rattle.law_register.specs.Register.Verdicts.{is_legal}
use Rattle.law_register.specs.declared.answer.past_key.PastKey.{PastKey}
use Rattle.law_register.specs.declared.desk.event.Event.{Event}
use Rattle.law_register.specs.declared.desk.event.Event.TheVariants.{Faulted}
use Rattle.law_register.specs.declared.desk.fault_mark.FaultMark.{FaultMark}
use Rattle.law_register.specs.declared.register.entry.Entry.{Entry}
use Rattle.turn_lock.specs.Passes.{BeganAs, IsPassOf, made_by, seen_by, share_of}
use Rattle.turn_lock.specs.Turned.{id_of}
use Rattle.turn_lock.specs.declared.pass.Pass.{Pass}
use Rattle.turn_lock.specs.declared.turns.Turns.{Turns}
use Rattle.law_http.specs.Asking.{asking_of}
use Rattle.law_http.specs.Faultless.{reply_on}
use Rattle.law_http.specs.Lasting.{Holds, HoldsAsked, is_created}
use Rattle.law_http.specs.Responses.{reply_bytes, response_bytes}
use Rattle.law_http.specs.Streaming.{ArePut, EndsAs, Exchange, faults_told, requests_of, responses_of}
use Rattle.law_http.specs.declared.asking.Asking.{Asking}
use Rattle.law_http.specs.declared.asking.Asking.TheVariants as asks
use Rattle.law_http.specs.declared.heard.Heard.{Heard}
use Rattle.law_http.specs.declared.heard.Heard.TheVariants as heard
use Rattle.law_http.specs.declared.heard.Request.{Request}
use Rattle.law_http.specs.declared.refusal.RequestRefusal.{RequestRefusal}
use Rattle.law_http.specs.declared.response.Response.{Response}
use Rattle.law_http.specs.declared.response.Response.TheVariants.{Made, MemoryFault, KeeperFault}
use Rattle.law_http.specs.Telling.{Tells}
use Rattle.law_http.specs.declared.streaming.Served.{Served}
use Rattle.law_http.specs.declared.telling.DeskTold.{DeskTold}

-- the response is what is said where the first k of these entries stand; a command comes on some day
pub record IsSaidOn (entries : List Entry) (k : ℕ) (e : Exchange) : Type 0 where
  pub day : ℕ
  pub said : response_bytes e.response
      ≡ reply_bytes (reply_on (take k entries) day e.request.closes (asking_of e.request))

-- a response is said on the first k of these entries: not on fewer than `least`, and not on more than `next`. What it
-- acknowledges, if it does, stands among the first `next`
pub record Fits (entries : List Entry) (least next : ℕ) (e : Exchange) : Type 0 where
  pub k : ℕ
  pub not_older : least ≤ k
  pub not_newer : k ≤ next
  pub within : next ≤ length entries
  pub said : IsSaidOn entries k e
  pub stands : IsTrue (is_created e.response) → HoldsAsked e (take next entries)

-- the same of a response that was made; a fixed one says nothing of entries
abbrev pub FitsWhereMade : List Entry → ℕ → ℕ → Exchange → Response → Type 0
FitsWhereMade entries least next e (Made message closes) = Fits entries least next e
FitsWhereMade entries least next e MemoryFault = ⊤
FitsWhereMade entries least next e (KeeperFault closes) = ⊤

-- the responses are said on first parts of these entries, each of them not shorter than `least`, than the one before it,
-- and than what holds all that was acknowledged before it
abbrev pub FitAll : List Entry → ℕ → List Exchange → Type 0
FitAll entries least [] = ⊤
FitAll entries least (e ∷ es) =
    (next : ℕ) × (least ≤ next) × FitsWhereMade entries least next e e.response × FitAll entries next es

-- among these the entry of a drafter's request stands exactly once, with the command that was asked for
pub record StandsOnce (asked : Asked) (entries : List Entry) : Type 0 where
  pub stands : Holds asked entries
  pub once : (i j : ℕ) (one other : Entry) → slice_get entries i ≡ Some one → slice_get entries j ≡ Some other
      → (one.drafter ≡ asked.drafter) × (one.request ≡ asked.request)
      → (other.drafter ≡ asked.drafter) × (other.request ≡ asked.request) → i ≡ j

-- what an exchange asked for stands among these exactly once
abbrev pub StandsOnceAsked : Exchange → List Entry → Type 0
StandsOnceAsked e entries = (asked : Asked) × (asking_of e.request ≡ Ok (asks.Command asked)) × StandsOnce asked entries

-- of each of these exchanges whose response says 201, the entry stands among these exactly once
abbrev pub AreOnce : List Entry → List Exchange → Type 0
AreOnce entries exchanges = AllByRecursion (λ e. IsTrue (is_created e.response) → StandsOnceAsked e entries) exchanges

-- one of the exchanges, where its response says that the keeper failed, with those of the others
abbrev pub with_faulted : Response → Exchange → List Exchange → List Exchange
with_faulted (Made message closes) e es = es
with_faulted MemoryFault e es = es
with_faulted (KeeperFault closes) e es = e ∷ es

-- the exchanges whose response says that the keeper failed
abbrev pub faulted_in : List Exchange → List Exchange
faulted_in [] = []
faulted_in (e ∷ es) = with_faulted e.response e (faulted_in es)

-- the mark has the drafter and the number of the request of the command that was asked for
abbrev pub IsMarkOf : Exchange → FaultMark → Type 0
IsMarkOf e mark = (asked : Asked) × (asking_of e.request ≡ Ok (asks.Command asked))
    × (mark.drafter ≡ asked.drafter) × (mark.request ≡ asked.request)

-- a mark of the exchange stands among these events, with this behind it
pub record IsMarked (e : Exchange) (events behind : List Event) : Type 0 where
  pub before : List Event
  pub mark : FaultMark
  pub are : events ≡ before ++ Faulted mark ∷ behind
  pub is_mark : IsMarkOf e mark

-- of each of these exchanges a mark of its own stands among these events, in their order
abbrev pub AreMarked : List Exchange → List Event → Type 0
AreMarked [] events = ⊤
AreMarked (e ∷ es) events = (behind : List Event) × IsMarked e events behind × AreMarked es behind

-- A connection is well answered from what was seen before to what was seen later. It had these bytes left, has these
-- over, and wrote behind these, where its link tells them
pub record IsWellAnswered (seen later : List Event) (left over before now : Option (List ℕ)) (served : Served)
    : Type 0 where
  -- the requests that were heard, with the responses to them
  pub exchanges : List Exchange
  -- what was said behind the last
  pub closing : List Response
  pub ends : EndsAs served.end left over (requests_of exchanges) closing
  pub puts : ArePut served.end before now (responses_of exchanges ++ closing)
  pub faulted : IsTrue served.faulted ↔ (faults_told exchanges ≢ 0)
  pub grows : IsPrefix seen later
  pub fit : FitAll (entries_of later) (length (entries_of seen)) exchanges
  pub once : AreOnce (entries_of later) exchanges
  pub marked : AreMarked (faulted_in exchanges) (drop (length seen) later)

-- 1 for a command with a good form, and else 0
abbrev pub commands_in : Result Asking RequestRefusal → ℕ
commands_in (Ok asks.Front) = 0
commands_in (Ok (asks.Text text)) = 0
commands_in (Ok (asks.Preview preview)) = 0
commands_in (Ok (asks.Draft drafter)) = 0
commands_in (Ok (asks.Command asked)) = 1
commands_in (Err refusal) = 0

-- how many of these are commands with a good form
abbrev pub commands_heard : List Heard → ℕ
commands_heard [] = 0
commands_heard (heard.Request request ∷ more) = commands_in (asking_of request) + commands_heard more
commands_heard (heard.End ∷ more) = commands_heard more
commands_heard (heard.Refused refusal ∷ more) = commands_heard more

-- of so many commands at most two events were made each, and at most one each where no mark was seen
pub record IsMadeOf (commands : ℕ) (seen : List Event) (before now : ℕ) : Type 0 where
  pub most : now ≤ before + 2 * commands
  pub unmarked : marks_of seen ≡ [] → now ≤ before + commands

module _ {D : Type 0} (state : D → DeskState) (crashes : D → Crashes Found) (past : D → List PastKey) (history : D → List Event) where
  -- in a turn a desk is found whose history begins with what was seen, it tells what is asked, and what it left has been
  -- seen then; what its history grew by has been made
  pub record IsTurnOf (asking : Asking) (old new : List Event × ℕ) (told : DeskTold) : Type 0 where
    pub found : D
    pub left : D
    pub begins : IsPrefix old.0 (history found)
    pub sound : IsSound (state found)
    pub tells : Tells state crashes past asking found left told
    pub legal : is_legal (state left).entries ≡ true
    pub has_seen : new.0 ≡ history left
    pub has_made : new.1 + length (history found) ≡ old.1 + length (history left)

-- A request is answered, in one turn where it asks something of the desk, and else in none: from what was seen before
-- to what was seen later, and from so many events made to so many
pub record IsAnswered (request : Request) (seen later : List Event) (made now : ℕ) (response : Response) : Type 0 where
  pub grows : IsPrefix seen later
  pub legal : is_legal (entries_of seen) ≡ true → is_legal (entries_of later) ≡ true
  pub fits : FitsWhereMade (entries_of later) (length (entries_of seen)) (length (entries_of later))
      (record { request = request; response = response }) response
  pub marked : AreMarked (faulted_in (record { request = request; response = response } ∷ [])) (drop (length seen) later)
  pub makes : IsMadeOf (commands_in (asking_of request)) later made now

-- the same of the events that were seen, with how many of them were made
abbrev pub AnswersSeen : Request → List Event × ℕ → List Event × ℕ → Response → Type 0
AnswersSeen request old new response = IsAnswered request old.0 new.0 old.1 new.1 response

module _ {T I : Type 0} where
  -- a pass of some turns is one of them still, for as many callers, and they began with the same
  pub record StaysPass (turns : Turns T I) (before after : Pass T I) : Type 0 where
    pub own : IsPassOf (id_of turns) after
    pub share : share_of after ≡ share_of before
    pub began : BeganAs after before

module _ {T : Type 0} where
  -- what a pass has seen, and how many events were made in its turns
  abbrev pub view_of : Pass T Event → List Event × ℕ
  view_of pass = (seen_by pass, made_by pass)
