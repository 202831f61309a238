-- What lasts of what a stream was told, whenever the machine stops.
use Rattle.std.specs.Prelude.{◌≡◌, List, ◌∷◌, ◌++◌, Bool, ◌==◌, IsTrue, codes, Ok}
use Rattle.std.specs.List.{AllByRecursion, starts_with}
use Rattle.akn_json.specs.declared.asked.Asked.{Asked}
use Rattle.desk_base.specs.Crashes.{Crashes}
use Rattle.law_register.specs.Desk.States.{DeskState, Found, IsFoundOf}
use Rattle.law_register.specs.declared.answer.past_key.PastKey.{PastKey}
use Rattle.law_register.specs.declared.register.entry.Entry.{Entry}
use Rattle.law_http.specs.Asking.{asking_of}
use Rattle.law_http.specs.Responses.{response_bytes}
use Rattle.law_http.specs.Streaming.{AreServed, Exchange}
use Rattle.law_http.specs.declared.asking.Asking.TheVariants.{Command}
use Rattle.law_http.specs.declared.response.Response.{Response}

-- these entries begin with those
abbrev pub BeginWith : List Entry → List Entry → Type 0
BeginWith before entries = (more : List Entry) × (entries ≡ before ++ more)

-- entries are found, and no damage, and they begin with these
abbrev pub FindsAfter : List Entry → Found → Type 0
FindsAfter before found = (entries : List Entry) × (found ≡ Ok entries) × BeginWith before entries

module _ {D : Type 0} (state : D → DeskState) (crashes : D → Crashes Found) where
  -- the desk tells what a crash leaves of it, now and in the midst of calls, and that is what it has
  pub record IsKept (desk : D) : Type 0 where
    pub tells : (crashes desk).tells
    pub tells_moments : (crashes desk).tells_moments
    pub durable : (found : Found) → (crashes desk).may_leave found
        → IsFoundOf (state desk).entries (state desk).pending found

module _ {D : Type 0} (state : D → DeskState) (crashes : D → Crashes Found) (past : D → List PastKey) where
  -- a desk that stood between two of the exchanges, or before them, or behind them
  pub record StoodAmong (exchanges : List Exchange) (old new mid : D) : Type 0 where
    pub before : List Exchange
    pub after : List Exchange
    pub are : exchanges ≡ before ++ after
    pub served : AreServed state crashes past before old mid
    pub serves : AreServed state crashes past after mid new

  -- what is found was there at some moment: the entries of a desk that stood among these, with the one that was pending
  -- or without it; and they are a front part of the entries in the end
  pub record IsFoundAmong (exchanges : List Exchange) (old new : D) (found : Found) : Type 0 where
    pub desk : D
    pub stood : StoodAmong exchanges old new desk
    pub is : IsFoundOf (state desk).entries (state desk).pending found
    pub grew : BeginWith (state old).entries (state desk).entries
    pub grows : BeginWith (state desk).entries (state new).entries

-- the status line of a response says 201
abbrev pub is_created : Response → Bool
is_created response = starts_with ◌==◌ (response_bytes response) (codes "HTTP/1.1 201 ")

-- the entry of a drafter's request stands among these, with the command that was asked for
pub record Holds (asked : Asked) (entries : List Entry) : Type 0 where
  pub before : List Entry
  pub entry : Entry
  pub behind : List Entry
  pub are : entries ≡ before ++ entry ∷ behind
  pub drafter : entry.drafter ≡ asked.drafter
  pub request : entry.request ≡ asked.request
  pub command : entry.command ≡ asked.command

-- the exchange asked for a command whose entry stands among these
abbrev pub HoldsAsked : Exchange → List Entry → Type 0
HoldsAsked e entries = (asked : Asked) × (asking_of e.request ≡ Ok (Command asked)) × Holds asked entries

-- of each of these exchanges whose response says 201, the entry stands among these
abbrev pub AreAcknowledged : List Entry → List Exchange → Type 0
AreAcknowledged entries exchanges = AllByRecursion (λ e. IsTrue (is_created e.response) → HoldsAsked e entries) exchanges
