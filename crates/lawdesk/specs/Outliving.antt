-- What a crash at some moment of a stream leaves: a front of the entries that stand at its end, with all that was
-- acknowledged by then.
use Rattle.std.specs.Prelude.{ℕ, ◌≡◌, ◌⊎◌, List, [], ◌∷◌, ◌++◌, Ok}
use Rattle.desk_base.specs.Crashes.{Crashes, LeavesOnly}
use Rattle.akn_json.specs.declared.asked.Asked.{Asked}
use Rattle.law_http.specs.Asking.{asking_of}
use Rattle.law_http.specs.Streaming.{AreServed, Exchange, fault_told}
use Rattle.law_http.specs.declared.asking.Asking.TheVariants as asks
use Rattle.law_register.specs.Desk.States.{DeskState, Found, MayFollow}
use Rattle.law_register.specs.declared.answer.past_key.PastKey.{PastKey}
use Rattle.law_register.specs.declared.register.entry.Entry.{Entry}

-- entries begin with others
abbrev pub BeginWith : List Entry → List Entry → Type 0
BeginWith entries first = (more : List Entry) × (entries ≡ first ++ more)

-- a request brought the command of this entry, and was answered that the keeper failed
pub record IsFaulted (exchange : Exchange) (entry : Entry) : Type 0 where
  pub asked : Asked
  pub asks_for : asking_of exchange.request ≡ Ok (asks.Command asked)
  pub drafter : entry.drafter ≡ asked.drafter
  pub request : entry.request ≡ asked.request
  pub command : entry.command ≡ asked.command
  pub told : fault_told exchange.response ≡ 1

-- some of these requests did
abbrev pub SomeFaulted : List Exchange → Entry → Type 0
SomeFaulted [] entry = ⊥
SomeFaulted (e ∷ es) entry = IsFaulted e entry ⊎ SomeFaulted es entry

-- a front of the entries at the end, with one more, which is accepted there, and of which it was told that the keeper
-- failed
pub record IsOneMore (final : List Entry) (exchanges : List Exchange) (entries : List Entry) : Type 0 where
  pub front : List Entry
  pub entry : Entry
  pub are : entries ≡ front ++ entry ∷ []
  pub begin : BeginWith final front
  pub follows : MayFollow front entry
  pub faulted : SomeFaulted exchanges entry

-- what is found begins with the first entries, and is a front of those at the end, or such a front with one more
pub record IsKept (first final : List Entry) (exchanges : List Exchange) (found : Found) : Type 0 where
  pub entries : List Entry
  pub is : found ≡ Ok entries
  pub holds : BeginWith entries first
  pub among : BeginWith final entries ⊎ IsOneMore final exchanges entries

-- what is found could be found before, or is kept
abbrev pub IsOldOrKept : Crashes Found → List Entry → List Entry → List Exchange → Found → Type 0
IsOldOrKept old first final exchanges found = old.may_leave found ⊎ IsKept first final exchanges found

-- a crash at any moment from old to new leaves entries that begin with those of old
abbrev pub Outlives : {D : Type 0} → (D → DeskState) → (D → Crashes Found) → List Exchange → D → D → Type 0
Outlives state crashes all old new =
    LeavesOnly (IsKept (state old).entries (state new).entries all) (crashes old) (crashes new)

module _ {D : Type 0} (state : D → DeskState) (crashes : D → Crashes Found) (past : D → List PastKey)
    (all : List Exchange) where
  -- from the beginning, and from the moment of each response on
  abbrev pub OutliveAll : (exchanges : List Exchange) (old new : D) → AreServed state crashes past exchanges old new
      → Type 0
  OutliveAll [] old new served = Outlives state crashes all old new
  OutliveAll (e ∷ es) old new served = Outlives state crashes all old new × OutliveAll es served.0 new served.2
