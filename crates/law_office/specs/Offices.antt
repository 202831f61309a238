-- What an office has, and how it stands to its keeper.
use Rattle.std.specs.Prelude.{ℕ, true, ◌≡◌, ◌≢◌, ◌≤◌, ◌+◌, ◌-◌, ◌^◌, List, [], ◌∷◌, length, All, Option, Some, None, IfSome, IsSome, Ok, max, min}
use Rattle.std.specs.Option.{option_map}
use Rattle.indexmap.specs.IndexMap.{IndexMap, spare}
use Rattle.indexmap.specs.IndexSet.{IndexSet}
use Rattle.law_journal.specs.Grammar.{Listing}
use Rattle.law_keeper.specs.Keepers.{Holding, IsSettled, IsWithOrWithout}
use Rattle.law_keeper.specs.declared.readiness.Readiness.{Readiness}
use Rattle.law_keeper.specs.declared.readiness.Readiness.TheVariants.{Unopened, Ready}
use Rattle.law_register.specs.declared.desk.fault_mark.FaultMark.{FaultMark}
use Rattle.law_register.specs.declared.answer.past_key.PastKey.{PastKey}
use Rattle.law_register.specs.declared.register.entry.Entry.{Entry}
use Rattle.law_register.specs.Desk.States.{DeskState, MayFollow, Standing}
use Rattle.law_register.specs.Register.Registers.{Contents}
use Rattle.entry_codec.specs.Entries.{keeps_rules, spelling}
use Rattle.law_refs.specs.Index.{Kept}
use Rattle.law_refs.specs.OfRegister.{IsIndexOf}
use Rattle.version_cache.specs.declared.work_tables.WorkTables.{WorkTables}
use Rattle.viewpoints.specs.Right as viewpoints
use Rattle.law_office.specs.Noting.{AreNoted}
use Rattle.law_office.specs.Opening.{opened, spellings}
use Rattle.law_office.specs.References.{index_after, index_with, judging_with}
use Rattle.law_office.specs.Tables.{AreChangesOf, AreTablesOf, applied, kept_in, table_on}
use Rattle.law_office.specs.declared.book.Book.{Book}
use Rattle.law_office.specs.declared.book.Pending.{Pending}

-- what contracts see of an office: its keeper and its clock as they are now, its entries, the one that is pending,
-- the marks of faults, the keys of what it keeps of past viewpoints, its index of references, what that is to be once the pending entry
-- stands behind the others, its keeper's count of faults when it was made, and its origin
pub record OfficeState (K C : Type 0) : Type 0 where
  pub keeper : K
  pub clock : C
  pub entries : List Entry
  pub pending : Option Entry
  pub marks : List FaultMark
  pub past : List PastKey
  pub refs : Kept
  pub later : Option Kept
  pub opened : ℕ
  pub origin : List ℕ

-- the names of a keeper and a clock
abbrev pub names_of : ℕ → ℕ → List ℕ
names_of keeper clock = keeper ∷ clock ∷ []

-- where an office comes from: the names of the keeper and the clock that it was lent, and the keeper's count of faults
-- when it was made
abbrev pub origin_of : ℕ → ℕ → ℕ → List ℕ
origin_of keeper clock opened = keeper ∷ clock ∷ opened ∷ []

-- where an entry is pending, a fault of the keeper left a mark
abbrev pub IsMarked : Option Entry → List FaultMark → Type 0
IsMarked pending marks = IsSome pending → marks ≢ []

-- a keeper's count of faults rose by one for each mark; it stands still at its last value
abbrev pub RoseWith : List FaultMark → ℕ → ℕ → Type 0
RoseWith marks before now = now ≡ max before (min (before + length marks) (2 ^ 64 - 1))

-- the entry that is pending, if there is one
abbrev pub pending_of : Option Pending → Option Entry
pending_of pending = option_map (λ p. p.entry) pending

-- the index of references once the pending entry stands behind the others, if one is pending
abbrev pub later_of : Kept → Option Pending → Option Kept
later_of index pending = option_map (λ p. index_after p.changes.refs index) pending

-- the index that stands with the entries of a book once it is settled
abbrev pub index_standing : Book → List Entry → Kept
index_standing book settled = index_with (length book.register.entries) book.refs (later_of book.refs book.pending) settled

-- how many references a book judges for an entry that comes to stand behind its settled entries
abbrev pub judging_of : Book → List Entry → Entry → ℕ
judging_of book = judging_with (length book.register.entries) book.refs (later_of book.refs book.pending)

-- the same of an office
abbrev pub judging_in : {K C : Type 0} → OfficeState K C → List Entry → Entry → ℕ
judging_in office = judging_with (length office.entries) office.refs office.later

-- an entry that is pending may stand behind the others, there is room for it, its bytes are those that spell it, it keeps
-- the rules of the format, its changes are those that it makes of what is kept, where there is room for one work more, and each work that
-- names a provision then is noted
pub record IsPendingOn {S R : Type 0} (register : Contents) (tables : IndexMap (List ℕ) WorkTables S) (naming : IndexSet (List ℕ) R)
    (index : Kept) (p : Pending) : Type 0 where
  pub follows : MayFollow register.entries p.entry
  pub room : 1 ≤ register.spare
  pub bytes : p.bytes.items ≡ spelling p.entry
  pub kept : keeps_rules p.entry ≡ true
  pub changes : AreChangesOf register.entries p.entry (kept_in tables) index p.changes
  pub space : 1 ≤ spare tables
  pub noted : AreNoted naming (applied p.changes (kept_in tables))

-- the book of an office is right in itself: its entries are those that an opening finds in what spells them, what is
-- pending is right, its marks were made when so many entries stood as there are, or fewer, and what it keeps of works, of
-- past viewpoints and of references is for its entries; each work that names a provision is noted
pub record IsRight (book : Book) : Type 0 where
  pub opens : opened (spellings book.register.entries) ≡ Ok book.register.entries
  pub pending : IfSome book.pending (IsPendingOn book.register book.tables book.naming book.refs)
  pub marks : All (λ mark. mark.entries ≤ length book.register.entries) book.marks.items
  pub tables : AreTablesOf book.register.entries (kept_in book.tables)
  pub named : AreNoted book.naming (kept_in book.tables)
  pub past : viewpoints.IsRight table_on book.register.entries book.past
  pub refs : IsIndexOf book.register.entries book.refs

-- a list of payloads spells entries; where one is pending, it may stand behind them or not
abbrev pub Spells : List Entry → Option Entry → Listing → Type 0
Spells entries None list = list ≡ Ok (spellings entries)
Spells entries (Some entry) list = IsWithOrWithout (Ok (spellings entries)) (spelling entry) list

-- where a keeper tells it, a crash leaves one of these lists
abbrev pub MayLeave : Holding → (Listing → Type 0) → Type 0
MayLeave h lists = h.tells → h.tells_crash → (list : Listing) → h.may_leave list → lists list

-- a keeper holds entries and the one that is pending: it was opened, is ready unless one is pending, and where it
-- tells its list, that spells them, the cursor stands behind the entries, and where one is pending, a crash leaves a list
-- that spells them, too
pub record Holds (h : Holding) (readiness : Readiness) (entries : List Entry) (pending : Option Entry) (cursor : ℕ)
    : Type 0 where
  pub opened : readiness ≢ Unopened
  pub ready : pending ≡ None → readiness ≡ Ready
  pub settled : readiness ≡ Ready → IsSettled h
  pub list : h.tells → Spells entries pending h.list
  pub end : h.tells → h.place_of cursor ≡ Some (length entries)
  pub durable : IfSome pending (λ entry. MayLeave h (IsWithOrWithout (Ok (spellings entries)) (spelling entry)))

-- a keeper holds what the book of an office says
abbrev pub HoldsBook : Holding → Readiness → Book → Type 0
HoldsBook h readiness book = Holds h readiness book.register.entries (pending_of book.pending) book.end

-- how the desk stands whose book this is, with these days to come
abbrev pub standing_of : Book → Option (ℕ → ℕ) → Standing
standing_of book days = record { entries = book.register.entries; pending = pending_of book.pending; days = days }

-- what of an office all desks have
abbrev pub desk_of : {K C : Type 0} → (K → ℕ) → (C → Option (ℕ → ℕ)) → OfficeState K C → DeskState
desk_of faults days office = record {
  entries = office.entries;
  pending = office.pending;
  marks = office.marks;
  faults = faults office.keeper;
  days = days office.clock;
  origin = office.origin;
}
