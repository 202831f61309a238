-- What a crash leaves of an office, by what it leaves of the office's keeper.
use Rattle.std.specs.Prelude.{◌≡◌, ◌⊎◌}
use Rattle.desk_base.specs.Crashes.{AreCrashes, Crashes}
use Rattle.law_journal.specs.Grammar.{Listing}
use Rattle.law_keeper.specs.Keepers.{Holding, IsHolding, LeavesOnly}
use Rattle.law_register.specs.Desk.States.{Found}
use Rattle.law_office.specs.Offices.{Spells, pending_of}
use Rattle.law_office.specs.Opening.{opened_of}
use Rattle.law_office.specs.declared.book.Book.{Book}

-- what an opening finds in some of these lists
abbrev pub IsFoundIn : (Listing → Type 0) → Found → Type 0
IsFoundIn lists found = (list : Listing) × lists list × (found ≡ opened_of list)

-- what is found after a crash, where the keeper tells its list and what a crash leaves of it
abbrev pub crashes_of : Holding → Crashes Found
crashes_of h = record {
  tells = h.tells × h.tells_crash;
  may_leave = λ found. IsFoundIn h.may_leave found;
  tells_moments = h.tells_moments;
  moment = h.moment;
  left_since = λ t found. IsFoundIn (h.left_since t) found;
}

-- what holds of each keeper's crashes holds of these
pub crashes_are : (h : Holding) → IsHolding h → AreCrashes (crashes_of h)
crashes_are h is = record {
  counts_now = λ told t found le may. (may.0, is.counts_now told t may.0 le may.1, may.2);
  only_now = λ told found left. (left.0, is.only_now told left.0 left.1, left.2);
}

-- a list spells what a book says
abbrev pub SpellsBook : Book → Listing → Type 0
SpellsBook book list = Spells book.register.entries (pending_of book.pending) list

-- a list spells what a book said, or what it says now
abbrev pub SpellsEither : Book → Book → Listing → Type 0
SpellsEither old new list = SpellsBook old list ⊎ SpellsBook new list

-- where a keeper tells it, a crash at any moment leaves one of these lists
abbrev pub LeavesLists : (Listing → Type 0) → Holding → Holding → Type 0
LeavesLists lists old new = old.tells → old.tells_crash → new.tells × LeavesOnly lists old new
