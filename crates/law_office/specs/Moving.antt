-- What stands between the parts of a command, and what each of them leaves of the keeper and the book.
use Rattle.std.specs.Prelude.{◌≡◌}
use Rattle.law_journal.specs.Grammar.{Listing}
use Rattle.law_keeper.specs.Keepers.{Holding}
use Rattle.law_keeper.specs.declared.readiness.Readiness.{Readiness}
use Rattle.law_office.specs.Crashing.{LeavesLists}
use Rattle.law_office.specs.Offices.{HoldsBook, IsRight}
use Rattle.law_office.specs.declared.book.Book.{Book}

-- a book moves on: its marks stay, and what it keeps of past viewpoints
pub record Moves (old new : Book) : Type 0 where
  pub marks : new.marks ≡ old.marks
  pub past : new.past ≡ old.past

module _ {K : Type 0} (holding : K → Holding) (readiness : K → Readiness) where
  -- a book stands: it is right in itself, and the keeper holds what it says
  pub record IsStanding (keeper : K) (book : Book) : Type 0 where
    pub right : IsRight book
    pub held : HoldsBook (holding keeper) (readiness keeper) book

  -- the book stands once the keeper was asked, and a crash at any moment since before leaves one of these lists
  pub record Leaves (lists : Listing → Type 0) (before after : K) (book : Book) : Type 0 where
    pub stands : IsStanding after book
    pub crash : LeavesLists lists (holding before) (holding after)
