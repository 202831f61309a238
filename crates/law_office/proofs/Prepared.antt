-- What is kept stays, and so does a book, where what tables go on from is taken.
use Rattle.std.proofs.Common.{◌≡◌, sym, subst, ℕ, List, Option, None, IfSome}
use Rattle.law_register.specs.declared.register.entry.Entry.{Entry}
use Rattle.law_register.specs.Provisions.Carrying.{held_now}
use Rattle.version_cache.specs.Works.{WorkValue}
use Rattle.law_office.specs.Noting.{AreMore}
use Rattle.law_office.specs.Offices.{IsPendingOn, IsRight}
use Rattle.law_office.specs.Tables.{AreTablesOf, Kept, Matches, kept_in}
use Rattle.law_office.specs.declared.book.Book.{Book}
use Rattle.law_office.specs.declared.book.Pending.{Pending}
use Rattle.law_office.proofs.Noted.{kept_noted}

pub tables_stay : (entries : List Entry) (old new : Kept) → ((w : List ℕ) → new w ≡ old w) → AreTablesOf entries old → AreTablesOf entries new
tables_stay entries old new same is = λ w. subst (λ (k : Option WorkValue). Matches (held_now entries w) k) (sym (same w)) (is w)

-- a book of which none is pending is right with other tables, of which the same is seen, and with more works noted
pub prepared : (old new : Book) → IsRight old → old.pending ≡ None → new ≡ record old { tables = new.tables; naming = new.naming }
    → ((w : List ℕ) → kept_in new.tables w ≡ kept_in old.tables w) → AreMore old.naming new.naming → IsRight new
prepared old new right none is same more = subst IsRight (sym is) with_them
  where
    with_them : IsRight (record old { tables = new.tables; naming = new.naming })
    with_them = record {
      opens = right.opens;
      pending = subst (λ (p : Option Pending). IfSome p (IsPendingOn old.register new.tables new.naming old.refs)) (sym none) tt;
      marks = right.marks;
      tables = tables_stay old.register.entries (kept_in old.tables) (kept_in new.tables) same right.tables;
      named = λ w names. more w (kept_noted old.naming (kept_in old.tables) (kept_in new.tables) same right.named w names);
      past = right.past;
      refs = right.refs;
    }
