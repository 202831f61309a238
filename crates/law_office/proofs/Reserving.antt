-- A book in which room was made is right still.
use Rattle.std.proofs.Common.{◌≡◌, ◌∙◌, ◌≤◌, sym, subst, ℕ, List, Option, None, Ok, IfSome, option_map, length}
use Rattle.std.specs.List.{All}
use Rattle.std.specs.Map.{lookup}
use Rattle.std.specs.Str.{bytes_eq}
use Rattle.law_register.specs.declared.desk.fault_mark.FaultMark.{FaultMark}
use Rattle.law_register.specs.declared.register.entry.Entry.{Entry}
use Rattle.law_register.specs.Provisions.Carrying.{held_now}
use Rattle.version_cache.specs.declared.work_tables.WorkTables.{WorkTables}
use Rattle.version_cache.specs.Seen.{work_view}
use Rattle.law_refs.specs.Index.{Kept}
use Rattle.law_refs.specs.OfRegister.{IsIndexOf}
use Rattle.viewpoints.specs.Right as viewpoints
use Rattle.law_office.specs.Noting.{IsNoted, names_one}
use Rattle.law_office.specs.Offices.{IsPendingOn, IsRight}
use Rattle.law_office.specs.Opening.{opened, spellings}
use Rattle.law_office.specs.Tables.{Matches, kept_in, table_on}
use Rattle.law_office.specs.declared.book.Book.{Book}
use Rattle.law_office.specs.declared.book.Pending.{Pending}

pub reserved : (old new : Book) → IsRight old → new.register.entries ≡ old.register.entries → new.tables.entries ≡ old.tables.entries
    → new.naming ≡ old.naming → new.marks ≡ old.marks → new.past ≡ old.past → new.refs ≡ old.refs → new.pending ≡ old.pending
    → old.pending ≡ None → IsRight new
reserved old new right entries tables naming marks past refs pending none = record {
  opens = subst (λ (es : List Entry). opened (spellings es) ≡ Ok es) (sym entries) right.opens;
  pending = subst (λ (p : Option Pending). IfSome p (IsPendingOn new.register new.tables new.naming new.refs)) (sym (pending ∙ none)) tt;
  marks = subst (λ ms. All (λ (mark : FaultMark). mark.entries ≤ length new.register.entries) ms.items) (sym marks)
      (subst (λ (es : List Entry). All (λ (mark : FaultMark). mark.entries ≤ length es) old.marks.items) (sym entries) right.marks);
  tables = λ w.
      subst (λ (es : List (List ℕ × WorkTables)). Matches (held_now new.register.entries w) (option_map work_view (lookup (bytes_eq w) es))) (sym tables)
      (subst (λ (es : List Entry). Matches (held_now es w) (kept_in old.tables w)) (sym entries) (right.tables w));
  named = λ w.
      subst (λ (es : List (List ℕ × WorkTables)). IsNoted new.naming w (names_one (option_map work_view (lookup (bytes_eq w) es)))) (sym tables)
      (subst (λ n. IsNoted n w (names_one (kept_in old.tables w))) (sym naming) (right.named w));
  past = subst (λ p. viewpoints.IsRight table_on new.register.entries p) (sym past)
      (subst (λ (es : List Entry). viewpoints.IsRight table_on es old.past) (sym entries) right.past);
  refs = subst (λ (i : Kept). IsIndexOf new.register.entries i) (sym refs) (subst (λ (es : List Entry). IsIndexOf es old.refs) (sym entries) right.refs);
}
