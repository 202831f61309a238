-- What a crash leaves of an office, by its book.
use Rattle.std.proofs.Common.{◌≡◌, ◌⊎◌, inl, inr, ⊎_elim, ◌∙◌, sym, ap, subst, refl, ℕ, List, Option, Some, None, Ok}
use Rattle.std.specs.Prelude.{IfSome}
use Rattle.desk_base.specs.Crashes as crash
use Rattle.indexmap.specs.IndexMap.{IndexMap}
use Rattle.indexmap.specs.IndexSet.{IndexSet}
use Rattle.law_journal.specs.Grammar.{Listing}
use Rattle.law_keeper.specs.Keepers.{Holding, IsHolding, LeavesOnly}
use Rattle.law_keeper.specs.declared.readiness.Readiness.{Readiness}
use Rattle.law_keeper.proofs.Moments.{rests, weaker}
use Rattle.law_register.specs.declared.register.entry.Entry.{Entry}
use Rattle.law_register.specs.Desk.States.{Found, IsFoundOf}
use Rattle.law_register.specs.Register.Registers.{Contents}
use Rattle.version_cache.specs.declared.work_tables.WorkTables.{WorkTables}
use Rattle.law_refs.specs.Index.{Kept}
use Rattle.law_office.specs.Crashing.{crashes_of, LeavesLists, SpellsBook, SpellsEither}
use Rattle.law_office.specs.Offices.{Spells, Holds, HoldsBook, IsRight, MayLeave, IsPendingOn, pending_of}
use Rattle.law_office.specs.Opening.{spellings, opened, opened_of}
use Rattle.law_office.specs.declared.book.Book.{Book}
use Rattle.law_office.specs.declared.book.Pending.{Pending}
use Rattle.law_office.proofs.Loading.{spellings_last}
use Rattle.law_office.proofs.Openings.{opened_more}

-- a list that spells entries is opened as these, with the one that is pending or without it
spelled_found : {S R : Type 0} (register : Contents) (tables : IndexMap (List ℕ) WorkTables S) (naming : IndexSet (List ℕ) R) (index : Kept)
    (pending : Option Pending) → opened (spellings register.entries) ≡ Ok register.entries → IfSome pending (IsPendingOn register tables naming index) → (list : Listing)
    → Spells register.entries (pending_of pending) list → IsFoundOf register.entries (pending_of pending) (opened_of list)
spelled_found register tables naming index None opens may list spells = ap opened_of spells ∙ opens
spelled_found register tables naming index (Some p) opens may list (inl without) = inl (ap opened_of without ∙ opens)
spelled_found register tables naming index (Some p) opens may list (inr with) =
    inr (ap opened_of (with ∙ ap Ok (sym (spellings_last register.entries p.entry)))
    ∙ opened_more register.entries p.entry opens may.follows may.kept)

-- what a crash leaves to be found, of what it leaves of the list
pub found_of_lists : (P : Listing → Type 0) (Q : Found → Type 0) (o n : Holding) → n.tells
    → ((list : Listing) → P list → Q (opened_of list)) → LeavesOnly P o n → crash.LeavesOnly Q (crashes_of o) (crashes_of n)
found_of_lists P Q o n told leads run = record {
  tells = (told, run.tells);
  now = λ found may. subst Q (sym may.2) (leads may.0 (run.now may.0 may.1));
  any_moment = λ moments.
      let a = run.any_moment moments in
      record {
        tells = a.tells;
        later = a.later;
        since = λ found left. subst Q (sym left.2) (leads left.0 (a.since left.0 left.1));
        before = λ t found le left. ⊎_elim
            (λ old. inl (left.0, old, left.2))
            (λ p. inr (subst Q (sym left.2) (leads left.0 p)))
            (a.before t left.0 le left.1);
      };
}

-- nothing is asked of the keeper
lists_rest : (P : Listing → Type 0) (h : Holding) → IsHolding h → MayLeave h P → LeavesLists P h h
lists_rest P h is leads = λ told crash. (told, weaker h.may_leave P h h (leads told crash) (rests h is crash))

-- a crash leaves a list that spells what the keeper holds
durable : (h : Holding) (readiness : Readiness) (entries : List Entry) (pending : Option Entry) (cursor : ℕ)
    → Holds h readiness entries pending cursor → MayLeave h (Spells entries pending)
durable h readiness entries None cursor held = λ told crash list may.
    (held.settled (held.ready refl)).durable crash list may ∙ held.list told
durable h readiness entries (Some e) cursor held = λ told crash list may. held.durable told crash list may

-- nothing is asked of the keeper of a book
pub rests_on : (h : Holding) (readiness : Readiness) (old new : Book) → IsHolding h → HoldsBook h readiness old → LeavesLists (SpellsEither old new) h h
rests_on h readiness old new is held =
    lists_rest (SpellsEither old new) h is
    (λ told crash list may. inl (durable h readiness old.register.entries (pending_of old.pending) old.end held told crash list may))

-- what is found after a crash, by the book
module _ (book : Book) (right : IsRight book) where
  spelled_of : (list : Listing) → SpellsBook book list → IsFoundOf book.register.entries (pending_of book.pending) (opened_of list)
  spelled_of = spelled_found book.register book.tables book.naming book.refs book.pending right.opens right.pending

  pub found_now : (h : Holding) (readiness : Readiness) → HoldsBook h readiness book → h.tells
      → IsFoundOf book.register.entries (pending_of book.pending) (opened_of h.list)
  found_now h readiness held told = spelled_of h.list (held.list told)

  pub found_after : (h : Holding) (readiness : Readiness) → HoldsBook h readiness book → (crashes_of h).tells → (found : Found)
      → (crashes_of h).may_leave found → IsFoundOf book.register.entries (pending_of book.pending) found
  found_after h readiness held told found may =
      subst (IsFoundOf book.register.entries (pending_of book.pending)) (sym may.2)
      (spelled_of may.0 (durable h readiness book.register.entries (pending_of book.pending) book.end held told.0 told.1 may.0 may.1))

pub found_between : (h k : Holding) (old new : Book) → IsRight old → IsRight new → LeavesLists (SpellsEither old new) h k → (crashes_of h).tells
    → crash.LeavesOnly
    (λ found. IsFoundOf old.register.entries (pending_of old.pending) found ⊎ IsFoundOf new.register.entries (pending_of new.pending) found)
    (crashes_of h) (crashes_of k)
found_between h k old new right_old right_new leaves told =
    let run = leaves told.0 told.1 in
    found_of_lists (SpellsEither old new)
    (λ found. IsFoundOf old.register.entries (pending_of old.pending) found ⊎ IsFoundOf new.register.entries (pending_of new.pending) found)
    h k run.0
    (λ list either. ⊎_elim (λ p. inl (spelled_of old right_old list p)) (λ p. inr (spelled_of new right_new list p)) either)
    run.1
