-- Steps along the rows of a keeper's table.
use Rattle.std.proofs.Common.{◌≡◌, ◌⊎◌, inl, inr, ℕ, ◌+◌, ◌-◌, Bool, true, false, List, [], ◌∷◌, ◌++◌, length, Option, None, Some, Ok, Err, Result, IsTrue, IsSome, OnErr, refl, sym, ap, subst, ◌∙◌, arith, append_assoc, length-append}
use Rattle.desk_base.specs.declared.load_fault.LoadFault.{LoadFault}
use Rattle.desk_base.specs.declared.load_fault.LoadFault.TheVariants.{Failed, Damaged, Memory}
use Rattle.law_journal.specs.Grammar.{Listing}
use Rattle.sqlite.specs.declared.error.Error.{Error}
use Rattle.sqlite.specs.Order.{Row}
use Rattle.sqlite.specs.Store.{Ghosts}
use Rattle.sqlite.specs.State.{State, HasCleanDisk, Fails, FailsToQuery, IsUnchanged}
use Rattle.sqlite.specs.Held.{Held, state}
use Rattle.sqlite.specs.Listing.{understood}
use Rattle.sqlite.specs.Given.{HasGiven, HasBegun, GivesOn, IsRefused}
use Rattle.sql_keeper.specs.Openers.{as_load_fault}
use Rattle.sqlite.proofs.Callers.{IsPlain, given_begin, begun_plain}
use Rattle.sql_keeper.specs.Tables.{entry_of, list_from, list_of, rows_text}
use Rattle.sql_keeper.specs.Connections.{IsAtRest, HasTable, IsSame, IsChecked, ChecksNext, StepsOn, Counts}
use Rattle.sql_keeper.proofs.Meanings.{rows_plain}
use Rattle.sql_keeper.proofs.Rows.{AreEntries, whole, damaged, one_more}
use Rattle.sql_keeper.proofs.Queries.{begun_rows, all_rows}
use Rattle.sql_keeper.specs.declared.open_refused.OpenRefused.{OpenRefused}
use Rattle.sql_keeper.specs.declared.open_refused.OpenRefused.TheVariants as refusal
use Rattle.sql_keeper.proofs.Rests.{unchanged, failed, still_table}

pub stuck : (old new : State) (e : Error) → IsTrue new.is_open → IsAtRest old → Fails old new ⊥ e ⊎ IsUnchanged old new → IsSame old new
stuck old new e live rest (inl fails) = failed old new rest live ⊥ e fails
stuck old new e live rest (inr same) = unchanged old new rest live same

pub stuck_open : (old new : State) (e : Error) → IsTrue new.is_open → Fails old new ⊥ e ⊎ IsUnchanged old new → IsTrue old.is_open
stuck_open old new e live (inl fails) = fails.3.was_open live
stuck_open old new e live (inr same) = same.0.was_open

module _ {S : Type 0} (g : Ghosts S) (old new : Held S) (sql : List ℕ) (params : Row) (given : List Row) (number : ℕ) where
  abbrev Next : Result Bool LoadFault → Type 0
  Next result = ChecksNext g old new sql params given number result

  pub none_next : (r : OpenRefused) (fault : LoadFault) → fault ≡ as_load_fault r → Next (Err fault)
  none_next r fault is = subst (λ (f : LoadFault). Next (Err f)) (sym is) (by r)
    where
      by : (r : OpenRefused) → Next (Err (as_load_fault r))
      by refusal.Failed = tt
      by refusal.Memory = tt

  checked_next : (row : Row) (result : Result Bool LoadFault) → HasGiven g sql params new (given ++ row ∷ []) → IsChecked number row result → Next result
  checked_next row (Ok true) has is = (row, has, is)
  checked_next row (Ok false) has is = absurd is
  checked_next row (Err Failed) has is = absurd is
  checked_next row (Err (Damaged place byte)) has is = (row, has, is)
  checked_next row (Err Memory) has is = absurd is

  pub some_next : (row : Row) (found : Option Row) (result : Result Bool LoadFault) → Some row ≡ found → GivesOn g sql params old new given found → IsChecked number row result → Next result
  some_next row found result is on checked = checked_next row result (subst (λ (o : Option Row). GivesOn g sql params old new given o) (sym is) on) checked

  pub end_next : (found : Option Row) → None ≡ found → GivesOn g sql params old new given found → Next (Ok false)
  end_next found is on = subst (λ (o : Option Row). GivesOn g sql params old new given o) (sym is) on

is_some_is : (o : Option (List ℕ)) → IsSome o → (payload : List ℕ) × (o ≡ Some payload)
is_some_is None is = absurd (cc)
is_some_is (Some payload) is = (payload, refl)

-- how far a count has come: the rows that were given are the entries of the numbers from 1 on
pub record HasWalked {S : Type 0} (g : Ghosts S) (first now : Held S) (number : ℕ) : Type 0 where
  pub same : IsSame (state g first) (state g now)
  pub given : List Row
  pub has : HasGiven g rows_text [] now given
  pub entries : AreEntries 1 given
  pub count : 1 + length given ≡ number

abbrev pub Walks : {S : Type 0} → Ghosts S → Held S → Held S → ℕ → Type 0
Walks g first now number = IsTrue (state g now).is_open → HasTable (state g first) → HasWalked g first now number

-- what a statement leaves after one that left the same
same_then : (a b c : State) → IsSame a b → IsSame b c → IsSame a c
same_then a b c first second = (second.0, second.1 ∙ first.1)

module _ {S : Type 0} (g : Ghosts S) (first now next : Held S) (number : ℕ) (walks : Walks g first now number) (back : IsTrue (state g next).is_open → IsTrue (state g now).is_open) where
  -- one step more
  pub walked_on : StepsOn g now next number (Ok true) → Walks g first next (number + 1)
  walked_on step live has =
      let far = walks (back live) has in
      let on = step live far.same.0 in
      let entry = on.1 rows_text [] far.given far.has in
      let at : entry_of (1 + length far.given) entry.0 ≡ entry_of number entry.0 = ap (λ n. entry_of n entry.0) far.count in
      let payload = is_some_is (entry_of number entry.0) entry.2 in
      record {
        same = same_then (state g first) (state g now) (state g next) far.same on.0;
        given = far.given ++ entry.0 ∷ [];
        has = entry.1;
        entries = one_more 1 far.given entry.0 payload.0 far.entries (at ∙ payload.1);
        count = omega (arith, far.count, length-append far.given (entry.0 ∷ []));
      }

  -- the end, or a failure
  pub walked_to_end : StepsOn g now next number (Ok false) → IsTrue (state g next).is_open → HasTable (state g first) → IsSame (state g first) (state g next) × Counts (list_of (state g first).now) (Ok (number - 1))
  walked_to_end step live has =
      let far = walks (back live) has in
      let on = step live far.same.0 in
      let there = still_table (state g first) (state g now) has far.same in
      let all = all_rows (state g now) (state g next) there far.given (on.1 rows_text [] far.given far.has) in
      let list = whole 1 far.given far.entries in (
        same_then (state g first) (state g now) (state g next) far.same on.0,
        (list.0, ap list_of (sym far.same.1) ∙ ap (list_from 1) (sym all) ∙ list.1, omega (arith, far.count, list.2)),
      )

  pub walked_to_fault : (fault : LoadFault) → StepsOn g now next number (Err fault) → IsTrue (state g next).is_open → HasTable (state g first) → IsSame (state g first) (state g next) × Counts (list_of (state g first).now) (Err fault)
  walked_to_fault fault step live has =
      let far = walks (back live) has in
      let on = step live far.same.0 in
      let there = still_table (state g first) (state g now) has far.same in
      (same_then (state g first) (state g now) (state g next) far.same on.0, told fault there far on.0 (on.1 rows_text [] far.given far.has))
    where
      told : (fault : LoadFault) → HasTable (state g now) → (far : HasWalked g first now number) → IsSame (state g now) (state g next) → ChecksNext g now next rows_text [] far.given number (Err fault) → Counts (list_of (state g first).now) (Err fault)
      told Failed there far same found = tt
      told (Damaged place byte) there far same found =
          let later = still_table (state g now) (state g next) there same in
          let begun = begun_rows (state g next) (state g next) later (far.given ++ found.0 ∷ []) (given_begin g rows_text [] next (far.given ++ found.0 ∷ []) found.1) in
          let none : entry_of (1 + length far.given) found.0 ≡ None = ap (λ n. entry_of n found.0) far.count ∙ found.2.0 in
          ap list_of (sym far.same.1 ∙ sym same.1) ∙ ap (list_from 1) (sym begun.1 ∙ append_assoc far.given (found.0 ∷ []) begun.0) ∙ damaged 1 far.given found.0 begun.0 far.entries none
          ∙ ap (λ (n : ℕ). Err (record { place = n; byte = None })) (far.count ∙ sym found.2.1) ∙ ap (λ (b : Option ℕ). Err (record { place = place; byte = b })) (sym found.2.2)
      told Memory there far same found = tt

-- the first step, and a query that is refused
pub begun : {S : Type 0} (g : Ghosts S) (first now : Held S) → (IsTrue (state g now).is_open → HasBegun g rows_text [] first now) → Walks g first now 1
begun g first now starts = λ live has.
    let plain : IsPlain (understood first.schema rows_text) = subst (λ schema. IsPlain (understood schema rows_text)) (sym has.1) rows_plain in
    let it = begun_plain g rows_text [] first now plain (starts live) in
    record { same = unchanged (state g first) (state g now) has.0 live it.1; given = []; has = it.0; entries = tt; count = refl }

pub none_counted : (listing : Listing) (r : OpenRefused) (fault : LoadFault) → fault ≡ as_load_fault r → Counts listing (Err fault)
none_counted listing r fault is = subst (λ (f : LoadFault). Counts listing (Err f)) (sym is) (by r)
  where
    by : (r : OpenRefused) → Counts listing (Err (as_load_fault r))
    by refusal.Failed = tt
    by refusal.Memory = tt

pub refused_query : {S X : Type 0} (g : Ghosts S) (sql : List ℕ) (params : Row) (old new : Held S) (e : Error) (r : Result X Error) → r ≡ Err e → OnErr r (IsRefused g sql params old r new) → HasCleanDisk (state g new)
    → FailsToQuery sql params (state g old) (state g new) e
refused_query {X = X} g sql params old new e r is holds clean =
    let failed : Result X Error = Err e in
    let it : IsRefused g sql params old failed new = subst (λ (r : Result X Error). OnErr r (IsRefused g sql params old r new)) is holds in it.err clean
