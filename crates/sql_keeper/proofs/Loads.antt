-- What a load and a count of the rows give of a keeper's table.
use Rattle.std.proofs.Common.{◌≡◌, inl, inr, ℕ, pos, List, [], ◌∷◌, Some, Ok, Err, Result, OnOk, IsTrue, sym, ap, subst, ◌∙◌}
use Rattle.sqlite.specs.declared.types.Value.TheVariants.{Int, Blob}
use Rattle.sqlite.specs.declared.error.Error.{Error}
use Rattle.sqlite.specs.Order.{Row, column}
use Rattle.sqlite.specs.State.{State, IsUnchanged, Shown, ShowsRows, QueriesRow}
use Rattle.sqlite.specs.Listing.{understood}
use Rattle.sqlite.proofs.Callers.{IsPlain}
use Rattle.sql_keeper.specs.Tables.{entry_schema, list_of, row_text}
use Rattle.sql_keeper.specs.Connections.{IsSame, HasTable, IsPayloadOf}
use Rattle.sql_keeper.specs.declared.open_refused.OpenRefused.{OpenRefused}
use Rattle.sql_keeper.proofs.Meanings.{row_plain}
use Rattle.sql_keeper.proofs.Rests.{unchanged, not_queried}
use Rattle.sql_keeper.proofs.Queries.{shown_row}

-- a query that shows rows leaves the connection as it was
pub shows : (sql : List ℕ) (params : Row) (old new : State) (rows : List Row) → IsPlain (understood old.now.schema sql) → Shown sql params old new rows → IsUnchanged old new
unfolding Shown
shows sql params old new rows plain h =
    let none = (subst IsPlain h.1.is plain).0 in
    (subst (ShowsRows old new sql h.0 _ rows) none h.2).3

plain_by : (sql : List ℕ) (s : State) → HasTable s → IsPlain (understood entry_schema sql) → IsPlain (understood s.now.schema sql)
plain_by sql s has plain = subst (λ schema. IsPlain (understood schema sql)) (sym has.1) plain

module _ (old new : State) (number : ℕ) where
  params : Row
  params = Int (pos number) ∷ []

  pub gives : (row : Row) (payload : List ℕ) (r : Result Unit OpenRefused) → OnOk r (column row 0 ≡ Blob payload) → QueriesRow row_text (Int (pos number) ∷ []) old new (Ok row) → IsTrue new.is_open → HasTable old
      → IsSame old new × OnOk r (IsPayloadOf (list_of old.now) number payload)
  unfolding QueriesRow
  gives row payload r copied h live has = (same h, found r copied)
    where
      same : QueriesRow row_text (Int (pos number) ∷ []) old new (Ok row) → IsSame old new
      same (inl one) = unchanged old new has.0 live one.1
      same (inr all) = unchanged old new has.0 live (shows row_text (Int (pos number) ∷ []) old new all.0 (plain_by row_text old has row_plain) all.1)

      found : (r : Result Unit OpenRefused) → OnOk r (column row 0 ≡ Blob payload) → OnOk r (IsPayloadOf (list_of old.now) number payload)
      found (Err refusal) copied = tt
      found (Ok done) copied = λ payloads n is at low.
          let got = shown_row old new has number row h payloads n is at low in
          let same : payload ≡ got.0 = let e = sym copied ∙ ap (λ (r : Row). column r 0) got.2 in cc in
          got.1 ∙ ap Some (sym same)

  pub gives_nothing : (e : Error) → QueriesRow row_text (Int (pos number) ∷ []) old new (Err e) → IsTrue new.is_open → HasTable old → IsSame old new × Unit {0}
  unfolding QueriesRow
  gives_nothing e (inl failed) live has = (not_queried old new has.0 live row_text (Int (pos number) ∷ []) e failed, tt)
  gives_nothing e (inr none) live has = (unchanged old new has.0 live (shows row_text (Int (pos number) ∷ []) old new [] (plain_by row_text old has row_plain) none.1), tt)
