-- What the two queries of a keeper show of its table.
use Rattle.std.proofs.Common.{◌≡◌, ℕ, zero, suc, ◌+◌, ◌<◌, pos, Bool, true, false, List, [], ◌∷◌, ◌++◌, length, map, flat_map, cond, Some, Ok, refl, sym, ap, subst, ◌∙◌, arith, Ordering, Less, Equal, Greater, is_eq}
use Rattle.std.specs.Prelude.{slice_get, ◌&&◌, IsPermutation}
use Rattle.std.specs.Ordering.{ordering_reverse, ordering_then}
use Rattle.std.proofs.lemmas.Cmp.{tied_itself}
use Rattle.sqlite.specs.declared.types.Value.{Value}
use Rattle.sqlite.specs.declared.types.Value.TheVariants.{Null, Int, Blob}
use Rattle.sqlite.specs.Order.{Row, column}
use Rattle.sqlite.specs.Tree.{Trees, IsTable}
use Rattle.sqlite.specs.Ops.{binary, is_true, from_truth}
use Rattle.sqlite.specs.Query.{IsAnswer, Output, output, output_cmp, page}
use Rattle.sqlite.specs.Program.{overlay}
use Rattle.sqlite.specs.State.{State, Begins, Shown, QueriesRow}
use Rattle.sqlite.proofs.Callers.{begins_as, reads_as, first_as, one_permutation}
use Rattle.sqlite_keyed.proofs.ListLemmas.{ascending-map, ascending_weaker, map-map}
use Rattle.sqlite_keyed.proofs.SortLemmas.{sorted_unique}
use Rattle.sqlite_sql.proofs.QueryLemmas.{output_cmp_total}
use Rattle.sqlite_sql.specs.declared.ops.BinaryOp.TheVariants.{Compare}
use Rattle.sqlite_sql.specs.declared.ops.CompareOp.TheVariants.{Eq}
use Rattle.sqlite_value.specs.declared.keys.Collation.TheVariants.{Binary}
use Rattle.sqlite_value.specs.Order.{value_cmp}
use Rattle.sqlite_value.proofs.OrderLemmas.{value_cmp_total}
use Rattle.sql_keeper.specs.Tables.{entry_schema, rows_in, shown, list_from, list_of, rows_text, row_text}
use Rattle.sql_keeper.specs.Connections.{HasTable}
use Rattle.sql_keeper.proofs.Meanings.{rows_query, rows_is, rows_plain, row_query, row_is, row_plain}
use Rattle.sql_keeper.proofs.Rests.{rows_there}
use Rattle.sql_keeper.proofs.Rows.{number_rises, begins}

-- the rows in the order of their numbers

abbrev out : Row → Output
out row = output rows_query ([] ∷ row ∷ [])

each_row : (rows : List Row) → flat_map (λ row. ([] ∷ row ∷ []) ∷ []) rows ≡ map (λ row. [] ∷ row ∷ []) rows
each_row [] = refl
each_row (row ∷ rows) = ap (λ l. ([] ∷ row ∷ []) ∷ l) (each_row rows)

whole_answer : (db : Trees) → IsTable (db 0) → (rows : List Row) → IsAnswer rows_query (overlay db []) [] rows → rows ≡ map shown (db 0)
whole_answer db table rows a =
    let outs : a.kept ≡ map out (db 0) = a.distinct ∙ ap (map (output rows_query)) (a.grouped ∙ each_row (db 0)) ∙ map-map (output rows_query) (λ row. [] ∷ row ∷ []) (db 0) in
    let rises = ascending-map (λ x y. output_cmp rows_query x y ≡ Less) out (db 0) (ascending_weaker _ (λ x y. output_cmp rows_query (out x) (out y) ≡ Less) (λ x y low. ap (λ o. ordering_then o Equal) low) (db 0) table) in
    let ordered = sorted_unique (output_cmp rows_query) (output_cmp_total rows_query) (map out (db 0)) a.ordered rises (subst (λ k. IsPermutation k a.ordered) outs a.same) a.sorted in
    a.shown ∙ ap (λ xs. page rows_query [] (map (λ (o : Output). o.1) xs)) ordered ∙ map-map (λ (o : Output). o.1) out (db 0)

module _ (old new : State) (has : HasTable old) where
  there : rows_in old.now ≡ old.now.trees 0
  there = rows_there old.now has.1

  -- the first rows of the answer are the first of the table
  pub begun_rows : (given : List Row) → Begins rows_text [] old given → (tail : List Row) × (given ++ tail ≡ map shown (rows_in old.now))
  begun_rows given h =
      let got = (begins_as rows_text [] old new entry_schema has.1 _ rows_is.0 rows_plain rows_is.1 given h).1 in
      (got.0, whole_answer old.now.trees (subst IsTable there has.0.ascends) _ (got.1 Null) ∙ sym (ap (map shown) there))

  pub all_rows : (given : List Row) → Shown rows_text [] old new given → given ≡ map shown (rows_in old.now)
  all_rows given h =
      let got = reads_as rows_text [] old new entry_schema has.1 _ rows_is.0 rows_plain rows_is.1 given h in
      whole_answer old.now.trees (subst IsTable there has.0.ascends) _ (got.answer Null) ∙ sym (ap (map shown) there)

-- the row of a number

abbrev is_of : ℕ → Value → Bool
is_of number found = is_true (binary (Compare Eq Binary) found (Int (pos number))) && true

abbrev picked : ℕ → Row → List (List Row)
picked number row = cond (is_of number (column row 0)) (((Int (pos number) ∷ []) ∷ row ∷ []) ∷ []) []

by_order : (number other : ℕ) (o : Ordering) → value_cmp (Int (pos other)) (Int (pos number)) ≡ o → is_of number (Int (pos other)) ≡ is_eq o
unfolding binary
by_order number other Less is = ap (λ o. is_true (from_truth (Some (is_eq o))) && true) is
by_order number other Equal is = ap (λ o. is_true (from_truth (Some (is_eq o))) && true) is
by_order number other Greater is = ap (λ o. is_true (from_truth (Some (is_eq o))) && true) is

below : (number other : ℕ) → other < number → is_of number (Int (pos other)) ≡ false
below number other low = by_order number other Less (number_rises other number low)

above : (number other : ℕ) → number < other → is_of number (Int (pos other)) ≡ false
above number other high = by_order number other Greater (value_cmp_total.antisymm (Int (pos other)) (Int (pos number)) ∙ ap ordering_reverse (number_rises number other high))

same : (number : ℕ) → is_of number (Int (pos number)) ≡ true
same number = by_order number number Equal (tied_itself value_cmp_total (Int (pos number)))

none_picked : (number at : ℕ) (rows : List Row) (payloads : List (List ℕ)) → list_from at (map shown rows) ≡ Ok payloads → number < at → flat_map (picked number) rows ≡ []
none_picked number at [] payloads is high = refl
none_picked number at (row ∷ rows) payloads is high =
    let b = begins at (shown row) (map shown rows) payloads is in
    let no : is_of number (column row 0) ≡ false = ap (is_of number) b.entry.number_is ∙ above number at high in
    ap (λ t. cond t (((Int (pos number) ∷ []) ∷ row ∷ []) ∷ []) [] ++ flat_map (picked number) rows) no ∙ none_picked number (suc at) rows b.others b.behind (omega (arith, high))

one_picked : (number at i : ℕ) (rows : List Row) (payloads : List (List ℕ)) (payload : List ℕ) → list_from at (map shown rows) ≡ Ok payloads → number ≡ at + i → slice_get payloads i ≡ Some payload
    → (row : Row) × (flat_map (picked number) rows ≡ ((Int (pos number) ∷ []) ∷ row ∷ []) ∷ []) × (column row 2 ≡ Blob payload)
one_picked number at i [] payloads payload is place found = let none : [] ≡ payloads = cc in absurd (let e = rw (sym none) at found in cc)
one_picked number at zero (row ∷ rows) payloads payload is place found =
    let b = begins at (shown row) (map shown rows) payloads is in
    let here : number ≡ at = omega (arith, place) in
    let yes : is_of number (column row 0) ≡ true = ap (is_of number) (b.entry.number_is ∙ ap (λ n. Int (pos n)) (sym here)) ∙ same number in
    let first : b.first ≡ payload = let e = rw b.payloads_are at found in cc in (
      row,
      ap (λ t. cond t (((Int (pos number) ∷ []) ∷ row ∷ []) ∷ []) [] ++ flat_map (picked number) rows) yes
          ∙ ap (λ l. (((Int (pos number) ∷ []) ∷ row ∷ []) ∷ []) ++ l) (none_picked number (suc at) rows b.others b.behind (omega (arith, here))),
      b.entry.payload_is ∙ ap Blob first,
    )
one_picked number at (suc i) (row ∷ rows) payloads payload is place found =
    let b = begins at (shown row) (map shown rows) payloads is in
    let no : is_of number (column row 0) ≡ false = ap (is_of number) b.entry.number_is ∙ below number at (omega (arith, place)) in
    let more = one_picked number (suc at) i rows b.others payload b.behind (omega (arith, place)) (rw b.payloads_are at found) in
    (more.0, ap (λ t. cond t (((Int (pos number) ∷ []) ∷ row ∷ []) ∷ []) [] ++ flat_map (picked number) rows) no ∙ more.1, more.2)

has_nth : (payloads : List (List ℕ)) (i : ℕ) → i < length payloads → (payload : List ℕ) × (slice_get payloads i ≡ Some payload)
has_nth [] i low = absurd (omega (arith, low))
has_nth (first ∷ payloads) zero low = (first, refl)
has_nth (first ∷ payloads) (suc i) low = has_nth payloads i (omega (arith, low))

-- the row that is shown of a number has its payload
pub shown_row : (old new : State) → HasTable old → (number : ℕ) (row : Row) → QueriesRow row_text (Int (pos number) ∷ []) old new (Ok row) → (payloads : List (List ℕ)) (i : ℕ)
    → list_of old.now ≡ Ok payloads → number ≡ suc i → i < length payloads → (payload : List ℕ) × (slice_get payloads i ≡ Some payload) × (row ≡ Blob payload ∷ [])
shown_row old new has number row h payloads i is place low =
    let params = Int (pos number) ∷ [] in
    let db = old.now.trees in
    let nth = has_nth payloads i low in
    let rows : list_from 1 (map shown (db 0)) ≡ Ok payloads = ap (λ (l : List Row). list_from 1 (map shown l)) (sym (rows_there old.now has.1)) ∙ is in
    let one = one_picked number 1 i (db 0) payloads nth.0 rows (omega (arith, place)) nth.1 in
    let got = (first_as row_text params old new entry_schema has.1 _ row_is.0 row_plain row_is.1 row h).1 in
    let a : IsAnswer row_query (overlay db []) params (row ∷ got.0) = got.1 Null in
    let o : Output = ([], column one.0 2 ∷ []) in
    let kept : a.kept ≡ o ∷ [] = a.distinct ∙ ap (map (output row_query)) (a.grouped ∙ one.1) in
    let ordered = one_permutation o a.ordered (subst (λ k. IsPermutation k a.ordered) kept a.same) in
    let all : row ∷ got.0 ≡ (column one.0 2 ∷ []) ∷ [] = a.shown ∙ ap (λ xs. page row_query params (map (λ (p : Output). p.1) xs)) ordered in
    let first : row ≡ column one.0 2 ∷ [] = cc in
    (nth.0, nth.1, first ∙ ap (λ v. v ∷ []) one.2)
