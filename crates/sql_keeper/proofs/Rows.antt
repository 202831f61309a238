-- Rows that stand for a list, and the row that is put behind them.
use Rattle.std.proofs.Common.{◌≡◌, ℕ, suc, ◌+◌, ◌<◌, pos, negsuc, Bool, true, false, IsTrue, List, [], ◌∷◌, ◌++◌, length, map, Option, Some, None, Ok, Err, refl, sym, ap, subst, ◌∙◌, arith, Less, int_cmp}
use Rattle.std.specs.Prelude.{if◌then◌else◌}
use Rattle.std.specs.Ordering.{match_ordering}
use Rattle.std.specs.List.{AllByRecursion}
use Rattle.std.proofs.lemmas.List.Elements.{All-from_recursion}
use Rattle.std.proofs.lemmas.Bool.{eqb-true, eq-eqb}
use Rattle.std.proofs.lemmas.Int.{ints}
use Rattle.law_journal.specs.Grammar.{Listing, is_size, with_first}
use Rattle.law_keeper.specs.Keepers.{HaveSizes}
use Rattle.sqlite.specs.declared.types.Value.{Value}
use Rattle.sqlite.specs.declared.types.Value.TheVariants.{Null, Int, Real, Text, Blob}
use Rattle.sqlite.specs.Order.{Row, column}
use Rattle.sqlite.specs.Tree.{put_row}
use Rattle.sqlite_value.specs.Order.{value_cmp}
use Rattle.sqlite_value.proofs.OrderLemmas.{value_cmp-Int}
use Rattle.sql_keeper.specs.Tables.{stored, shown, payload_in, is_number, entry_of, listed, list_from}

number_in : (number : ℕ) (found : Value) → is_number number found ≡ true → found ≡ Int (pos number)
number_in number Null is = absurd (cc)
number_in number (Int (pos n)) is = ap (λ m. Int (pos m)) (eqb-true n number is)
number_in number (Int (negsuc n)) is = absurd (cc)
number_in number (Real x) is = absurd (cc)
number_in number (Text t) is = absurd (cc)
number_in number (Blob b) is = absurd (cc)

bytes_in : (found : Value) (payload : List ℕ) → payload_in found ≡ Some payload → (found ≡ Blob payload) × IsTrue (is_size (length payload))
bytes_in Null payload is = absurd (cc)
bytes_in (Int n) payload is = absurd (cc)
bytes_in (Real x) payload is = absurd (cc)
bytes_in (Text t) payload is = absurd (cc)
bytes_in (Blob b) payload is = go (is_size (length b)) refl is
  where
    go : (t : Bool) → is_size (length b) ≡ t → (if t then Some b else None) ≡ Some payload → (Blob b ≡ Blob payload) × IsTrue (is_size (length payload))
    go true sized same = let e : b ≡ payload = cc in (ap Blob e, ap (λ (p : List ℕ). is_size (length p)) (sym e) ∙ sized)
    go false sized same = absurd (cc)

-- what a row shows that is the entry of a number
pub record IsEntry (number : ℕ) (row : Row) (payload : List ℕ) : Type 0 where
  pub number_is : column row 0 ≡ Int (pos number)
  pub payload_is : column row 1 ≡ Blob payload
  pub sized : IsTrue (is_size (length payload))

pub is_entry : (number : ℕ) (row : Row) (payload : List ℕ) → entry_of number row ≡ Some payload → IsEntry number row payload
is_entry number row payload is = go (is_number number (column row 0)) refl is
  where
    go : (t : Bool) → is_number number (column row 0) ≡ t → (if t then payload_in (column row 1) else None) ≡ Some payload → IsEntry number row payload
    go true same found = let b = bytes_in (column row 1) payload found in record { number_is = number_in number (column row 0) same; payload_is = b.0; sized = b.1 }
    go false same found = absurd (cc)

-- the first of rows that stand for a list
pub record Begins (number : ℕ) (row : Row) (rows : List Row) (payloads : List (List ℕ)) : Type 0 where
  pub first : List ℕ
  pub others : List (List ℕ)
  pub payloads_are : payloads ≡ first ∷ others
  pub found : entry_of number row ≡ Some first
  pub entry : IsEntry number row first
  pub behind : list_from (suc number) rows ≡ Ok others

pub begins : (number : ℕ) (row : Row) (rows : List Row) (payloads : List (List ℕ)) → list_from number (row ∷ rows) ≡ Ok payloads → Begins number row rows payloads
begins number row rows payloads is = go (entry_of number row) (list_from (suc number) rows) refl refl is
  where
    go : (e : Option (List ℕ)) (l : Listing) → entry_of number row ≡ e → list_from (suc number) rows ≡ l → listed number e l ≡ Ok payloads → Begins number row rows payloads
    go None l found behind same = absurd (cc)
    go (Some p) (Err damage) found behind same = absurd (cc)
    go (Some p) (Ok ps) found behind same = let e : p ∷ ps ≡ payloads = cc in record { first = p; others = ps; payloads_are = sym e; found = found; entry = is_entry number row p found; behind = behind }

-- numbers are in order as values
int_rises : (a b : ℕ) → a < b → int_cmp (pos a) (pos b) ≡ Less
int_rises a b low = grind (arith, ints)

pub number_rises : (a b : ℕ) → a < b → value_cmp (Int (pos a)) (Int (pos b)) ≡ Less
number_rises a b low = value_cmp-Int (pos a) (pos b) ∙ int_rises a b low

-- such rows have the numbers from one on, so that a row of the next number is put behind them
pub put_behind : (number : ℕ) (rows : List Row) (payloads : List (List ℕ)) (next : ℕ) (payload : List ℕ) → list_from number (map shown rows) ≡ Ok payloads
    → next ≡ number + length payloads → put_row (stored next payload) rows ≡ rows ++ stored next payload ∷ []
put_behind number [] payloads next payload is at = refl
put_behind number (row ∷ rows) payloads next payload is at =
    let b = begins number (shown row) (map shown rows) payloads is in
    let more : length payloads ≡ suc (length b.others) = ap length b.payloads_are in
    let low : number < next = omega (arith, at, more) in
    let below : value_cmp (column row 0) (Int (pos next)) ≡ Less = ap (λ v. value_cmp v (Int (pos next))) b.entry.number_is ∙ number_rises number next low in
    ap (λ o. match_ordering o (row ∷ put_row (stored next payload) rows) (stored next payload ∷ rows) (stored next payload ∷ row ∷ rows)) below
    ∙ ap (λ (l : List Row). row ∷ l) (put_behind (suc number) rows b.others next payload b.behind (omega (arith, at, more)))

-- the list with the payload behind it
pub listed_behind : (number : ℕ) (rows : List Row) (payloads : List (List ℕ)) (next : ℕ) (payload : List ℕ) → list_from number rows ≡ Ok payloads → next ≡ number + length payloads
    → IsTrue (is_size (length payload)) → list_from number (rows ++ shown (stored next payload) ∷ []) ≡ Ok (payloads ++ payload ∷ [])
listed_behind number [] payloads next payload is at sized =
    let none : payloads ≡ [] = cc in
    let same : next ≡ number = omega (arith, at, ap length none) in
    ap (λ t. listed number (if t then (if is_size (length payload) then Some payload else None) else None) (Ok [])) (eq-eqb next number same)
    ∙ ap (λ t. listed number (if t then Some payload else None) (Ok [])) sized
    ∙ ap (λ (ps : List (List ℕ)). Ok (ps ++ payload ∷ [])) (sym none)
listed_behind number (row ∷ rows) payloads next payload is at sized =
    let b = begins number row rows payloads is in
    let more : length payloads ≡ suc (length b.others) = ap length b.payloads_are in
    let behind = listed_behind (suc number) rows b.others next payload b.behind (omega (arith, at, more)) sized in
    ap (λ e. listed number e (list_from (suc number) (rows ++ shown (stored next payload) ∷ []))) b.found
    ∙ ap (with_first b.first) behind
    ∙ ap (λ (ps : List (List ℕ)). Ok (ps ++ payload ∷ [])) (sym b.payloads_are)

-- each payload of a list has a size in range
pub have_sizes : (number : ℕ) (rows : List Row) (payloads : List (List ℕ)) → list_from number rows ≡ Ok payloads → HaveSizes payloads
have_sizes number rows payloads is = All-from_recursion _ payloads (each number rows payloads is)
  where
    each : (number : ℕ) (rows : List Row) (payloads : List (List ℕ)) → list_from number rows ≡ Ok payloads → AllByRecursion (λ (payload : List ℕ). IsTrue (is_size (length payload))) payloads
    each number [] payloads is = let none : [] ≡ payloads = cc in subst (AllByRecursion (λ (payload : List ℕ). IsTrue (is_size (length payload)))) none tt
    each number (row ∷ rows) payloads is =
        let b = begins number row rows payloads is in
        subst (AllByRecursion (λ (payload : List ℕ). IsTrue (is_size (length payload)))) (sym b.payloads_are) (b.entry.sized, each (suc number) rows b.others b.behind)

-- rows that are the entries of the numbers from one on
abbrev pub AreEntries : ℕ → List Row → Type 0
AreEntries number [] = Unit {0}
AreEntries number (row ∷ rows) = ((payload : List ℕ) × (entry_of number row ≡ Some payload)) × AreEntries (suc number) rows

-- they stand for a list of as many payloads
pub whole : (number : ℕ) (rows : List Row) → AreEntries number rows → (payloads : List (List ℕ)) × (list_from number rows ≡ Ok payloads) × (length payloads ≡ length rows)
whole number [] are = ([], refl, refl)
whole number (row ∷ rows) are =
    let more = whole (suc number) rows are.1 in
    (are.0.0 ∷ more.0, ap (λ e. listed number e (list_from (suc number) rows)) are.0.1 ∙ ap (with_first are.0.0) more.1, ap suc more.2)

-- and the first behind them that is none is the damage
pub damaged : (number : ℕ) (rows : List Row) (row : Row) (behind : List Row) → AreEntries number rows → entry_of (number + length rows) row ≡ None
    → list_from number (rows ++ row ∷ behind) ≡ Err (record { place = number + length rows; byte = None })
damaged number [] row behind are none =
    let at : number + 0 ≡ number = omega arith in
    ap (λ e. listed number e (list_from (suc number) behind)) (ap (λ n. entry_of n row) (sym at) ∙ none) ∙ ap (λ n. Err (record { place = n; byte = None })) (sym at)
damaged number (first ∷ rows) row behind are none =
    let at : number + suc (length rows) ≡ suc number + length rows = omega arith in
    ap (λ e. listed number e (list_from (suc number) (rows ++ row ∷ behind))) are.0.1
    ∙ ap (with_first are.0.0) (damaged (suc number) rows row behind are.1 (ap (λ n. entry_of n row) (sym at) ∙ none))
    ∙ ap (λ n. Err (record { place = n; byte = None })) (sym at)

-- one entry more
pub one_more : (number : ℕ) (rows : List Row) (row : Row) (payload : List ℕ) → AreEntries number rows → entry_of (number + length rows) row ≡ Some payload → AreEntries number (rows ++ row ∷ [])
one_more number [] row payload are is = let at : number + 0 ≡ number = omega arith in ((payload, ap (λ n. entry_of n row) (sym at) ∙ is), tt)
one_more number (first ∷ rows) row payload are is =
    let at : number + suc (length rows) ≡ suc number + length rows = omega arith in
    (are.0, one_more (suc number) rows row payload are.1 (ap (λ n. entry_of n row) (sym at) ∙ is))
