-- Bytes that are whole records, and what stands behind them.
use Rattle.std.proofs.Common.{◌≡◌, ℕ, suc, ◌+◌, ◌-◌, ◌/◌, ◌%◌, ◌<◌, ◌≤◌, Bool, true, false, ◌==◌, nat_lt, nat_le, List, [], ◌∷◌, ◌++◌, length, take, drop, Some, None, Ok, Err, if◌then◌else◌, refl, sym, ◌∙◌, ap, subst, arith, append_assoc, length-append, length-take, take-append-drop}
use Rattle.std.specs.Prelude.{All, IsTrue}
use Rattle.std.proofs.lemmas.List.{append-nil, take_at, drop_at}
use Rattle.std.proofs.lemmas.List.Elements.{All-head, All-tail}
use Rattle.std.proofs.lemmas.Bool.Decides.{nat_tests}
use Rattle.law_journal.specs.Grammar.{Damage, Step, ends, holds, breaks, Listing, magic, number_of, is_size, record_of, records_of, records_size, payload_at, length_at, step_at, step_list, list_from, with_first, magic_fault, list_behind, list_of}
use Rattle.law_journal.specs.Journals.{with_front, AreRecords, IsJournal}

-- one record: whatever gate and bytes stand behind these bytes, they hold the payload
pub record IsRecord (payload bytes : List ℕ) : Type 0 where
  pub first : ℕ
  pub rest : List ℕ
  pub is : bytes ≡ first ∷ rest
  pub long : length bytes ≡ 5 + length payload
  pub at : (place gate : ℕ) (behind : List ℕ) → step_at place (bytes ++ gate ∷ behind) ≡ holds payload (gate ∷ behind)

-- payloads in front of what one more makes
front_last : (payloads : List (List ℕ)) (payload : List ℕ) (listing : Listing) → with_front payloads (with_first payload listing) ≡ with_front (payloads ++ payload ∷ []) listing
front_last [] payload listing = refl
front_last (p ∷ payloads) payload listing = ap (λ (l : Listing). with_first p l) (front_last payloads payload listing)

pub front_none : (payloads : List (List ℕ)) → with_front payloads (Ok []) ≡ Ok payloads
front_none [] = refl
front_none (p ∷ payloads) = ap (λ (l : Listing). with_first p l) (front_none payloads)

pub front_damage : (payloads : List (List ℕ)) (damage : Damage) → with_front payloads (Err damage) ≡ Err damage
front_damage [] damage = refl
front_damage (p ∷ payloads) damage = ap (λ (l : Listing). with_first p l) (front_damage payloads damage)

-- the bytes of one record more
pub records_more : (payloads : List (List ℕ)) (payload : List ℕ) → records_size (payloads ++ payload ∷ []) ≡ records_size payloads + (5 + length payload)
records_more [] payload = omega arith
records_more (p ∷ payloads) payload = omega (arith, records_more payloads payload)

-- the bytes of the records of payloads behind others
pub records_join : (payloads more : List (List ℕ)) → records_size (payloads ++ more) ≡ records_size payloads + records_size more
records_join [] more = omega arith
records_join (p ∷ payloads) more = omega (arith, records_join payloads more)

-- no records
pub no_records : AreRecords [] []
no_records = λ gate behind steps.
    let one : 0 + suc steps ≡ suc steps = omega arith in
    ap (λ n. list_from n 8 (gate ∷ behind)) one

-- one record more
pub one_more : (payloads : List (List ℕ)) (bytes payload added : List ℕ) → AreRecords payloads bytes → IsRecord payload added → AreRecords (payloads ++ payload ∷ []) (bytes ++ added)
one_more payloads bytes payload added are is = λ gate behind steps.
    let there = 8 + length bytes in
    let count : length (payloads ++ payload ∷ []) + suc steps ≡ length payloads + suc (suc steps) = omega (arith, length-append payloads (payload ∷ [])) in
    let joined : (bytes ++ added) ++ gate ∷ behind ≡ bytes ++ is.first ∷ (is.rest ++ gate ∷ behind) =
    append_assoc bytes added (gate ∷ behind) ∙ ap (λ (l : List ℕ). bytes ++ (l ++ gate ∷ behind)) is.is in
    let stepped : step_at there (is.first ∷ (is.rest ++ gate ∷ behind)) ≡ holds payload (gate ∷ behind) =
    ap (λ (l : List ℕ). step_at there (l ++ gate ∷ behind)) (sym is.is) ∙ is.at there gate behind in
    let further : there + 5 + length payload ≡ 8 + length (bytes ++ added) = omega (arith, length-append bytes added, is.long) in
    ap (λ n. list_from n 8 ((bytes ++ added) ++ gate ∷ behind)) count
    ∙ ap (λ (l : List ℕ). list_from (length payloads + suc (suc steps)) 8 l) joined
    ∙ are is.first (is.rest ++ gate ∷ behind) (suc steps)
    ∙ ap (λ (s : Step). with_front payloads (step_list there s (list_from (suc steps)))) stepped
    ∙ front_last payloads payload (list_from (suc steps) (there + 5 + length payload) (gate ∷ behind))
    ∙ ap (λ place. with_front (payloads ++ payload ∷ []) (list_from (suc steps) place (gate ∷ behind))) further

-- the list of a file that is a journal up to a gate, by what stands at that gate
pub list_at : (file : List ℕ) (place gate : ℕ) (behind : List ℕ) (j : IsJournal file place (gate ∷ behind)) → 9 < length file
    → (steps : ℕ) × (list_of file ≡ with_front j.payloads (step_list place (step_at place (gate ∷ behind)) (list_from steps)))
list_at file place gate behind j long = (steps, whole)
  where
    after : List ℕ
    after = j.bytes ++ gate ∷ behind

    size : length file ≡ 8 + length j.bytes + suc (length behind)
    size = ap length j.file_is ∙ omega (arith, length-append j.bytes (gate ∷ behind))

    steps : ℕ
    steps = length file - length j.payloads - 1

    fuel : length file ≡ length j.payloads + suc steps
    fuel = omega (arith, size, j.no_more)

    is_long : nat_le (length file) 9 ≡ false
    is_long = grind (arith, nat_tests, long)

    whole : list_of file ≡ with_front j.payloads (step_list place (step_at place (gate ∷ behind)) (list_from steps))
    whole =
        ap (λ t. if t then Ok [] else list_behind (magic_fault 0 magic file) (list_from (length file) 8 (drop 8 file))) is_long
        ∙ ap (λ (f : List ℕ). list_behind (magic_fault 0 magic f) (list_from (length file) 8 (drop 8 f))) j.file_is
        ∙ ap (λ n. list_from n 8 after) fuel
        ∙ j.are_records gate behind steps
        ∙ ap (λ p. with_front j.payloads (step_list p (step_at p (gate ∷ behind)) (list_from steps))) (sym j.at_place)

-- a short file has no payloads
pub short_list : (file : List ℕ) → length file ≤ 9 → list_of file ≡ Ok []
short_list file short =
    let is_short : nat_le (length file) 9 ≡ true = grind (arith, nat_tests, short) in
    ap (λ t. if t then Ok [] else list_behind (magic_fault 0 magic file) (list_from (length file) 8 (drop 8 file))) is_short

-- a payload and the next gate are there whole
payload_there : (place n : ℕ) (payload : List ℕ) (gate : ℕ) (behind : List ℕ) → length payload ≡ n → payload_at place n (payload ++ gate ∷ behind) ≡ holds payload (gate ∷ behind)
payload_there place n payload gate behind long =
    let more = payload ++ gate ∷ behind in
    let size = length-append payload (gate ∷ behind) in
    let fits : nat_lt n (length more) ≡ true = grind (arith, nat_tests, long, size) in
    let front : take n more ≡ payload = take_at payload (gate ∷ behind) n long in
    let back : drop n more ≡ gate ∷ behind = drop_at payload (gate ∷ behind) n long in
    ap (λ t. if t then holds (take n more) (drop n more) else breaks (record { place = place + length more; byte = None })) fits
    ∙ (λ i. holds (front i) (back i))

-- a gate that is open, a length in range, and as many bytes are a record
pub record_is : (gate a b c d : ℕ) (payload : List ℕ) → (gate == 1) ≡ true → is_size (number_of a b c d) ≡ true → length payload ≡ number_of a b c d
    → IsRecord payload (gate ∷ a ∷ b ∷ c ∷ d ∷ payload)
record_is gate a b c d payload is_open in_range long = record {
  first = gate;
  rest = a ∷ b ∷ c ∷ d ∷ payload;
  is = refl;
  long = omega arith;
  at = λ place next behind.
      let more = payload ++ next ∷ behind in
      ap (λ t. if t then length_at (place + 1) (a ∷ b ∷ c ∷ d ∷ more) else ends) is_open
      ∙ ap (λ t. if t then payload_at (place + 1 + 4) (number_of a b c d) more else breaks (record { place = place + 1; byte = Some a })) in_range
      ∙ payload_there (place + 1 + 4) (number_of a b c d) payload next behind long;
}

number_back : (n : ℕ) → number_of (n / 16777216) (n / 65536 % 256) (n / 256 % 256) (n % 256) ≡ n
number_back n = omega arith

-- the record of a payload is one
pub own_record : (payload : List ℕ) → is_size (length payload) ≡ true → IsRecord payload (record_of payload)
own_record payload in_range =
    let n = length payload in
    let back : number_of (n / 16777216) (n / 65536 % 256) (n / 256 % 256) (n % 256) ≡ n = number_back n in
    record_is 1 (n / 16777216) (n / 65536 % 256) (n / 256 % 256) (n % 256) payload refl (ap is_size back ∙ in_range) (sym back)

-- the records of payloads have as many bytes as they are told to have
pub records_long : (payloads : List (List ℕ)) → length (records_of payloads) ≡ records_size payloads
records_long [] = refl
records_long (p ∷ payloads) = omega (arith, length-append (record_of p) (records_of payloads), records_long payloads)

-- which is one byte for each of them at least
pub few_records : (payloads : List (List ℕ)) → length payloads ≤ records_size payloads
few_records [] = omega arith
few_records (p ∷ payloads) = omega (arith, few_records payloads)

-- the records of more payloads
pub more_records : (more payloads : List (List ℕ)) (bytes : List ℕ) → All (λ payload. IsTrue (is_size (length payload))) more → AreRecords payloads bytes → AreRecords (payloads ++ more) (bytes ++ records_of more)
more_records [] payloads bytes sizes are =
    subst (λ (l : List (List ℕ)). AreRecords l (bytes ++ [])) (sym (append-nil payloads)) (subst (AreRecords payloads) (sym (append-nil bytes)) are)
more_records (p ∷ more) payloads bytes sizes are =
    let P = λ (payload : List ℕ). IsTrue (is_size (length payload)) in
    let one = one_more payloads bytes p (record_of p) are (own_record p (All-head P p more sizes)) in
    let rest = more_records more (payloads ++ p ∷ []) (bytes ++ record_of p) (All-tail P p more sizes) one in
    subst (λ (l : List (List ℕ)). AreRecords l (bytes ++ records_of (p ∷ more))) (append_assoc payloads (p ∷ []) more)
    (subst (AreRecords ((payloads ++ p ∷ []) ++ more)) (append_assoc bytes (record_of p) (records_of more)) rest)

-- a step over a record: the bytes are that record and what follows
pub record Holding (rest payload next : List ℕ) : Type 0 where
  pub added : List ℕ
  pub split : rest ≡ added ++ next
  pub body : drop 5 added ≡ payload
  pub in_range : is_size (length payload) ≡ true
  pub is_record : IsRecord payload added

-- a step that finds a payload finds a record
pub held : (place : ℕ) (rest payload next : List ℕ) → step_at place rest ≡ holds payload next → Holding rest payload next
held place [] payload next is = absurd (cc is)
held place (gate ∷ rest) payload next is = by_gate (gate == 1) refl
  where
    of_length : (p : ℕ) (rest : List ℕ) → (gate == 1) ≡ true → length_at p rest ≡ holds payload next → Holding (gate ∷ rest) payload next
    of_length p [] is_open is = absurd (cc is)
    of_length p (a ∷ []) is_open is = absurd (cc is)
    of_length p (a ∷ b ∷ []) is_open is = absurd (cc is)
    of_length p (a ∷ b ∷ c ∷ []) is_open is = absurd (cc is)
    of_length p (a ∷ b ∷ c ∷ d ∷ more) is_open is = by_size (is_size n) refl
      where
        n : ℕ
        n = number_of a b c d

        by_fit : (t : Bool) → nat_lt n (length more) ≡ t → is_size n ≡ true → payload_at (p + 4) n more ≡ holds payload next → Holding (gate ∷ a ∷ b ∷ c ∷ d ∷ more) payload next
        by_fit true fits in_range held_is =
            let found : holds (take n more) (drop n more) ≡ holds payload next =
            sym (ap (λ t. if t then holds (take n more) (drop n more) else breaks (record { place = p + 4 + length more; byte = None })) fits) ∙ held_is in
            let front : take n more ≡ payload = cc found in
            let back : drop n more ≡ next = cc found in
            let within : n < length more = grind (arith, nat_tests, fits) in
            let long : length payload ≡ n = sym (ap length front) ∙ omega (arith, within, length-take n more) in
            record {
              added = gate ∷ a ∷ b ∷ c ∷ d ∷ payload;
              split = ap (λ (l : List ℕ). gate ∷ a ∷ b ∷ c ∷ d ∷ l) (sym (take-append-drop n more) ∙ (λ i. front i ++ back i));
              body = refl;
              in_range = ap is_size long ∙ in_range;
              is_record = record_is gate a b c d payload is_open in_range long;
            }
        by_fit false short in_range held_is = absurd (cc (short, held_is))

        by_size : (t : Bool) → is_size n ≡ t → Holding (gate ∷ a ∷ b ∷ c ∷ d ∷ more) payload next
        by_size true in_range = by_fit (nat_lt n (length more)) refl in_range (sym (ap (λ t. if t then payload_at (p + 4) n more else breaks (record { place = p; byte = Some a })) in_range) ∙ is)
        by_size false out = absurd (cc (sym (ap (λ t. if t then payload_at (p + 4) n more else breaks (record { place = p; byte = Some a })) out) ∙ is))

    by_gate : (t : Bool) → (gate == 1) ≡ t → Holding (gate ∷ rest) payload next
    by_gate true is_open = of_length (place + 1) rest is_open (sym (ap (λ t. if t then length_at (place + 1) rest else ends) is_open) ∙ is)
    by_gate false shut = absurd (cc (sym (ap (λ t. if t then length_at (place + 1) rest else ends) shut) ∙ is))
