-- What a crash leaves of a journal.
use Rattle.std.proofs.Common.{◌≡◌, ◌≢◌, ◌⊎◌, inl, inr, ℕ, suc, ◌+◌, ◌<◌, ◌≤◌, Bool, true, false, not, ◌&&◌, ◌==◌, nat_lt, is_none, get_or, List, [], ◌∷◌, ◌++◌, length, take, drop, Some, Ok, if◌then◌else◌, refl, sym, ◌∙◌, ap, subst, arith, append_assoc, length-append, length-take, take-append-drop}
use Rattle.std.proofs.lemmas.List.{take_at, take_all, drop_all, take-take, drop_more}
use Rattle.std.proofs.lemmas.Bool.Decides.{nat_tests}
use Rattle.law_journal.specs.Disks.{Outlook, IsOutlook, Only, Idles, Gives, Cut, LeavesOnly}
use Rattle.law_journal.specs.Grammar.{ends, Listing, magic, magic_fault, length_at, step_list, list_from, list_of}
use Rattle.law_journal.specs.Journals.{with_front, IsJournal, HasEnd, Rests, IsSameList, is_started}
use Rattle.law_journal.proofs.Moments.{started, idles_on, then_runs, weaker}
use Rattle.law_journal.proofs.Records.{no_records, list_at, short_list, front_none}

-- a file that is the same up to a gate is a journal up to that gate
abbrev pub same_front : (file c : List ℕ) (place gate : ℕ) (behind : List ℕ) → IsJournal file place (gate ∷ behind) → take (place + 1) c ≡ take (place + 1) file → IsJournal c place (gate ∷ drop (place + 1) c)
same_front file c place gate behind j same =
    let head = magic ++ j.bytes ++ gate ∷ [] in
    let split : file ≡ head ++ behind = j.file_is ∙ ap (λ (l : List ℕ). magic ++ l) (sym (append_assoc j.bytes (gate ∷ []) behind)) ∙ sym (append_assoc magic (j.bytes ++ gate ∷ []) behind) in
    let size : length head ≡ place + 1 = omega (arith, j.at_place, length-append magic (j.bytes ++ gate ∷ []), length-append j.bytes (gate ∷ [])) in
    let front : take (place + 1) file ≡ head = ap (λ (l : List ℕ). take (place + 1) l) split ∙ take_at head behind (place + 1) size in
    let rest = drop (place + 1) c in
    record {
      payloads = j.payloads;
      bytes = j.bytes;
      are_records = j.are_records;
      no_more = j.no_more;
      size = j.size;
      file_is = sym (take-append-drop (place + 1) c) ∙ ap (λ (l : List ℕ). l ++ rest) (same ∙ front)
          ∙ append_assoc magic (j.bytes ++ gate ∷ []) rest ∙ ap (λ (l : List ℕ). magic ++ l) (append_assoc j.bytes (gate ∷ []) rest);
      at_place = j.at_place;
    }

-- the list of a file that is a journal up to a closed gate
pub shut_list : (file : List ℕ) (place gate : ℕ) (behind : List ℕ) (j : IsJournal file place (gate ∷ behind)) → gate ≢ 1 → list_of file ≡ Ok j.payloads
shut_list file place gate behind j shut = by_test (nat_lt 9 (length file)) refl
  where
    size : length file ≡ 8 + length j.bytes + suc (length behind)
    size = ap length j.file_is ∙ omega (arith, length-append j.bytes (gate ∷ behind))

    is_shut : (gate == 1) ≡ false
    is_shut = grind (arith, nat_tests, shut)

    listing : List (List ℕ) → Listing
    listing payloads = Ok payloads

    none : (payloads : List (List ℕ)) → length payloads ≤ 0 → listing [] ≡ Ok payloads
    none [] le = refl
    none (p ∷ payloads) le = absurd (omega (arith, le))

    by_size : (9 < length file) ⊎ (length file ≤ 9) → list_of file ≡ Ok j.payloads
    by_size (inl long) =
        let (steps, list) = list_at file place gate behind j long in
        list
        ∙ ap (λ t. with_front j.payloads (step_list place (if t then length_at (place + 1) behind else ends) (list_from steps))) is_shut
        ∙ front_none j.payloads
    by_size (inr short) = short_list file short ∙ none j.payloads (omega (arith, size, short, j.no_more))

    by_test : (t : Bool) → nat_lt 9 (length file) ≡ t → list_of file ≡ Ok j.payloads
    by_test true is = let long : 9 < length file = grind (arith, nat_tests, is) in by_size (inl long)
    by_test false is = let short : length file ≤ 9 = grind (arith, nat_tests, is) in by_size (inr short)

-- a file that is the same up to its closed gate stands for the same list
pub same_list : (file c : List ℕ) (place gate : ℕ) (behind : List ℕ) → IsJournal file place (gate ∷ behind) → gate ≢ 1 → take (place + 1) c ≡ take (place + 1) file → IsSameList file c
same_list file c place gate behind j shut same =
    shut_list c place gate (drop (place + 1) c) (same_front file c place gate behind j same) shut ∙ sym (shut_list file place gate behind j shut)

-- so does one that is cut behind it
pub cut_list : (file c : List ℕ) (place : ℕ) → HasEnd file place → Cut (place + 1) file c → IsSameList file c
cut_list file c place e cut =
    let j = e.journal in
    let size : place + 1 ≤ length file = omega (arith, ap length j.file_is, j.at_place, length-append magic (j.bytes ++ e.shut ∷ e.behind), length-append j.bytes (e.shut ∷ e.behind)) in
    let same : take (place + 1) c ≡ take (place + 1) file =
    ap (λ (l : List ℕ). take (place + 1) l) (sym cut.front) ∙ take-take (place + 1) (length c) file (omega (arith, cut.no_shorter, size)) in
    same_list file c place e.shut e.behind e.journal e.is_shut same

-- cut right behind it, it is at rest
pub cut_rests : (o n : Outlook) (place : ℕ) → HasEnd o.seen place → n.seen ≡ take (place + 1) o.seen → Only n.seen n.may_leave → Rests n place
cut_rests o n place e is durable =
    let same : take (place + 1) n.seen ≡ take (place + 1) o.seen = ap (λ (l : List ℕ). take (place + 1) l) is ∙ take-take (place + 1) (place + 1) o.seen (omega arith) in
    let short : length n.seen ≤ place + 1 = omega (arith, ap length is, length-take (place + 1) o.seen) in
    record {
      shut = e.shut;
      is_shut = e.is_shut;
      journal = subst (λ (l : List ℕ). IsJournal n.seen place (e.shut ∷ l)) (drop_all (place + 1) n.seen short) (same_front o.seen n.seen place e.shut e.behind e.journal same);
      durable = durable;
    }

-- the magic and a closed gate are a journal at rest
pub start_rests : (n : Outlook) (gate : ℕ) → gate ≢ 1 → n.seen ≡ magic ++ gate ∷ [] → Only n.seen n.may_leave → Rests n 8
start_rests n gate shut is durable = record {
  shut = gate;
  is_shut = shut;
  journal = record { payloads = []; bytes = []; are_records = no_records; no_more = omega arith; size = refl; file_is = is; at_place = refl };
  durable = durable;
}

-- a run behind an idle call, over a file that is on the disk
pub behind_idle : (o m n : Outlook) → IsOutlook o → Only o.seen o.may_leave → Idles o m → (m.tells → LeavesOnly (IsSameList m.seen) m n) → o.tells → LeavesOnly (IsSameList o.seen) o n
behind_idle o m n is only idle run t =
    let P = IsSameList o.seen in
    let first = idles_on P o o m (started P o is t (λ c left. ap list_of (only c left))) idle in
    then_runs P o m n first (weaker (IsSameList m.seen) P m n (λ c same. same ∙ ap list_of idle.seen) (run first.tells))

both_true : (a b : Bool) → (a && b) ≡ true → (a ≡ true) × (b ≡ true)
both_true true b is = (refl, is)
both_true false b is = absurd (cc is)

-- a file that shows no byte that differs begins with these bytes
none_front : (place : ℕ) (ms file : List ℕ) → is_none (magic_fault place ms file) ≡ true → take (length ms) file ≡ ms
none_front place [] file is = refl
none_front place (m ∷ ms) [] is = absurd (cc is)
none_front place (m ∷ ms) (b ∷ bs) is = by_test (b == m) refl (none_front (place + 1) ms bs)
  where
    by_test : (t : Bool) → (b == m) ≡ t → (is_none (magic_fault (place + 1) ms bs) ≡ true → take (length ms) bs ≡ ms) → take (length (m ∷ ms)) (b ∷ bs) ≡ m ∷ ms
    by_test true same go =
        let eq : b ≡ m = grind (arith, nat_tests, same) in
        let rest = go (sym (ap (λ t. is_none (if t then magic_fault (place + 1) ms bs else Some (place, Some b))) same) ∙ is) in
        λ i. eq i ∷ rest i
    by_test false other go = absurd (cc (sym (ap (λ t. is_none (if t then magic_fault (place + 1) ms bs else Some (place, Some b))) other) ∙ is))

-- a file that is the magic and a closed gate is at rest
pub started_rests : (o n : Outlook) (count : ℕ) (bytes : List ℕ) → Idles o n → Only o.seen o.may_leave → length o.seen ≤ 9 → length bytes ≡ 9 → Gives o.seen 0 count bytes → true ≡ is_started (take count bytes) → Rests n 8
started_rests o n count bytes idle only short nine gives is =
    let all : take count bytes ≡ o.seen = gives.bytes ∙ take_all count o.seen (omega (arith, gives.count, short, nine)) in
    let (sized, others) = both_true (length o.seen == 9) (is_none (magic_fault 0 magic o.seen) && not (get_or o.seen 8 0 == 1)) (sym (is ∙ ap is_started all)) in
    let (begun, shut) = both_true (is_none (magic_fault 0 magic o.seen)) (not (get_or o.seen 8 0 == 1)) others in
    let size : length o.seen ≡ 9 = grind (arith, nat_tests, sized) in
    let gate = get_or o.seen 8 0 in
    let last : drop 8 o.seen ≡ gate ∷ [] = drop_more o.seen 8 0 (omega (arith, size)) ∙ ap (λ (l : List ℕ). gate ∷ l) (drop_all 9 o.seen (omega (arith, size))) in
    let file : o.seen ≡ magic ++ gate ∷ [] = sym (take-append-drop 8 o.seen) ∙ (λ i. none_front 0 magic o.seen begun i ++ last i) in
    let not_one : gate ≢ 1 = grind (arith, nat_tests, shut) in
    start_rests n gate not_one (idle.seen ∙ file) (λ c left. only c (idle.crash c left) ∙ sym idle.seen)
