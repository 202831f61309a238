-- The walk from gate to gate.
use Rattle.std.proofs.Common.{◌≡◌, ◌≢◌, ℕ, ◌+◌, ◌<◌, Bool, true, false, nat_lt, if◌then◌else◌, Option, Some, None, List, [], ◌∷◌, ◌++◌, length, get_or, take, drop, Err, refl, sym, ◌∙◌, ap, subst, arith, append_assoc, length-append, take-append-drop}
use Rattle.std.proofs.lemmas.List.{drop_more, drop_at, drop-drop, drop-append-le, take_at}
use Rattle.law_journal.specs.Disks.{Outlook, Idles}
use Rattle.law_journal.specs.Grammar.{Step, ends, holds, breaks, magic, number_of, is_size, payload_at, length_at, step_at, step_list, list_from, list_of}
use Rattle.law_journal.specs.Journals.{with_front, IsJournal, HasEnd, found_of}
use Rattle.law_journal.specs.declared.step.Found.{Found}
use Rattle.law_journal.specs.declared.step.Found.TheVariants.{End, Entry, Broken}
use Rattle.law_journal.proofs.Records.{no_records, one_more, records_more, held, list_at, front_damage}

-- behind the magic stand no records yet
pub begins : (file : List ℕ) → take 8 file ≡ magic → IsJournal file 8 (drop 8 file)
begins file is = record {
  payloads = [];
  bytes = [];
  are_records = no_records;
  no_more = omega arith;
  size = refl;
  file_is = sym (take-append-drop 8 file) ∙ ap (λ (l : List ℕ). l ++ drop 8 file) is;
  at_place = refl;
}

-- one record more was found
abbrev pub Found_payload : Step → ℕ → Type 0
Found_payload step size = (payload : List ℕ) × (next : List ℕ) × (step ≡ holds payload next) × (length payload ≡ size)

pub of_entry : (step : Step) (size : ℕ) → Entry size ≡ found_of step → Found_payload step size
of_entry ends size is = absurd (cc is)
of_entry (holds payload next) size is = (payload, next, refl, sym (cc is))
of_entry (breaks damage) size is = absurd (cc is)

pub of_broken : (step : Step) (place : ℕ) (byte : Option ℕ) → Broken place byte ≡ found_of step → step ≡ breaks (record { place = place; byte = byte })
of_broken ends place byte is = absurd (cc is)
of_broken (holds payload next) place byte is = absurd (cc is)
of_broken (breaks damage) place byte is =
    let p : damage.place ≡ place = cc is in
    let b : damage.byte ≡ byte = cc is in
    λ i. breaks (record { place = p i; byte = b i })

pub of_end : (step : Step) → End ≡ found_of step → step ≡ ends
of_end ends is = refl
of_end (holds payload next) is = absurd (cc is)
of_end (breaks damage) is = absurd (cc is)

pub goes_on : (file : List ℕ) (place size : ℕ) → IsJournal file place (drop place file) → Entry size ≡ found_of (step_at place (drop place file)) → IsJournal file (place + (5 + size)) (drop (place + (5 + size)) file)
goes_on file place size j is =
    let (payload, next, step_is, long) = of_entry (step_at place (drop place file)) size is in
    let h = held place (drop place file) payload next step_is in
    let bytes = j.bytes ++ h.added in
    let there : place + (5 + size) ≡ 8 + length bytes = omega (arith, j.at_place, h.is_record.long, long, length-append j.bytes h.added) in
    let split : file ≡ (magic ++ bytes) ++ next =
    j.file_is ∙ ap (λ (l : List ℕ). magic ++ j.bytes ++ l) h.split ∙ ap (λ (l : List ℕ). magic ++ l) (sym (append_assoc j.bytes h.added next)) ∙ sym (append_assoc magic bytes next) in
    let rest : drop (place + (5 + size)) file ≡ next =
    ap (λ (l : List ℕ). drop (place + (5 + size)) l) split ∙ drop_at (magic ++ bytes) next (place + (5 + size)) (omega (arith, there, length-append magic bytes)) in
    record {
      payloads = j.payloads ++ payload ∷ [];
      bytes = bytes;
      are_records = one_more j.payloads j.bytes payload h.added j.are_records h.is_record;
      no_more = omega (arith, j.no_more, length-append j.payloads (payload ∷ []), length-append j.bytes h.added, h.is_record.long);
      size = omega (arith, j.size, records_more j.payloads payload, length-append j.bytes h.added, h.is_record.long);
      file_is = split ∙ append_assoc magic bytes next ∙ ap (λ (l : List ℕ). magic ++ bytes ++ l) (sym rest);
      at_place = there;
    }

-- the gate at a place in the file
gate_there : (file : List ℕ) (place : ℕ) → place < length file → drop place file ≡ get_or file place 0 ∷ drop (place + 1) file
gate_there file place within = drop_more file place 0 within

pub breaks_there : (file : List ℕ) (place at : ℕ) (byte : Option ℕ) → 9 < length file → place < length file → IsJournal file place (drop place file)
    → Broken at byte ≡ found_of (step_at place (drop place file)) → list_of file ≡ Err (record { place = at; byte = byte })
breaks_there file place at byte long within j is =
    let gate = gate_there file place within in
    let j' : IsJournal file place (get_or file place 0 ∷ drop (place + 1) file) = subst (IsJournal file place) gate j in
    let (steps, list) = list_at file place (get_or file place 0) (drop (place + 1) file) j' long in
    let step : step_at place (get_or file place 0 ∷ drop (place + 1) file) ≡ breaks (record { place = at; byte = byte }) =
    ap (step_at place) (sym gate) ∙ of_broken (step_at place (drop place file)) at byte is in
    list ∙ ap (λ s. with_front j'.payloads (step_list place s (list_from steps))) step ∙ front_damage j'.payloads (record { place = at; byte = byte })

-- a list does not end in a record
not_ended : (place : ℕ) (rest : List ℕ) → length_at place rest ≡ ends → ⊥
not_ended place [] is = absurd (cc is)
not_ended place (a ∷ []) is = absurd (cc is)
not_ended place (a ∷ b ∷ []) is = absurd (cc is)
not_ended place (a ∷ b ∷ c ∷ []) is = absurd (cc is)
not_ended place (a ∷ b ∷ c ∷ d ∷ rest) is = by_size (is_size n) refl
  where
    n : ℕ
    n = number_of a b c d

    by_fit : (t : Bool) → nat_lt n (length rest) ≡ t → payload_at (place + 4) n rest ≡ ends → ⊥
    by_fit true fits is = absurd (cc (sym (ap (λ t. if t then holds (take n rest) (drop n rest) else breaks (record { place = place + 4 + length rest; byte = None })) fits) ∙ is))
    by_fit false short is = absurd (cc (sym (ap (λ t. if t then holds (take n rest) (drop n rest) else breaks (record { place = place + 4 + length rest; byte = None })) short) ∙ is))

    by_size : (t : Bool) → is_size n ≡ t → ⊥
    by_size true fits = by_fit (nat_lt n (length rest)) refl (sym (ap (λ t. if t then payload_at (place + 4) n rest else breaks (record { place = place; byte = Some a })) fits) ∙ is)
    by_size false out = absurd (cc (sym (ap (λ t. if t then payload_at (place + 4) n rest else breaks (record { place = place; byte = Some a })) out) ∙ is))

-- a gate at which the list ends is shut
shut_gate : (place gate : ℕ) (behind : List ℕ) → step_at place (gate ∷ behind) ≡ ends → gate ≢ 1
shut_gate place gate behind is one = not_ended (place + 1) behind (ap (λ g. step_at place (g ∷ behind)) (sym one) ∙ is)

-- what is found on a disk that has idled is found on it as it was
pub as_first : (o m : Outlook) (place : ℕ) (found : Found) → Idles o m → (m.tells → found ≡ found_of (step_at place (drop place m.seen))) → o.tells → found ≡ found_of (step_at place (drop place o.seen))
as_first o m place found idle is t = is (idle.tells.0 t) ∙ ap (λ (l : List ℕ). found_of (step_at place (drop place l))) idle.seen

pub ends_there : (file : List ℕ) (place : ℕ) → place < length file → IsJournal file place (drop place file) → End ≡ found_of (step_at place (drop place file)) → HasEnd file place
ends_there file place within j is =
    let gate = gate_there file place within in
    let step : step_at place (get_or file place 0 ∷ drop (place + 1) file) ≡ ends = ap (step_at place) (sym gate) ∙ of_end (step_at place (drop place file)) is in
    record {
      shut = get_or file place 0;
      behind = drop (place + 1) file;
      is_shut = shut_gate place (get_or file place 0) (drop (place + 1) file) step;
      journal = subst (IsJournal file place) gate j;
    }

-- the payload of an entry that was found, and the step
pub entry_there : (file : List ℕ) (place size : ℕ) → Entry size ≡ found_of (step_at place (drop place file))
    → (rest : List ℕ) × (step_at place (drop place file) ≡ holds (take size (drop (place + 5) file)) rest) × (length (take size (drop (place + 5) file)) ≡ size)
entry_there file place size is =
    let (payload, next, step_is, long) = of_entry (step_at place (drop place file)) size is in
    let h = held place (drop place file) payload next step_is in
    let behind : drop (place + 5) file ≡ payload ++ next =
    sym (drop-drop 5 place file) ∙ ap (λ (l : List ℕ). drop 5 l) h.split ∙ drop-append-le 5 h.added next (omega (arith, h.is_record.long)) ∙ ap (λ (l : List ℕ). l ++ next) h.body in
    let same : take size (drop (place + 5) file) ≡ payload = ap (λ (l : List ℕ). take size l) behind ∙ take_at payload next size long in
    (next, step_is ∙ ap (λ (l : List ℕ). holds l next) (sym same), ap length same ∙ long)
