-- A file at rest, said by equations, and by its records.
use Rattle.std.proofs.Common.{◌≡◌, ◌≢◌, inl, inr, ℕ, zero, suc, ◌+◌, ◌<◌, ◌≤◌, ◌^◌, Bool, true, false, ◌==◌, nat_le, get_or, if◌then◌else◌, List, [], ◌∷◌, ◌++◌, length, take, drop, Option, Some, None, Result, Ok, Err, refl, sym, ◌∙◌, ap, subst, arith, append_assoc, length-append, take-append-drop}
use Rattle.std.proofs.lemmas.List.{drop_more, drop_all}
use Rattle.std.proofs.Math.Seq.{get_or-append_seam}
use Rattle.std.proofs.lemmas.Bool.Decides.{nat_tests}
use Rattle.desk_base.specs.declared.load_fault.LoadFault.{LoadFault}
use Rattle.desk_base.specs.declared.load_fault.LoadFault.TheVariants.{Failed, Damaged, Memory}
use Rattle.law_journal.specs.Disks.{Outlook, Only, Idles}
use Rattle.law_journal.specs.Grammar.{Step, ends, holds, breaks, Listing, magic, magic_fault, list_behind, records_size, end_of, gate_number, length_at, step_at, step_list, list_from, list_of, with_first}
use Rattle.law_journal.specs.Journals.{with_front, IsJournal, Rests, HasList, GivesEntry, GivesListed, GivesNth, found_of}
use Rattle.law_journal.specs.States.{EndsAt, IsKnown}
use Rattle.law_journal.specs.Windows.{IsWindow}
use Rattle.law_journal.specs.declared.window.Window.{Window}
use Rattle.law_journal.specs.declared.step.Found.TheVariants.{Entry}
use Rattle.law_journal.proofs.Records.{front_none}
use Rattle.law_journal.proofs.Scans.{begins, goes_on}
use Rattle.law_journal.proofs.Crash.{shut_list, start_rests}
use Rattle.law_journal.proofs.Lists.{sizes_from, first_gate, last_gate, gate_within, NthStep, nth_step, next_there}

not_one : (gate : ℕ) → gate ≢ 1 → (gate == 1) ≡ false
not_one gate shut = grind (arith, nat_tests, shut)

is_other : (gate : ℕ) → (gate == 1) ≡ false → gate ≢ 1
is_other gate other = grind (arith, nat_tests, other)

-- a walk over a file at rest comes to the end of its list
walks : (o : Outlook) (gate : ℕ) (r : Rests o gate) → list_from (suc (length r.journal.payloads)) 8 (drop 8 o.seen) ≡ Ok r.journal.payloads
walks o gate r =
    let j = r.journal in
    let count : suc (length j.payloads) ≡ length j.payloads + suc zero = omega arith in
    ap (λ (l : List ℕ). list_from (suc (length j.payloads)) 8 (drop 8 l)) j.file_is
    ∙ ap (λ n. list_from n 8 (j.bytes ++ r.shut ∷ [])) count
    ∙ j.are_records r.shut [] zero
    ∙ ap (λ t. with_front j.payloads (step_list (8 + length j.bytes) (if t then length_at (8 + length j.bytes + 1) [] else ends) (list_from zero))) (not_one r.shut r.is_shut)
    ∙ front_none j.payloads

pub has_list : (o : Outlook) (gate : ℕ) → gate + 1 < 2 ^ 63 → Rests o gate → HasList o gate
has_list o gate bound r =
    let j = r.journal in
    record {
      bound = bound;
      payloads = j.payloads;
      is_list = shut_list o.seen gate r.shut [] j r.is_shut;
      sizes = sizes_from (suc (length j.payloads)) 8 (drop 8 o.seen) j.payloads (walks o gate r);
      size = omega (arith, j.at_place, j.size);
      first = first_gate 8 j.payloads;
      end = last_gate 8 j.payloads gate (omega (arith, j.at_place, j.size));
      durable = r.durable;
    }

-- what is read at a gate is what the list has there
read_there : (payloads : List (List ℕ)) (n place : ℕ) (step : Step) → NthStep payloads 8 n place step → (result : Result (Option (List ℕ × ℕ)) LoadFault) → GivesEntry place step result → GivesNth payloads n result
read_there payloads n place step (inl end) (Ok None) read = end.0
read_there payloads n place step (inl end) (Ok (Some entry)) read = absurd (cc (end.1, read.0.1))
read_there payloads n place step (inl end) (Err Failed) read = tt
read_there payloads n place step (inl end) (Err (Damaged at byte)) read = absurd (cc (end.1, read))
read_there payloads n place step (inl end) (Err Memory) read = tt
read_there payloads n place step (inr (payload, rest, is, nth, next)) (Ok None) read = absurd (cc (is, read))
read_there payloads n place step (inr (payload, rest, is, nth, next)) (Ok (Some entry)) read =
    let both : holds payload rest ≡ holds entry.0 read.0.0 = sym is ∙ read.0.1 in
    let same : payload ≡ entry.0 = cc both in
    (nth ∙ ap Some same, ap (λ p. gate_number 8 payloads p) (read.1 ∙ ap (λ (l : List ℕ). place + 5 + length l) (sym same)) ∙ next)
read_there payloads n place step (inr (payload, rest, is, nth, next)) (Err Failed) read = tt
read_there payloads n place step (inr (payload, rest, is, nth, next)) (Err (Damaged at byte)) read = absurd (cc (is, read))
read_there payloads n place step (inr (payload, rest, is, nth, next)) (Err Memory) read = tt

pub given : (o : Outlook) (gate : ℕ) → Rests o gate → (place : ℕ) (result : Result (Option (List ℕ × ℕ)) LoadFault) → GivesEntry place (step_at place (drop place o.seen)) result → GivesListed o.seen place result
given o gate r place result read = λ payloads n is at.
    let j = r.journal in
    let both : Ok payloads ≡ Ok j.payloads = sym is ∙ shut_list o.seen gate r.shut [] j r.is_shut in
    let same : payloads ≡ j.payloads = cc both in
    let walk = subst (λ (l : List (List ℕ)). list_from (suc (length l)) 8 (drop 8 o.seen) ≡ Ok l) (sym same) (walks o gate r) in
    read_there payloads n place (step_at place (drop place o.seen)) (nth_step payloads 8 o.seen walk place n at) result read

pub ends_at : (o : Outlook) (gate : ℕ) → Rests o gate → EndsAt o.seen gate
ends_at o gate r =
    let j = r.journal in
    let split : o.seen ≡ (magic ++ j.bytes) ++ r.shut ∷ [] = j.file_is ∙ sym (append_assoc magic j.bytes (r.shut ∷ [])) in
    let size : gate ≡ length (magic ++ j.bytes) = omega (arith, j.at_place, length-append magic j.bytes) in
    let last : get_or o.seen gate 0 ≡ r.shut = (λ i. get_or (split i) (size i) 0) ∙ get_or-append_seam (magic ++ j.bytes) r.shut [] 0 in
    record {
      begins = ap (λ (l : List ℕ). take 8 l) j.file_is;
      end = ap end_of (shut_list o.seen gate r.shut [] j r.is_shut) ∙ ap Some (omega (arith, j.at_place, j.size));
      last = ap length j.file_is ∙ omega (arith, j.at_place, length-append magic (j.bytes ++ r.shut ∷ []), length-append j.bytes (r.shut ∷ []));
      is_shut = ap (λ n. n == 1) last ∙ not_one r.shut r.is_shut;
    }

-- a walk that comes to the end of a list goes over whole records
walked_to : (file : List ℕ) (steps place : ℕ) (payloads : List (List ℕ)) → IsJournal file place (drop place file) → list_from steps place (drop place file) ≡ Ok payloads → length file < place + steps
    → place + records_size payloads < length file → IsJournal file (place + records_size payloads) (drop (place + records_size payloads) file)
walked_to file zero place payloads j walk enough within = absurd (omega (arith, enough, within))
walked_to file (suc steps) place payloads j walk enough within = by_step (λ p l at on far in_file. walked_to file steps p l at on far in_file) (step_at place (drop place file)) refl walk
  where
    Rest : Type 0
    Rest = (p : ℕ) (l : List (List ℕ)) → IsJournal file p (drop p file) → list_from steps p (drop p file) ≡ Ok l → length file < p + steps → p + records_size l < length file → IsJournal file (p + records_size l) (drop (p + records_size l) file)

    Goal : List (List ℕ) → Type 0
    Goal l = IsJournal file (place + records_size l) (drop (place + records_size l) file)

    none : Goal []
    none = let here : place ≡ place + 0 = omega arith in subst (λ p. IsJournal file p (drop p file)) here j

    by_rest : Rest → (payload next : List ℕ) → step_at place (drop place file) ≡ holds payload next → (listing : Listing) → list_from steps (place + 5 + length payload) next ≡ listing → with_first payload listing ≡ Ok payloads → Goal payloads
    by_rest further payload next at (Ok others) go is =
        let all : payload ∷ others ≡ payloads = cc is in
        let far : place + 5 + length payload ≡ place + (5 + length payload) = omega arith in
        let there : drop (place + 5 + length payload) file ≡ next = next_there file place payload next at in
        let size : records_size payloads ≡ 5 + length payload + records_size others = ap records_size (sym all) in
        let found : Entry (length payload) ≡ found_of (step_at place (drop place file)) = ap found_of (sym at) in
        let on : list_from steps (place + (5 + length payload)) (drop (place + (5 + length payload)) file) ≡ Ok others =
        ap (λ p. list_from steps p (drop p file)) (sym far) ∙ ap (λ (l : List ℕ). list_from steps (place + 5 + length payload) l) there ∙ go in
        let end = further (place + (5 + length payload)) others (goes_on file place (length payload) j found) on (omega (arith, enough)) (omega (arith, within, size)) in
        let reached : place + (5 + length payload) + records_size others ≡ place + records_size payloads = omega (arith, size) in
        subst (λ p. IsJournal file p (drop p file)) reached end
    by_rest further payload next at (Err damage) go is = absurd (cc is)

    by_step : Rest → (step : Step) → step_at place (drop place file) ≡ step → step_list place step (list_from steps) ≡ Ok payloads → Goal payloads
    by_step further ends at is = let empty : [] ≡ payloads = cc is in subst Goal empty none
    by_step further (holds payload next) at is = by_rest further payload next at (list_from steps (place + 5 + length payload) next) refl is
    by_step further (breaks damage) at is = absurd (cc is)

-- the last byte of a file
last_byte : (file : List ℕ) (gate : ℕ) → length file ≡ gate + 1 → drop gate file ≡ get_or file gate 0 ∷ []
last_byte file gate size = drop_more file gate 0 (omega (arith, size)) ∙ ap (λ (l : List ℕ). get_or file gate 0 ∷ l) (drop_all (gate + 1) file (omega (arith, size)))

pub rests_of : (o : Outlook) (gate : ℕ) → EndsAt o.seen gate → Only o.seen o.may_leave → Rests o gate
rests_of o gate e durable = by_listing (list_of o.seen) refl e.end
  where
    file : List ℕ
    file = o.seen

    shut : ℕ
    shut = get_or file gate 0

    short : gate ≡ 8 → Rests o gate
    short is =
        let split : file ≡ magic ++ shut ∷ [] = sym (take-append-drop 8 file) ∙ (λ i. e.begins i ++ drop (sym is i) file) ∙ ap (λ (l : List ℕ). magic ++ l) (last_byte file gate e.last) in
        subst (Rests o) (sym is) (start_rests o shut (is_other shut e.is_shut) split durable)

    long : (payloads : List (List ℕ)) → 9 < length file → 8 + records_size payloads ≡ gate → list_from (length file) 8 (drop 8 file) ≡ Ok payloads → Rests o gate
    long payloads many end walk =
        let journal = walked_to file (length file) 8 payloads (begins file e.begins) walk (omega arith) (omega (arith, end, e.last)) in
        record {
          shut = shut;
          is_shut = is_other shut e.is_shut;
          journal = subst (λ (l : List ℕ). IsJournal file gate l) (last_byte file gate e.last) (subst (λ p. IsJournal file p (drop p file)) end journal);
          durable = durable;
        }

    by_fault : (payloads : List (List ℕ)) → (fault : Option (ℕ × Option ℕ)) → 9 < length file → 8 + records_size payloads ≡ gate → list_behind fault (list_from (length file) 8 (drop 8 file)) ≡ Ok payloads → Rests o gate
    by_fault payloads None many end is = long payloads many end is
    by_fault payloads (Some fault) many end is = absurd (cc is)

    by_size : (payloads : List (List ℕ)) (t : Bool) → nat_le (length file) 9 ≡ t → 8 + records_size payloads ≡ gate → list_of file ≡ Ok payloads → Rests o gate
    by_size payloads true few end is =
        let le : length file ≤ 9 = grind (arith, nat_tests, few) in
        short (omega (arith, le, e.last, end))
    by_size payloads false more end is =
        let many : 9 < length file = grind (arith, nat_tests, more) in
        by_fault payloads (magic_fault 0 magic file) many end (sym (ap (λ t. if t then Ok [] else list_behind (magic_fault 0 magic file) (list_from (length file) 8 (drop 8 file))) more) ∙ is)

    by_listing : (listing : Listing) → list_of file ≡ listing → end_of listing ≡ Some gate → Rests o gate
    by_listing (Ok payloads) is end = let there : 8 + records_size payloads ≡ gate = cc end in by_size payloads (nat_le (length file) 9) refl there is
    by_listing (Err damage) is end = absurd (cc end)

-- what is known of a disk whose file is at rest
pub known : (o : Outlook) (window : Window) (gate : ℕ) → 8 ≤ gate → gate + 1 < 2 ^ 63 → IsWindow o window → (o.tells → Rests o gate) → IsKnown o window gate
known o window gate first bound piece rests = record {
  first = first;
  bound = bound;
  piece = piece;
  ends = λ t. ends_at o gate (rests t);
  durable = λ t. (rests t).durable;
}

pub rests_known : (o : Outlook) (window : Window) (gate : ℕ) → IsKnown o window gate → o.tells → Rests o gate
rests_known o window gate k t = rests_of o gate (k.ends t) (k.durable t)

pub listed : (o : Outlook) (window : Window) (gate : ℕ) → IsKnown o window gate → o.tells → HasList o gate
listed o window gate k t = has_list o gate k.bound (rests_known o window gate k t)

-- it stays known while the disk idles
pub idle_known : (o n : Outlook) (before after : Window) (gate : ℕ) → Idles o n → IsKnown o before gate → IsWindow n after → IsKnown n after gate
idle_known o n before after gate idle k piece = record {
  first = k.first;
  bound = k.bound;
  piece = piece;
  ends = λ t. subst (λ (l : List ℕ). EndsAt l gate) (sym idle.seen) (k.ends (idle.tells.1 t));
  durable = λ t c left. k.durable (idle.tells.1 t) c (idle.crash c left) ∙ sym idle.seen;
}

-- the places of gates are below 2^63
pub gate_bound : (o : Outlook) (gate : ℕ) → HasList o gate → (payloads : List (List ℕ)) (place n : ℕ) → list_of o.seen ≡ Ok payloads → gate_number 8 payloads place ≡ Some n → place < 2 ^ 63
gate_bound o gate h payloads place n is at =
    let both : Ok payloads ≡ Ok h.payloads = sym is ∙ h.is_list in
    let same : payloads ≡ h.payloads = cc both in
    omega (arith, (gate_within 8 payloads place n at).1, ap records_size same, h.size, h.bound)
