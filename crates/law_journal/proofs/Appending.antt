-- What each step of an append leaves.
use Rattle.std.proofs.Common.{◌≡◌, ◌≢◌, ◌⊎◌, inl, inr, ⊎_elim, ℕ, ◌+◌, ◌<◌, List, [], ◌∷◌, ◌++◌, length, get_or, take, drop, sym, ◌∙◌, ap, arith, append_assoc, length-append, take-append-drop}
use Rattle.std.proofs.lemmas.List.{append-nil, take_at, drop_at, take_all, drop_all, drop_more}
use Rattle.std.proofs.lemmas.Bool.{cases_eq}
use Rattle.law_journal.specs.Disks.{Outlook, IsOutlook, Only, Torn, LeavesOnly, overwritten}
use Rattle.law_journal.specs.Grammar.{magic, records_of, list_of, with_more}
use Rattle.law_journal.specs.Journals.{IsJournal, Rests, AreFrames, IsBeforeOrAfter}
use Rattle.law_journal.proofs.Moments.{then_runs, weaker}
use Rattle.law_journal.proofs.Records.{records_join, records_long, few_records, more_records}
use Rattle.law_journal.proofs.Crash.{shut_list, same_list}

-- the bytes of a journal in front of a gate
pub front_of : (file : List ℕ) (place gate : ℕ) (behind : List ℕ) (j : IsJournal file place (gate ∷ behind)) → take place file ≡ magic ++ j.bytes
front_of file place gate behind j =
    ap (λ (l : List ℕ). take place l) (j.file_is ∙ sym (append_assoc magic j.bytes (gate ∷ behind))) ∙ take_at (magic ++ j.bytes) (gate ∷ behind) place (omega (arith, j.at_place, length-append magic j.bytes))

-- another gate in the place of one
abbrev pub other_gate : (file c : List ℕ) (place gate next : ℕ) (behind : List ℕ) → IsJournal file place (gate ∷ behind) → c ≡ take place file ++ next ∷ behind → IsJournal c place (next ∷ behind)
other_gate file c place gate next behind j is = record {
  payloads = j.payloads;
  bytes = j.bytes;
  are_records = j.are_records;
  no_more = j.no_more;
  size = j.size;
  file_is = is ∙ ap (λ (l : List ℕ). l ++ next ∷ behind) (front_of file place gate behind j) ∙ append_assoc magic j.bytes (next ∷ behind);
  at_place = j.at_place;
}

-- the frames of payloads behind an open gate are their records
abbrev pub more_behind : (file framed : List ℕ) (place : ℕ) (payloads : List (List ℕ)) → AreFrames payloads framed → IsJournal file place (1 ∷ framed) → IsJournal file (place + length framed) (0 ∷ [])
more_behind file framed place payloads f j =
    let added = records_of payloads in
    let size : length framed ≡ length added = omega (arith, ap length f.behind_gate, length-append added (0 ∷ [])) in
    record {
      payloads = j.payloads ++ payloads;
      bytes = j.bytes ++ added;
      are_records = more_records payloads j.payloads j.bytes f.sizes j.are_records;
      no_more = omega (arith, j.no_more, length-append j.payloads payloads, length-append j.bytes added, records_long payloads, few_records payloads);
      size = omega (arith, j.size, records_join j.payloads payloads, length-append j.bytes added, records_long payloads);
      file_is = j.file_is ∙ ap (λ (l : List ℕ). magic ++ (j.bytes ++ l)) f.behind_gate ∙ ap (λ (l : List ℕ). magic ++ l) (sym (append_assoc j.bytes added (0 ∷ [])));
      at_place = omega (arith, j.at_place, size, length-append j.bytes added);
    }

-- the frames of payloads behind an open gate are these payloads more
pub opened_list : (file c framed : List ℕ) (place gate : ℕ) (payloads : List (List ℕ)) → AreFrames payloads framed → IsJournal file place (gate ∷ framed) → gate ≢ 1 → c ≡ take place file ++ 1 ∷ framed
    → list_of c ≡ with_more payloads (list_of file)
opened_list file c framed place gate payloads f j shut is =
    shut_list c (place + length framed) 0 [] (more_behind c framed place payloads f (other_gate file c place gate 1 framed j is)) (λ zero. absurd (cc zero))
    ∙ sym (ap (with_more payloads) (shut_list file place gate framed j shut))

-- frames behind any gate count or do not
any_gate : (file c framed : List ℕ) (place gate next : ℕ) (payloads : List (List ℕ)) → AreFrames payloads framed → IsJournal file place (gate ∷ framed) → gate ≢ 1 → c ≡ take place file ++ next ∷ framed
    → IsBeforeOrAfter file payloads c
any_gate file c framed place gate next payloads f j shut is = by_gate (cases_eq next 1)
  where
    by_gate : (next ≡ 1) ⊎ (next ≡ 1 → ⊥) → IsBeforeOrAfter file payloads c
    by_gate (inl one) = inr (opened_list file c framed place gate payloads f j shut (is ∙ ap (λ n. take place file ++ n ∷ framed) one))
    by_gate (inr not_one) = inl (shut_list c place next framed (other_gate file c place gate next framed j is) not_one ∙ sym (shut_list file place gate framed j shut))

-- the file with frames behind its closed gate
abbrev staged : (o : Outlook) (file framed : List ℕ) (gate : ℕ) (r : Rests o gate) → file ≡ overwritten (gate + 1) framed o.seen → IsJournal file gate (r.shut ∷ framed)
staged o file framed gate r is =
    let j = r.journal in
    let size : length o.seen ≡ gate + 1 = ap length j.file_is ∙ omega (arith, j.at_place, length-append magic (j.bytes ++ r.shut ∷ []), length-append j.bytes (r.shut ∷ [])) in
    let front : take (gate + 1) o.seen ≡ o.seen = take_all (gate + 1) o.seen (omega (arith, size)) in
    let back : drop (gate + 1 + length framed) o.seen ≡ [] = drop_all (gate + 1 + length framed) o.seen (omega (arith, size)) in
    record {
      payloads = j.payloads;
      bytes = j.bytes;
      are_records = j.are_records;
      no_more = j.no_more;
      size = j.size;
      file_is = is ∙ (λ i. front i ++ framed ++ back i) ∙ append-nil (o.seen ++ framed) ∙ ap (λ (l : List ℕ). l ++ framed) j.file_is
          ∙ append_assoc magic (j.bytes ++ r.shut ∷ []) framed ∙ ap (λ (l : List ℕ). magic ++ l) (append_assoc j.bytes (r.shut ∷ []) framed);
      at_place = j.at_place;
    }

-- it stands for the same list
staged_list : (o : Outlook) (file framed : List ℕ) (gate : ℕ) (r : Rests o gate) → file ≡ overwritten (gate + 1) framed o.seen → list_of file ≡ list_of o.seen
staged_list o file framed gate r is =
    shut_list file gate r.shut framed (staged o file framed gate r is) r.is_shut ∙ sym (shut_list o.seen gate r.shut [] r.journal r.is_shut)

-- the frames stand behind the gate
behind_gate : (file framed : List ℕ) (place gate : ℕ) → IsJournal file place (gate ∷ framed) → drop (place + 1) file ≡ framed
behind_gate file framed place gate j =
    let head = magic ++ j.bytes ++ gate ∷ [] in
    let split : file ≡ head ++ framed = j.file_is ∙ ap (λ (l : List ℕ). magic ++ l) (sym (append_assoc j.bytes (gate ∷ []) framed)) ∙ sym (append_assoc magic (j.bytes ++ gate ∷ []) framed) in
    let size : length head ≡ place + 1 = omega (arith, j.at_place, length-append magic (j.bytes ++ gate ∷ []), length-append j.bytes (gate ∷ [])) in
    ap (λ (l : List ℕ). drop (place + 1) l) split ∙ drop_at head framed (place + 1) size

-- each outcome of the second write counts the frames or does not
torn_gate : (file c framed : List ℕ) (place gate : ℕ) (payloads : List (List ℕ)) → AreFrames payloads framed → IsJournal file place (gate ∷ framed) → gate ≢ 1 → Torn place 1 file c → IsBeforeOrAfter file payloads c
torn_gate file c framed place gate payloads f j shut torn =
    let size : place < length file = omega (arith, ap length j.file_is, j.at_place, length-append magic (j.bytes ++ gate ∷ framed), length-append j.bytes (gate ∷ framed)) in
    let next = get_or c place 0 in
    let rest : drop place c ≡ next ∷ framed = drop_more c place 0 (omega (arith, size, torn.no_shorter)) ∙ ap (λ (l : List ℕ). next ∷ l) (torn.after ∙ behind_gate file framed place gate j) in
    any_gate file c framed place gate next payloads f j shut (sym (take-append-drop place c) ∙ (λ i. torn.before i ++ rest i))

module _ (o m n : Outlook) (gate : ℕ) (framed : List ℕ) (payloads : List (List ℕ)) (f : AreFrames payloads framed) (r : Rests o gate) where
  abbrev P : List ℕ → Type 0
  P = IsBeforeOrAfter o.seen payloads

  -- while the frames are written behind the closed gate
  pub first_write : (k : ℕ) → LeavesOnly (Torn (gate + 1) k o.seen) o m → LeavesOnly (IsBeforeOrAfter o.seen payloads) o m
  first_write k run = weaker (Torn (gate + 1) k o.seen) P o m (λ c torn. inl (same_list o.seen c gate r.shut [] r.journal r.is_shut torn.before)) run

  -- while the gate is opened
  pub second_write : m.seen ≡ overwritten (gate + 1) framed o.seen → (k : ℕ) → LeavesOnly (Torn (gate + 1) k o.seen) o m → LeavesOnly (Torn gate 1 m.seen) m n → LeavesOnly (IsBeforeOrAfter o.seen payloads) o n
  second_write is k run next =
      let same = staged_list o m.seen framed gate r is in
      let as_old : (c : List ℕ) → IsBeforeOrAfter m.seen payloads c → P c =
      λ c either. ⊎_elim (λ before. inl (before ∙ same)) (λ after. inr (after ∙ ap (with_more payloads) same)) either in
      then_runs P o m n (first_write k run)
      (weaker (Torn gate 1 m.seen) P m n (λ c torn. as_old c (torn_gate m.seen c framed gate r.shut payloads f (staged o m.seen framed gate r is) r.is_shut torn)) next)

  opened : m.seen ≡ overwritten (gate + 1) framed o.seen → n.seen ≡ overwritten gate (1 ∷ []) m.seen → n.seen ≡ take gate m.seen ++ 1 ∷ framed
  opened is next = next ∙ append_assoc (take gate m.seen) (1 ∷ []) (drop (gate + 1) m.seen) ∙ ap (λ (l : List ℕ). take gate m.seen ++ 1 ∷ l) (behind_gate m.seen framed gate r.shut (staged o m.seen framed gate r is))

  -- afterwards the list has these payloads more
  pub added : m.seen ≡ overwritten (gate + 1) framed o.seen → n.seen ≡ overwritten gate (1 ∷ []) m.seen → list_of n.seen ≡ with_more payloads (list_of o.seen)
  added is next =
      opened_list m.seen n.seen framed gate r.shut payloads f (staged o m.seen framed gate r is) r.is_shut (opened is next)
      ∙ ap (with_more payloads) (staged_list o m.seen framed gate r is)

  -- and the file is at rest
  pub rests_again : m.seen ≡ overwritten (gate + 1) framed o.seen → n.seen ≡ overwritten gate (1 ∷ []) m.seen → Only n.seen n.may_leave → Rests n (gate + length framed)
  rests_again is next durable = record {
    shut = 0;
    is_shut = λ zero. absurd (cc zero);
    journal = more_behind n.seen framed gate payloads f (other_gate m.seen n.seen gate r.shut 1 framed (staged o m.seen framed gate r is) (opened is next));
    durable = durable;
  }

-- the bytes that are there are among those that a crash may leave
pub seen_too : (P : List ℕ → Type 0) (o n : Outlook) → IsOutlook n → LeavesOnly P o n → P n.seen
seen_too P o n is run = run.now n.seen (is.stays run.tells)
