-- What all of the connections of gates were answered, between the history that was opened and the one in the end.
use Rattle.std.proofs.Common.{◌≡◌, ◌≤◌, ◌||◌, ◌+◌, ◌*◌, ◌⊎◌, inl, inr, refl, sym, ap, subst, ◌∙◌, ℕ, Bool, true, false, List, [], ◌∷◌, ◌++◌, length, map, Option, None, Some, arith, append-nil}
use Rattle.std.specs.Prelude.{⊤}
use Rattle.std.specs.List.{AllByRecursion}
use mathlib.Core.List.{IsPrefix}
use Rattle.desk_gates.specs.Tallies.{Tally}
use Rattle.desk_base.specs.Streams.{risen}
use Rattle.law_http.specs.Connections.{IsMadeOf, IsWellAnswered}
use Rattle.law_http.specs.Streaming.{HasReadCause, HasWriteCause}
use Rattle.law_register.specs.Desk.History.{entries_of, marks_of}
use Rattle.law_register.specs.Register.Verdicts.{is_legal}
use Rattle.law_register.specs.declared.desk.event.Event.{Event}
use Rattle.law_register.specs.declared.desk.event.Event.TheVariants.{Entered, Faulted}
use Rattle.law_http.specs.declared.streaming.Served.{Served}
use Rattle.law_http.specs.declared.streaming.StreamEnd.{StreamEnd}
use Rattle.law_http.specs.declared.streaming.StreamEnd.TheVariants as ends
use Rattle.desk_serving.specs.Gates.{AreGatesServed, AskInAll, AskSoMany, IsVisitServed, IsWhole, SomeGateRose, WereGatesServed}
use Rattle.desk_serving.specs.Work.{Visit, Moment, Stint, AreVisitsAnswered, HaveServed, IsVisitAnswered, WereServed, counted, made_in, some_failed, some_wants_memory, wants_memory}
use Rattle.desk_serving.proofs.Together.{prefix_on}

-- ---- histories

marks_more : (xs ys : List Event) → marks_of (xs ++ ys) ≡ marks_of xs ++ marks_of ys
marks_more [] ys = refl
marks_more (Entered entry ∷ xs) ys = marks_more xs ys
marks_more (Faulted mark ∷ xs) ys = ap (λ l. mark ∷ l) (marks_more xs ys)

first_empty : {A : Type 0} (xs ys : List A) → xs ++ ys ≡ [] → xs ≡ []
first_empty [] ys is = refl
first_empty (x ∷ xs) ys is = absurd (cc is)

none_before : (xs ys : List Event) → IsPrefix xs ys → marks_of ys ≡ [] → marks_of xs ≡ []
none_before xs ys p none = first_empty (marks_of xs) (marks_of p.0) (sym (marks_more xs p.0) ∙ ap marks_of p.1 ∙ none)

or_first : (a b : Bool) → a ≡ true → (a || b) ≡ true
or_first true b is = refl
or_first false b is = absurd (cc is)

or_second : (a b : Bool) → b ≡ true → (a || b) ≡ true
or_second true b is = refl
or_second false b is = is

-- ---- one connection

whole_of : (end : StreamEnd) (reads writes : ℕ) (wanting : Bool) → HasReadCause end 0 reads → HasWriteCause end 0 writes
    → (wants_memory end ≡ true → wanting ≡ true) → reads ≡ 0 → writes ≡ 0 → wanting ≡ false → IsWhole end
whole_of ends.End reads writes wanting r w wants no_read no_write enough = tt
whole_of (ends.Refused refusal) reads writes wanting r w wants no_read no_write enough = tt
whole_of ends.ReadFault reads writes wanting r w wants no_read no_write enough =
    let one : 1 ≡ 0 = sym r ∙ no_read in absurd (omega (arith, one))
whole_of ends.WriteFault reads writes wanting r w wants no_read no_write enough =
    let one : 1 ≡ 0 = sym w ∙ no_write in absurd (omega (arith, one))
whole_of ends.Memory reads writes wanting r w wants no_read no_write enough =
    let is : true ≡ false = sym (wants refl) ∙ enough in absurd (cc is)

module _ {C : Type 0} (left written : C → Option (List ℕ)) (read_faults write_faults : C → ℕ) where
  seen_on : (visits : List (Visit C)) (before after : Moment) → AreVisitsAnswered left written read_faults write_faults visits before after
      → IsPrefix before.seen after.seen
  seen_on [] before after is = ([], append-nil before.seen ∙ ap (λ (m : Moment). m.seen) (sym is))
  seen_on (visit ∷ visits) before after (mid, one, more) =
      prefix_on before.seen mid.seen after.seen one.answered.grows (seen_on visits mid after more)

  abbrev pub Stays : Type 0
  Stays = (front seen later more : List Event) (left over before now : Option (List ℕ)) (served : Served)
      → IsWellAnswered seen later left over before now served
      → IsPrefix front seen → IsPrefix later more → is_legal (entries_of more) ≡ true
      → IsWellAnswered front more left over before now served

  visits_served : Stays → (visits : List (Visit C)) (before after : Moment) (opened closed : List Event) (wanting : Bool)
      → AreVisitsAnswered left written read_faults write_faults visits before after
      → IsPrefix opened before.seen → IsPrefix after.seen closed → is_legal (entries_of closed) ≡ true
      → (some_wants_memory visits ≡ true → wanting ≡ true)
      → AllByRecursion (IsVisitServed left written read_faults write_faults opened closed wanting) visits
  visits_served stays [] before after opened closed wanting answered begins ends_ legal wants = tt
  visits_served stays (visit ∷ visits) before after opened closed wanting (mid, one, more) begins ends_ legal wants = (
    record {
      unused = one.unused;
      answered = stays opened before.seen mid.seen closed (left visit.given) (left visit.back) (written visit.given) (written visit.back)
          visit.served one.answered begins (prefix_on mid.seen after.seen closed (seen_on visits mid after more) ends_) legal;
      reads = one.reads;
      writes = one.writes;
      whole = whole_of visit.served.end (read_faults visit.back) (write_faults visit.back) wanting
          (subst (λ n. HasReadCause visit.served.end n (read_faults visit.back)) one.unused.no_read_fault one.reads)
          (subst (λ n. HasWriteCause visit.served.end n (write_faults visit.back)) one.unused.no_write_fault one.writes)
          (λ is. wants (or_first (wants_memory visit.served.end) (some_wants_memory visits) is));
    },
    visits_served stays visits mid after opened closed wanting more
        (prefix_on opened before.seen mid.seen begins one.answered.grows) ends_ legal
        (λ is. wants (or_second (wants_memory visit.served.end) (some_wants_memory visits) is)),
  )

  asked_made : (visits : List (Visit C)) (before after : Moment) (n : ℕ)
      → AreVisitsAnswered left written read_faults write_faults visits before after → AskSoMany left written read_faults write_faults visits n
      → IsMadeOf n after.seen before.made after.made
  asked_made [] before after n is none =
      let same : after.made ≡ before.made = ap (λ (m : Moment). m.made) is in
      record { most = omega (arith, same); unmarked = λ _. omega (arith, same) }
  asked_made (visit ∷ visits) before after n (mid, one, more) (bytes, members, m, is, heard, rest, sum) =
      let here = one.made bytes members is heard in
      let there = asked_made visits mid after m more rest in record {
        most = omega (arith, here.most, there.most, sum);
        unmarked = λ none.
            let first = here.unmarked (none_before mid.seen after.seen (seen_on visits mid after more) none) in
            let second = there.unmarked none in
            omega (arith, first, second, sum);
      }

  -- ---- several gates

  abbrev visits_of : List (Stint C) → List (List (Visit C))
  visits_of [] = []
  visits_of (stint ∷ stints) = stint.visits ∷ visits_of stints

  module _ {G : Type 0} (tally : G → Tally) (faults : G → ℕ) (count : ℕ) (opened closed : List Event) (wanting : Bool) where
    gates_served : Stays → (broken : Bool) (gates gates_new : List G) (stints : List (Stint C)) → is_legal (entries_of closed) ≡ true
        → WereServed left written read_faults write_faults tally faults count opened closed wanting gates gates_new stints
        → (some_failed stints ≡ true → broken ≡ true)
        → AreGatesServed left written read_faults write_faults tally faults count opened closed wanting broken gates gates_new (visits_of stints)
    gates_served stays broken [] [] [] legal served fails = tt
    gates_served stays broken (gate ∷ gates) (gate_new ∷ gates_new) (stint ∷ stints) legal (was, were) fails = (
      record {
        told = was.told;
        served = visits_served stays stint.visits (record { seen = opened; made = 0 }) stint.after opened closed wanting was.answered
            ([], append-nil opened) was.begins legal was.wants;
        few = was.few;
        failed = stint.failed;
        cause = was.cause;
        all = was.all;
        named = λ is. fails (or_first stint.failed (some_failed stints) is);
      },
      gates_served stays broken gates gates_new stints legal were (λ is. fails (or_second stint.failed (some_failed stints) is)),
    )
    gates_served stays broken [] [] (stint ∷ stints) legal served fails = absurd served
    gates_served stays broken [] (gate_new ∷ gates_new) stints legal served fails = absurd served
    gates_served stays broken (gate ∷ gates) [] stints legal served fails = absurd served
    gates_served stays broken (gate ∷ gates) (gate_new ∷ gates_new) [] legal served fails = absurd served

    some_rose : (gates gates_new : List G) (stints : List (Stint C))
        → WereServed left written read_faults write_faults tally faults count opened closed wanting gates gates_new stints
        → some_failed stints ≡ true → SomeGateRose left written read_faults write_faults tally faults gates gates_new
    some_rose [] [] [] served is = absurd (cc is)
    some_rose (gate ∷ gates) (gate_new ∷ gates_new) (stint ∷ stints) (was, were) is =
        by stint.failed was.cause (some_rose gates gates_new stints were) is where
          by : (b : Bool) → faults gate_new ≡ counted b (faults gate)
              → (some_failed stints ≡ true → SomeGateRose left written read_faults write_faults tally faults gates gates_new)
              → (b || some_failed stints) ≡ true
              → SomeGateRose left written read_faults write_faults tally faults (gate ∷ gates) (gate_new ∷ gates_new)
          by true cause others is = inl cause
          by false cause others is = inr (others is)
    some_rose [] [] (stint ∷ stints) served is = absurd served
    some_rose [] (gate_new ∷ gates_new) stints served is = absurd served
    some_rose (gate ∷ gates) [] stints served is = absurd served
    some_rose (gate ∷ gates) (gate_new ∷ gates_new) [] served is = absurd served

    made_by_all : (gates gates_new : List G) (stints : List (Stint C)) (n : ℕ)
        → WereServed left written read_faults write_faults tally faults count opened closed wanting gates gates_new stints
        → AskInAll left written read_faults write_faults (visits_of stints) n → IsMadeOf n closed 0 (made_in stints)
    made_by_all [] [] [] n served asked = record { most = omega arith; unmarked = λ _. omega arith }
    made_by_all (gate ∷ gates) (gate_new ∷ gates_new) (stint ∷ stints) n (was, were) (k, m, asked, rest, sum) =
        let here = asked_made stint.visits (record { seen = opened; made = 0 }) stint.after k was.answered asked in
        let there = made_by_all gates gates_new stints m were rest in record {
          most = omega (arith, here.most, there.most, sum);
          unmarked = λ none.
              let first = here.unmarked (none_before stint.after.seen closed was.begins none) in
              let second = there.unmarked none in
              omega (arith, first, second, sum);
        }
    made_by_all [] [] (stint ∷ stints) n served asked = absurd served
    made_by_all [] (gate_new ∷ gates_new) stints n served asked = absurd served
    made_by_all (gate ∷ gates) [] stints n served asked = absurd served
    made_by_all (gate ∷ gates) (gate_new ∷ gates_new) [] n served asked = absurd served

    pub were_gates_served : Stays → (broken : Bool) (gates gates_new : List G)
        → HaveServed left written read_faults write_faults tally faults count opened closed gates gates_new broken wanting
        → WereGatesServed left written read_faults write_faults tally faults count opened closed wanting broken gates gates_new
    were_gates_served stays broken gates gates_new all =
        let worked = all.worked in record {
          visits = visits_of worked.stints;
          served = gates_served stays broken gates gates_new worked.stints all.legal worked.served (λ is. worked.failures ∙ is);
          rose = λ is. some_rose gates gates_new worked.stints worked.served (sym worked.failures ∙ is);
          begins = all.begins;
          legal = all.legal;
          grown = λ n asked.
              let made = made_by_all gates gates_new worked.stints n worked.served asked in
              let is = worked.made_is in
              let grown = all.grown in record {
                most = omega (arith, made.most, is, grown);
                unmarked = λ none. let few = made.unmarked none in omega (arith, few, is, grown);
              };
        }

    -- the same of the gates of a list that was taken apart
    pub were_served_in : Stays → (broken : Bool) (olds news gates gates_new : List G) → gates ≡ olds → gates_new ≡ news
        → HaveServed left written read_faults write_faults tally faults count opened closed olds news broken wanting
        → WereGatesServed left written read_faults write_faults tally faults count opened closed wanting broken gates gates_new
    were_served_in stays broken olds news gates gates_new old new all =
        subst (λ (gs : List G). WereGatesServed left written read_faults write_faults tally faults count opened closed wanting broken gs gates_new) (sym old)
        (subst (λ (gs : List G). WereGatesServed left written read_faults write_faults tally faults count opened closed wanting broken olds gs) (sym new)
        (were_gates_served stays broken olds news all))
