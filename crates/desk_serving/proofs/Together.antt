-- Four gates that were served at once, each by a worker of its own.
use Rattle.std.proofs.Common.{◌≡◌, ◌≤◌, ◌||◌, ◌+◌, refl, sym, ap, subst, ◌∙◌, ℕ, Bool, true, false, List, [], ◌∷◌, ◌++◌, length, Option, None, Some, arith, append_assoc, append-nil}
use Rattle.std.specs.Prelude.{⊤}
use Rattle.std.specs.List.{AllByRecursion, list_any}
use mathlib.Core.List.{IsPrefix}
use Rattle.desk_gates.specs.Tallies.{Tally}
use Rattle.atomic_table.specs.Seated.{TableId}
use Rattle.turn_lock.specs.declared.pass.Pass.{Pass}
use Rattle.turn_lock.specs.declared.turns.Turns.{Turns}
use Rattle.turn_lock.specs.Passes.{seen_by, made_by, share_of, BeganAs}
use Rattle.turn_lock.specs.Turned.{id_of}
use Rattle.desk_base.specs.Streams.{risen}
use Rattle.law_http.specs.Connections.{StaysPass}
use Rattle.law_register.specs.Desk.History.{entries_of}
use Rattle.law_register.specs.Register.Verdicts.{is_legal}
use Rattle.desk_serving.specs.declared.hand.Hand.{Hand}
use Rattle.law_register.specs.declared.desk.event.Event.{Event}
use Rattle.desk_serving.specs.Work.{Visit, Moment, Stint, AreNewHands, AreVisitsAnswered, HasAttended, HasJoined, HasListened, HaveJoined, HaveServed, HaveWorked, HasWorked, IsNewHand, MayServe, WasServed, WereServed, and_more, counted, made_in, made_with, moment_of, some_failed, some_wants_memory, with_visits}
use Rattle.desk_serving.proofs.Works.{none_told}

pub prefix_self : {A : Type 0} (xs : List A) → IsPrefix xs xs
prefix_self xs = ([], append-nil xs)

pub prefix_on : {A : Type 0} (xs ys zs : List A) → IsPrefix xs ys → IsPrefix ys zs → IsPrefix xs zs
prefix_on xs ys zs p q = (p.0 ++ q.0, sym (append_assoc xs p.0 q.0) ∙ (ap (λ w. w ++ q.0) p.1 ∙ q.1))

abbrev moment : List Event → ℕ → Moment
moment seen made = record { seen = seen; made = made }

-- what a hand that was just split off knows
new_moment : {T : Type 0} (turns : TableId) (seen : List Event) (hand : Hand T Event) → IsNewHand turns seen hand
    → moment_of hand.pass ≡ record { seen = seen; made = 0 }
new_moment turns seen hand new = ap (λ s. moment s (made_by hand.pass)) new.knows ∙ ap (λ m. moment seen m) new.none_made

module _ {C : Type 0} (left written : C → Option (List ℕ)) (read_faults write_faults : C → ℕ) where
  module _ {G : Type 0} (tally : G → Tally) (faults : G → ℕ) where
    -- a gate that was not served at all, for want of memory
    pub none_served : (count : ℕ) (opened closed : List Event) (gates : List G) → IsPrefix opened closed
        → HaveWorked left written read_faults write_faults tally faults count opened closed gates gates 0 false true
    none_served count opened closed [] begins =
        record { stints = []; served = tt; failures = refl; made_is = refl }
    none_served count opened closed (gate ∷ gates) begins =
        let rest = none_served count opened closed gates begins in
        record {
          stints = record { visits = []; after = record { seen = opened; made = 0 }; failed = false } ∷ rest.stints;
          served = (
            record {
              told = none_told left written read_faults write_faults (tally gate);
              answered = refl;
              begins = begins;
              few = omega arith;
              all = λ whole enough. absurd (cc enough);
              cause = refl;
              wants = λ is. absurd (cc is);
            },
            rest.served,
          );
          failures = rest.failures;
          made_is = omega (arith, rest.made_is);
        }

    pub none_served_now : (count : ℕ) (opened closed : List Event) (gates : List G) (made : ℕ) → IsPrefix opened closed → made ≡ 0
        → HaveWorked left written read_faults write_faults tally faults count opened closed gates gates made false true
    none_served_now count opened closed gates made begins none =
        let all = none_served count opened closed gates begins in
        record { stints = all.stints; served = all.served; failures = all.failures; made_is = none ∙ all.made_is }

    -- what is later known of a history
    pub served_on : (count : ℕ) (opened mid closed : List Event) (wanting : Bool) (gates gates_new : List G) (stints : List (Stint C))
        → IsPrefix mid closed
        → WereServed left written read_faults write_faults tally faults count opened mid wanting gates gates_new stints
        → WereServed left written read_faults write_faults tally faults count opened closed wanting gates gates_new stints
    served_on count opened mid closed wanting [] [] [] begins served = tt
    served_on count opened mid closed wanting (gate ∷ gates) (gate_new ∷ gates_new) (stint ∷ stints) begins (was, were) = (
      record {
        told = was.told;
        answered = was.answered;
        begins = prefix_on stint.after.seen mid closed was.begins begins;
        few = was.few;
        all = was.all;
        cause = was.cause;
        wants = was.wants;
      },
      served_on count opened mid closed wanting gates gates_new stints begins were,
    )
    served_on count opened mid closed wanting [] [] (stint ∷ stints) begins served = absurd served
    served_on count opened mid closed wanting [] (gate_new ∷ gates_new) stints begins served = absurd served
    served_on count opened mid closed wanting (gate ∷ gates) [] stints begins served = absurd served
    served_on count opened mid closed wanting (gate ∷ gates) (gate_new ∷ gates_new) [] begins served = absurd served

    -- nothing was served over a desk, whose history is as it was
    pub none_have_served : (count : ℕ) (opened closed : List Event) (gates : List G) → closed ≡ opened → is_legal (entries_of opened) ≡ true
        → HaveServed left written read_faults write_faults tally faults count opened closed gates gates false true
    none_have_served count opened closed gates same legal =
        let begins : IsPrefix opened closed = subst (IsPrefix opened) (sym same) (prefix_self opened) in record {
          made = 0;
          worked = none_served count opened closed gates begins;
          begins = begins;
          grown = omega (arith, ap length same);
          legal = ap (λ (h : List Event). is_legal (entries_of h)) same ∙ legal;
        }

    -- gates were served over a desk that was opened with this history and closed with that
    pub have_served : (count : ℕ) (opened first seen closed : List Event) (gates gates_new : List G) (made start : ℕ) (failed wanting : Bool)
        → HaveWorked left written read_faults write_faults tally faults count first seen gates gates_new made failed wanting
        → first ≡ opened → IsPrefix first seen → IsPrefix seen closed → length closed ≡ start + made → start ≡ length opened
        → is_legal (entries_of closed) ≡ true
        → HaveServed left written read_faults write_faults tally faults count opened closed gates gates_new failed wanting
    have_served count opened first seen closed gates gates_new made start failed wanting worked same begins ends grown started legal =
        let all = subst (λ (h : List Event). HaveWorked left written read_faults write_faults tally faults count h seen gates gates_new made failed wanting) same worked in
        record {
          made = made;
          worked = record {
            stints = all.stints;
            served = served_on count opened seen closed wanting gates gates_new all.stints ends all.served;
            failures = all.failures;
            made_is = all.made_is;
          };
          begins = prefix_on opened seen closed (subst (λ (h : List Event). IsPrefix h seen) same begins) ends;
          grown = omega (arith, grown, started);
          legal = legal;
        }

    module _ {T : Type 0} (listens : G → Bool) (turns : Turns T Event) (count : ℕ) (opened closed : List Event) (wanting : Bool) where
      -- how a gate was served, by what became of it when it was asked to listen and when its worker was done
      record IsStint (gate gate_new : G) (hand : Hand T Event) : Type 0 where
        pub stint : Stint C
        pub served : WasServed left written read_faults write_faults tally faults count opened closed wanting gate gate_new stint
        pub failed : stint.failed ≡ hand.failed
        pub made : stint.after.made ≡ made_by hand.pass

      was_served : (gate mid gate_new : G) (first hand hand_new : Hand T Event) (failed : Bool)
          → IsNewHand (id_of turns) opened first → HasListened listens tally faults gate mid first hand
          → HasAttended left written read_faults write_faults tally faults turns count mid hand gate_new hand_new
          → IsPrefix (seen_by hand_new.pass) closed → (hand_new.wanting ≡ true → wanting ≡ true)
          → hand.failed ≡ failed
          → IsStint gate gate_new hand_new
      was_served gate mid gate_new first hand hand_new true new listened attended begins wants failed =
          let idle = attended.idle failed in
          let same : moment_of hand_new.pass ≡ record { seen = opened; made = 0 } =
          ap (λ (h : Hand T Event). moment_of h.pass) idle.1 ∙ ap moment_of listened.pass ∙ new_moment (id_of turns) opened first new in
          let told : tally gate_new ≡ tally gate = ap tally idle.0 ∙ listened.told in
          record {
            stint = record { visits = []; after = moment_of hand_new.pass; failed = true };
            served = record {
              told = told ∙ none_told left written read_faults write_faults (tally gate);
              answered = same;
              begins = begins;
              few = omega arith;
              all = λ whole. absurd (cc whole);
              cause = ap faults idle.0 ∙ listened.cause ∙ ap (λ b. counted b (faults gate)) failed;
              wants = λ is. absurd (cc is);
            };
            failed = sym (ap (λ (h : Hand T Event). h.failed) idle.1 ∙ failed);
            made = refl;
          }
      was_served gate mid gate_new first hand hand_new false new listened attended begins wants failed =
          let worked = attended.worked failed in
          let before : moment_of hand.pass ≡ record { seen = opened; made = 0 } =
          ap moment_of listened.pass ∙ new_moment (id_of turns) opened first new in
          let none : hand.wanting ≡ false = listened.wanting ∙ new.wanting in
          record {
            stint = record { visits = worked.visits; after = moment_of hand_new.pass; failed = hand_new.failed };
            served = record {
              told = worked.told ∙ ap (with_visits left written read_faults write_faults worked.visits) listened.told;
              answered = subst (λ m. AreVisitsAnswered left written read_faults write_faults worked.visits m (moment_of hand_new.pass)) before worked.answered;
              begins = begins;
              few = worked.few;
              all = λ whole enough. worked.all whole;
              cause = worked.cause ∙ ap (counted hand_new.failed) (listened.cause ∙ ap (λ b. counted b (faults gate)) failed);
              wants = λ is. wants (worked.wants ∙ ap (λ w. w || some_wants_memory worked.visits) none ∙ is);
            };
            failed = refl;
            made = refl;
          }

      -- of each gate, and of what was in hand for it
      abbrev AreStints : List G → List G → List (Hand T Event) → Type 0
      AreStints [] [] [] = ⊤
      AreStints (gate ∷ gates) (gate_new ∷ gates_new) (hand ∷ hands) = IsStint gate gate_new hand × AreStints gates gates_new hands
      AreStints gates gates_new hands = ⊥

      have_worked : (gates gates_new : List G) (hands : List (Hand T Event)) (failed : Bool) (made : ℕ) → AreStints gates gates_new hands
          → failed ≡ list_any (λ h. h.failed) hands → made ≡ made_with hands
          → HaveWorked left written read_faults write_faults tally faults count opened closed gates gates_new made failed wanting
      have_worked [] [] [] failed made stints fails makes =
          record { stints = []; served = tt; failures = fails; made_is = makes }
      have_worked (gate ∷ gates) (gate_new ∷ gates_new) (hand ∷ hands) failed made (one, more) fails makes =
          let rest = have_worked gates gates_new hands (list_any (λ h. h.failed) hands) (made_with hands) more refl refl in
          record {
            stints = one.stint ∷ rest.stints;
            served = (one.served, rest.served);
            failures = fails ∙ (ap (λ b. b || list_any (λ h. h.failed) hands) (sym one.failed) ∙ ap (λ b. one.stint.failed || b) rest.failures);
            made_is = makes ∙ (ap (λ n. n + made_with hands) (sym one.made) ∙ ap (λ n. one.stint.after.made + n) rest.made_is);
          }
      have_worked [] [] (hand ∷ hands) failed made stints fails makes = absurd stints
      have_worked [] (gate_new ∷ gates_new) hands failed made stints fails makes = absurd stints
      have_worked (gate ∷ gates) [] hands failed made stints fails makes = absurd stints
      have_worked (gate ∷ gates) (gate_new ∷ gates_new) [] failed made stints fails makes = absurd stints

      or_first : (a b : Bool) → a ≡ true → (a || b) ≡ true
      or_first true b is = refl
      or_first false b is = absurd (cc is)

      or_second : (a b : Bool) → b ≡ true → (a || b) ≡ true
      or_second true b is = refl
      or_second false b is = is

      pub four_worked : (a b c d a1 b1 c1 d1 a2 b2 c2 d2 : G) (p q r s p1 q1 r1 s1 p2 q2 r2 s2 : Hand T Event) (failed : Bool) (made : ℕ)
          → AreNewHands (id_of turns) opened (p ∷ q ∷ r ∷ s ∷ [])
          → HasListened listens tally faults a a1 p p1 → HasListened listens tally faults b b1 q q1
          → HasListened listens tally faults c c1 r r1 → HasListened listens tally faults d d1 s s1
          → HasAttended left written read_faults write_faults tally faults turns count a1 p1 a2 p2
          → HasAttended left written read_faults write_faults tally faults turns count b1 q1 b2 q2
          → HasAttended left written read_faults write_faults tally faults turns count c1 r1 c2 r2
          → HasAttended left written read_faults write_faults tally faults turns count d1 s1 d2 s2
          → AllByRecursion (λ h. IsPrefix (seen_by h.pass) closed) (p2 ∷ q2 ∷ r2 ∷ s2 ∷ [])
          → failed ≡ list_any (λ h. h.failed) (p2 ∷ q2 ∷ r2 ∷ s2 ∷ [])
          → wanting ≡ list_any (λ h. h.wanting) (p2 ∷ q2 ∷ r2 ∷ s2 ∷ [])
          → made ≡ made_with (p2 ∷ q2 ∷ r2 ∷ s2 ∷ [])
          → HaveWorked left written read_faults write_faults tally faults count opened closed (a ∷ b ∷ c ∷ d ∷ []) (a2 ∷ b2 ∷ c2 ∷ d2 ∷ []) made failed wanting
      four_worked a b c d a1 b1 c1 d1 a2 b2 c2 d2 p q r s p1 q1 r1 s1 p2 q2 r2 s2 failed made (np, (nq, (nr, (ns, _)))) lp lq lr ls wp wq wr ws
          (bp, (bq, (br, (bs, _)))) fails wants makes =
          let p_wants = λ (is : p2.wanting ≡ true). wants ∙ or_first p2.wanting (q2.wanting || (r2.wanting || (s2.wanting || false))) is in
          let q_wants = λ (is : q2.wanting ≡ true). wants ∙ or_second p2.wanting (q2.wanting || (r2.wanting || (s2.wanting || false)))
          (or_first q2.wanting (r2.wanting || (s2.wanting || false)) is) in
          let r_wants = λ (is : r2.wanting ≡ true). wants ∙ or_second p2.wanting (q2.wanting || (r2.wanting || (s2.wanting || false)))
          (or_second q2.wanting (r2.wanting || (s2.wanting || false)) (or_first r2.wanting (s2.wanting || false) is)) in
          let s_wants = λ (is : s2.wanting ≡ true). wants ∙ or_second p2.wanting (q2.wanting || (r2.wanting || (s2.wanting || false)))
          (or_second q2.wanting (r2.wanting || (s2.wanting || false)) (or_second r2.wanting (s2.wanting || false) (or_first s2.wanting false is))) in
          have_worked (a ∷ b ∷ c ∷ d ∷ []) (a2 ∷ b2 ∷ c2 ∷ d2 ∷ []) (p2 ∷ q2 ∷ r2 ∷ s2 ∷ []) failed made (
            was_served a a1 a2 p p1 p2 p1.failed np lp wp bp p_wants refl,
            (
              was_served b b1 b2 q q1 q2 q1.failed nq lq wq bq q_wants refl,
              (
                was_served c c1 c2 r r1 r2 r1.failed nr lr wr br r_wants refl,
                (was_served d d1 d2 s s1 s2 s1.failed ns ls ws bs s_wants refl, tt),
              ),
            ),
          )
          fails makes
