-- What a desk alone serves of a stream, with the steps that it takes.
use Rattle.std.proofs.Common.{◌≡◌, ap, ℕ, ◌+◌, ◌≤◌, List, [], ◌∷◌, Option, arith}
use Rattle.desk_base.specs.Crashes.{Crashes}
use Rattle.law_register.specs.Desk.States.{DeskState, Found}
use Rattle.law_register.specs.declared.answer.past_key.PastKey.{PastKey}
use Rattle.law_register.specs.declared.register.entry.Entry.{Entry}
use Rattle.law_http.specs.Exchanges.{AreAnswered, IsServed}
use Rattle.law_http.specs.Streaming.{AreServed, Exchange, IsStreamed, serving_costs}
use Rattle.law_http.specs.ServedMembers.{ServesCounted}
use Rattle.law_http.specs.declared.streaming.Served.{Served}
use Rattle.law_http.proofs.Rising.{faults_rise, origin_stays}

module _ {D : Type 0} (state : D → DeskState) (crashes : D → Crashes Found) (past : D → List PastKey)
    (judging : D → List Entry → Entry → ℕ) where
  -- the desk served them, and so many steps were taken at most
  abbrev AreServedWithin : List Exchange → D × ℕ → D × ℕ → Type 0
  AreServedWithin es old new =
      (served : AreServed state crashes past es old.0 new.0) × (new.1 ≤ old.1 + serving_costs state crashes past judging es old.0 new.0 served)

  served_within : (es : List Exchange) (old new : D × ℕ) → AreAnswered (ServesCounted state crashes past judging) es old new → AreServedWithin es old new
  served_within [] old new same = (ap (λ (p : D × ℕ). p.0) same, omega (arith, ap (λ (p : D × ℕ). p.1) same))
  served_within (e ∷ es) old new (mid, one, more) =
      let (served, within) = served_within es mid new more in
      ((mid.0, one.serves, served), omega (arith, one.within, within))

  pub streamed_of : (left over before now : Option (List ℕ)) (old new : D) (steps later : ℕ) (served : Served)
      → IsServed (ServesCounted state crashes past judging) left over before now (old, steps) (new, later) served
      → IsStreamed state crashes past judging left over before now old new steps later served
  streamed_of left over before now old new steps later served s =
      let (answered, within) = served_within s.exchanges (old, steps) (new, later) s.answered in record {
        exchanges = s.exchanges;
        closing = s.closing;
        answered = answered;
        ends = s.ends;
        puts = s.puts;
        faulted = s.faulted;
        faults = faults_rise state crashes past s.exchanges old new answered;
        cost = within;
      }

  pub origin_in_the_end : (left over before now : Option (List ℕ)) (old new : D) (steps later : ℕ) (served : Served)
      → IsServed (ServesCounted state crashes past judging) left over before now (old, steps) (new, later) served
      → (state new).origin ≡ (state old).origin
  origin_in_the_end left over before now old new steps later served s =
      origin_stays state crashes past s.exchanges old new (served_within s.exchanges (old, steps) (new, later) s.answered).0
