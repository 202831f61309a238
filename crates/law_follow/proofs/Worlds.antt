-- Each event leaves a follower with a front of its leader's list.
use Rattle.std.proofs.Common.{◌≡◌, ◌∙◌, sym, ap, subst, refl, Bool, true, false, List, [], ◌∷◌, ◌++◌, length, ℕ, zero, suc, ◌+◌, ◌-◌, ◌≤◌, ◌<◌, Option, Some, None, Ok, Err, Result, arith, append_assoc}
use Rattle.std.specs.Prelude.{nat_le, ◌==◌, get_or, slice_get, is_ok, if◌then◌else◌}
use Rattle.std.specs.Str.{bytes_eq}
use Rattle.std.proofs.lemmas.Bool.{leb-true, leb-false, eqb-true, eqb-false}
use Rattle.law_register.specs.declared.desk.damage.Damage.{Damage}
use Rattle.law_register.specs.declared.register.entry.Entry.{Entry}
use Rattle.law_register.proofs.Puts.{bytes_are}
use Rattle.law_follow.specs.Frames.{Message}
use Rattle.law_follow.specs.Opening.{opened}
use Rattle.law_follow.specs.Taking.{after_answer, next_answer, old_answer, taken}
use Rattle.law_follow.specs.Worlds.{Event, Grows, Sends, Comes, IsFrontOf, IsTrusting, RefusesNothing, World, after_all, after_message, happens, is_register, nothing, payload_at, with_sent}
use Rattle.law_follow.specs.declared.taken.Taken.{Taken}
use Rattle.law_follow.specs.declared.taken.Taken.TheVariants.{Added, Known}
use Rattle.law_follow.specs.declared.taken.TakeFault.{TakeFault}
use Rattle.law_follow.proofs.Replies.{taken_before, taken_later, taken_next}
use Rattle.law_follow.proofs.Openings.{front_registers}

-- what a leader sends is of its register, and a follower has a front of it
pub record IsRightWorld (w : World) : Type 0 where
  pub legal : is_register w.leader ≡ true
  pub front : IsFrontOf w.follower w.leader
  pub sent : (which : ℕ) (m : Message) → slice_get w.sent which ≡ Some m → payload_at w.leader m.number ≡ Some m.payload

-- an answer that refuses nothing, and leaves a front
record Goes (leader follower : List (List ℕ)) (payload : List ℕ) (given : Result Taken TakeFault) : Type 0 where
  trusts : RefusesNothing given
  front : IsFrontOf (after_answer follower payload given) leader

known_same : (follower rest : List (List ℕ)) (n : ℕ) (payload : List ℕ) → slice_get (follower ++ rest) n ≡ Some payload → n < length follower
    → get_or follower n [] ≡ payload
known_same [] rest n payload is low = absurd (omega (arith, low))
known_same (first ∷ follower) rest zero payload is low = cc is
known_same (first ∷ follower) rest (suc n) payload is low = known_same follower rest n payload is (omega (arith, low))

next_is : (follower rest : List (List ℕ)) (n : ℕ) (payload : List ℕ) → slice_get (follower ++ rest) n ≡ Some payload → n ≡ length follower
    → (later : List (List ℕ)) × (rest ≡ payload ∷ later)
next_is [] [] n payload is same = absurd (cc is)
next_is [] (first ∷ rest) zero payload is same = let one : first ≡ payload = cc is in (rest, ap (λ (p : List ℕ). p ∷ rest) one)
next_is [] (first ∷ rest) (suc n) payload is same = absurd (omega (arith, same))
next_is (first ∷ follower) rest zero payload is same = absurd (omega (arith, same))
next_is (first ∷ follower) rest (suc n) payload is same = next_is follower rest n payload is (omega (arith, same))

-- the follower of a register that is given one of its payloads
goes : (leader follower : List (List ℕ)) (number : ℕ) (payload : List ℕ) → is_register leader ≡ true → IsFrontOf follower leader
    → payload_at leader number ≡ Some payload → Goes leader follower payload (taken follower number payload)
goes leader follower zero payload legal front is = absurd (cc is)
goes leader follower (suc n) payload legal front is = by (nat_le (suc n) (length follower)) refl
  where
    at : slice_get (follower ++ front.0) n ≡ Some payload
    at = subst (λ (all : List (List ℕ)). slice_get all n ≡ Some payload) (sym front.1) is

    known : suc n ≤ length follower → Goes leader follower payload (taken follower (suc n) payload)
    known stands =
        let same = known_same follower front.0 n payload at (omega (arith, stands)) in
        let less : suc n - 1 ≡ n = omega arith in
        let told : taken follower (suc n) payload ≡ Ok Known =
        taken_before follower (suc n) payload stands
        ∙ ap (λ (k : ℕ). old_answer (suc n) (bytes_eq (get_or follower k []) payload)) less
        ∙ ap (old_answer (suc n)) (bytes_are (get_or follower n []) payload same) in
        subst (λ (given : Result Taken TakeFault). Goes leader follower payload given) (sym told) (record { trusts = tt; front = front })

    added : suc n ≡ length follower + 1 → Goes leader follower payload (taken follower (suc n) payload)
    added next =
        let later = next_is follower front.0 n payload at (omega (arith, next)) in
        let whole : (follower ++ payload ∷ []) ++ later.0 ≡ leader =
        append_assoc follower (payload ∷ []) later.0 ∙ ap (λ (rest : List (List ℕ)). follower ++ rest) (sym later.1) ∙ front.1 in
        let opens = front_registers (follower ++ payload ∷ []) later.0 (ap is_register whole ∙ legal) in
        let told : taken follower (suc n) payload ≡ Ok Added =
        taken_next follower (suc n) payload next ∙ fits (opened (follower ++ payload ∷ [])) opens in
        subst (λ (given : Result Taken TakeFault). Goes leader follower payload given) (sym told) (record { trusts = tt; front = (later.0, whole) })
      where
        fits : (r : Result (List Entry) Damage) → is_ok r ≡ true → next_answer r ≡ Ok Added
        fits (Ok entries) is = refl
        fits (Err broken) is = absurd (cc is)

    gap : length follower + 1 < suc n → Goes leader follower payload (taken follower (suc n) payload)
    gap later =
        subst (λ (given : Result Taken TakeFault). Goes leader follower payload given) (sym (taken_later follower (suc n) payload later))
        (record { trusts = tt; front = front })

    further : length follower < suc n → (t : Bool) → (suc n == length follower + 1) ≡ t → Goes leader follower payload (taken follower (suc n) payload)
    further behind true is = added (eqb-true (suc n) (length follower + 1) is)
    further behind false is = let other = eqb-false (suc n) (length follower + 1) is in gap (past (suc n) (length follower) behind other)
      where
        past : (a b : ℕ) → b < a → (a ≡ b + 1 → ⊥) → b + 1 < a
        past a b low other = omega (arith, low, other)

    by : (t : Bool) → nat_le (suc n) (length follower) ≡ t → Goes leader follower payload (taken follower (suc n) payload)
    by true is = known (leb-true (suc n) (length follower) is)
    by false is = further (leb-false (suc n) (length follower) is) (suc n == length follower + 1) refl

-- what a list has stays while it grows
payload_stays : (leader more : List (List ℕ)) (n : ℕ) (payload : List ℕ) → slice_get leader n ≡ Some payload → slice_get (leader ++ more) n ≡ Some payload
payload_stays [] more n payload is = absurd (cc is)
payload_stays (first ∷ leader) more zero payload is = is
payload_stays (first ∷ leader) more (suc n) payload is = payload_stays leader more n payload is

numbered_stays : (leader more : List (List ℕ)) (number : ℕ) (payload : List ℕ) → payload_at leader number ≡ Some payload
    → payload_at (leader ++ more) number ≡ Some payload
numbered_stays leader more zero payload is = absurd (cc is)
numbered_stays leader more (suc n) payload is = payload_stays leader more n payload is

module _ (w : World) (right : IsRightWorld w) where
  grows : (payload : List ℕ) (t : Bool) → is_register (w.leader ++ payload ∷ []) ≡ t
      → IsRightWorld (record { leader = if t then w.leader ++ payload ∷ [] else w.leader; sent = w.sent; follower = w.follower })
  grows payload true legal = record {
    legal = legal;
    front = (
      right.front.0 ++ payload ∷ [],
      sym (append_assoc w.follower right.front.0 (payload ∷ [])) ∙ ap (λ (all : List (List ℕ)). all ++ payload ∷ []) right.front.1,
    );
    sent = λ which m is. numbered_stays w.leader (payload ∷ []) m.number m.payload (right.sent which m is);
  }
  grows payload false legal = record { legal = right.legal; front = right.front; sent = right.sent }

  sends : (number : ℕ) (found : Option (List ℕ)) → payload_at w.leader number ≡ found
      → IsRightWorld (record { leader = w.leader; sent = with_sent w.sent number found; follower = w.follower })
  sends number None is = record { legal = right.legal; front = right.front; sent = right.sent }
  sends number (Some payload) is = record { legal = right.legal; front = right.front; sent = each }
    where
      each : (which : ℕ) (m : Message) → slice_get (with_sent w.sent number (Some payload)) which ≡ Some m → payload_at w.leader m.number ≡ Some m.payload
      each zero m same =
          let one : record { number = number; payload = payload } ≡ m = cc same in
          subst (λ (x : Message). payload_at w.leader x.number ≡ Some x.payload) one is
      each (suc which) m same = right.sent which m same

  comes : (found : Option Message) → ((m : Message) → found ≡ Some m → payload_at w.leader m.number ≡ Some m.payload)
      → IsRightWorld (record { leader = w.leader; sent = w.sent; follower = after_message w.follower found })
  comes None of = record { legal = right.legal; front = right.front; sent = right.sent }
  comes (Some m) of = record {
    legal = right.legal;
    front = (goes w.leader w.follower m.number m.payload right.legal right.front (of m refl)).front;
    sent = right.sent;
  }

  happens_right : (event : Event) → IsRightWorld (happens w event)
  happens_right (Grows payload) = grows payload (is_register (w.leader ++ payload ∷ [])) refl
  happens_right (Sends number) = sends number (payload_at w.leader number) refl
  happens_right (Comes which) = comes (slice_get w.sent which) (right.sent which)

  pub trusts : IsTrusting w
  trusts which m is = (goes w.leader w.follower m.number m.payload right.legal right.front (right.sent which m is)).trusts

pub all_right : (events : List Event) (w : World) → IsRightWorld w → IsRightWorld (after_all events w)
all_right [] w right = right
all_right (event ∷ events) w right = all_right events (happens w event) (happens_right w right event)

pub right_at_first : IsRightWorld nothing
right_at_first = record { legal = refl; front = ([], refl); sent = λ which m is. absurd (cc is) }
