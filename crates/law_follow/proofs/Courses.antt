-- How a follower goes on with one message more.
use Rattle.std.proofs.Common.{◌≡◌, ◌∙◌, sym, ap, subst, refl, arith, ℕ, ◌+◌, ◌-◌, ◌^◌, ◌<◌, ◌≤◌, List, [], ◌∷◌, ◌++◌, length, Option, Some, None, Result, Ok, Err, append_assoc, length-append}
use Rattle.std.specs.Prelude.{min}
use Rattle.std.proofs.lemmas.List.{append-nil}
use Rattle.law_follow.specs.Frames.{Message, front_of, holds}
use Rattle.law_follow.specs.Following.{AreTrusted, Course, HasCome, after_one, answer_of, begun, counted, followed, one_more}
use Rattle.law_follow.specs.Messages.{AreRead, StandAt}
use Rattle.law_follow.specs.Taking.{after_answer, after_taking, taken}
use Rattle.law_follow.specs.Worlds.{IsFrontOf, RefusesNothing}
use Rattle.law_follow.specs.declared.followed.Tally.{Tally}
use Rattle.law_follow.specs.declared.taken.Taken.{Taken}
use Rattle.law_follow.specs.declared.taken.Taken.TheVariants.{Added, Known}
use Rattle.law_follow.specs.declared.taken.TakeFault.{TakeFault}

-- one message more is read
stand_more : (bytes : List ℕ) (ms : List Message) (rest : List ℕ) (m : Message) (next : List ℕ) → StandAt bytes ms rest → front_of rest ≡ holds m next
    → StandAt bytes (ms ++ m ∷ []) next
stand_more bytes [] rest m next is front = (next, ap front_of (sym is) ∙ front, refl)
stand_more bytes (x ∷ ms) rest m next stands front = (stands.0, stands.1, stand_more stands.0 ms rest m next stands.2 front)

pub read_none : (input : Option (List ℕ)) → AreRead input [] input
read_none None = tt
read_none (Some bytes) = (bytes, refl, refl)

pub read_more : (input rest left : Option (List ℕ)) (ms : List Message) (m : Message) → AreRead input ms rest → AreRead rest (m ∷ []) left
    → AreRead input (ms ++ m ∷ []) left
read_more None rest left ms m all one = tt
read_more (Some bytes) rest left ms m all one = by (subst (λ (r : Option (List ℕ)). AreRead r (m ∷ []) left) all.1 one)
  where
    by : AreRead (Some all.0) (m ∷ []) left → AreRead (Some bytes) (ms ++ m ∷ []) left
    by one = (one.0, one.1, stand_more bytes ms all.0 m one.0 all.2 (one.2.1 ∙ ap (holds m) (sym one.2.2)))

-- and is not refused
trusts_more : (c : Course) (ms : List Message) (m : Message) → AreTrusted c.payloads ms → RefusesNothing (taken (followed c ms).payloads m.number m.payload)
    → AreTrusted c.payloads (ms ++ m ∷ [])
trusts_more c [] m trusts one = (one, tt)
trusts_more c (x ∷ ms) m trusts one = (trusts.0, trusts_more (after_one c x) ms m trusts.1 one)

followed_more : (c : Course) (ms : List Message) (m : Message) → followed c (ms ++ m ∷ []) ≡ after_one (followed c ms) m
followed_more c [] m = refl
followed_more c (x ∷ ms) m = followed_more (after_one c x) ms m

-- the course of a follower that has these payloads and answered so
abbrev pub course_of : List (List ℕ) → Tally → Course
course_of payloads tally = record { payloads = payloads; tally = tally }

-- a list that is a front of another
pub front_self : (all : List (List ℕ)) → IsFrontOf all all
front_self all = ([], append-nil all)

pub front_more : (all : List (List ℕ)) (payload : List ℕ) → IsFrontOf all (all ++ payload ∷ [])
front_more all payload = (payload ∷ [], refl)

pub front_then : (a b c : List (List ℕ)) → IsFrontOf a b → IsFrontOf b c → IsFrontOf a c
front_then a b c first second =
    (first.0 ++ second.0, sym (append_assoc a first.0 second.0) ∙ ap (λ (l : List (List ℕ)). l ++ second.0) first.1 ∙ second.1)

pub front_taking : (payloads : List (List ℕ)) (number : ℕ) (payload : List ℕ) → IsFrontOf payloads (after_taking payloads number payload)
front_taking payloads number payload = by (taken payloads number payload)
  where
    by : (r : Result Taken TakeFault) → IsFrontOf payloads (after_answer payloads payload r)
    by (Ok Added) = front_more payloads payload
    by (Ok Known) = front_self payloads
    by (Err refusal) = front_self payloads

pub front_followed : (c : Course) (ms : List Message) → IsFrontOf c.payloads (followed c ms).payloads
front_followed c [] = front_self c.payloads
front_followed c (m ∷ ms) =
    front_then c.payloads (after_one c m).payloads (followed (after_one c m) ms).payloads
    (front_taking c.payloads m.number m.payload) (front_followed (after_one c m) ms)

-- what a follower has begins with what it had
pub has_grown : (input : Option (List ℕ)) (old : List (List ℕ)) (ms : List Message) (rest : Option (List ℕ)) (now : Course) → HasCome input old ms rest now
    → IsFrontOf old now.payloads
has_grown input old ms rest now come = subst (λ (c : Course). IsFrontOf old c.payloads) come.goes (front_followed (begun old) ms)

-- one that has more than it had was given messages
pub some_read : (input : Option (List ℕ)) (old : List (List ℕ)) (ms : List Message) (rest : Option (List ℕ)) (now : Course) → HasCome input old ms rest now
    → length old < length now.payloads → 1 ≤ length ms
some_read input old [] rest now come more =
    let same : length old ≡ length now.payloads = ap (λ (c : Course). length c.payloads) come.goes in absurd (omega (arith, same, more))
some_read input old (m ∷ ms) rest now come more = omega arith

-- a count that stands still at its last value
again : (n : ℕ) → min (min (n + 1) (2 ^ 64 - 1) + 1) (2 ^ 64 - 1) ≡ min (n + 1 + 1) (2 ^ 64 - 1)
again n = omega arith

-- how far a loop has come, before the frame at a place
pub record HasGone (input : Option (List ℕ)) (old : List (List ℕ)) (rest : Option (List ℕ)) (now : Course) (place : ℕ) : Type 0 where
  pub messages : List Message
  pub come : HasCome input old messages rest now
  pub place_is : place ≡ one_more (length messages)

pub gone_none : (input : Option (List ℕ)) (old : List (List ℕ)) → HasGone input old input (begun old) 1
gone_none input old = record { messages = []; come = record { read = read_none input; trusts = tt; goes = refl }; place_is = omega arith }

pub gone_more : (input : Option (List ℕ)) (old : List (List ℕ)) (rest left : Option (List ℕ)) (payloads new : List (List ℕ)) (tally later : Tally) (place next : ℕ)
    (m : Message) (answer : Option Taken) → HasGone input old rest (record { payloads = payloads; tally = tally }) place → AreRead rest (m ∷ []) left
    → RefusesNothing (taken payloads m.number m.payload) → answer_of (taken payloads m.number m.payload) ≡ answer
    → new ≡ after_taking payloads m.number m.payload → later ≡ counted tally answer → next ≡ one_more place
    → HasGone input old left (record { payloads = new; tally = later }) next
gone_more input old rest left payloads new tally later place next m answer gone read trusted answered is count moved =
    let ms = gone.messages in
    let come = gone.come in
    record {
      messages = ms ++ m ∷ [];
      come = record {
        read = read_more input rest left ms m come.read read;
        trusts = trusts_more (begun old) ms m come.trusts
            (subst (λ (c : Course). RefusesNothing (taken c.payloads m.number m.payload)) (sym come.goes) trusted);
        goes =
            followed_more (begun old) ms m
            ∙ ap (λ (c : Course). after_one c m) come.goes
            ∙ ap (λ (l : List (List ℕ)). course_of l (counted tally (answer_of (taken payloads m.number m.payload)))) (sym is)
            ∙ ap (course_of new) (ap (counted tally) answered ∙ sym count);
      };
      place_is =
          moved
          ∙ ap one_more gone.place_is
          ∙ again (length ms)
          ∙ ap one_more (sym (length-append ms (m ∷ [])));
    }
