-- A follower that holds a front of a register, and is given the rest of it, holds the whole.
use Rattle.std.proofs.Common.{◌≡◌, ◌∙◌, sym, ap, subst, refl, true, List, [], ◌∷◌, ◌++◌, length, take, drop, ℕ, ◌+◌, ◌-◌, ◌≤◌, Ok, Err, Result, arith, append_assoc, length-append, take-append-drop}
use Rattle.std.specs.Prelude.{get_or, is_ok}
use Rattle.std.specs.List.{AllByRecursion}
use Rattle.std.specs.Str.{bytes_eq}
use Rattle.std.proofs.lemmas.List.{append-nil, drop-append-le, length-take-le}
use Rattle.law_register.specs.declared.desk.damage.Damage.{Damage}
use Rattle.law_register.specs.declared.register.entry.Entry.{Entry}
use Rattle.law_register.proofs.Puts.{bytes_are}
use Rattle.law_follow.specs.Following.{AreTrusted, CatchesUp, Course, after_one, begun, followed}
use Rattle.law_follow.specs.Frames.{Message, frame, front_of}
use Rattle.law_follow.specs.Messages.{IsSent, StandAt, frames, messages_above, numbered}
use Rattle.law_follow.specs.Opening.{opened}
use Rattle.law_follow.specs.Taking.{after_answer, next_answer, old_answer, taken}
use Rattle.law_follow.specs.Worlds.{RefusesNothing, is_register}
use Rattle.law_follow.specs.declared.taken.Taken.{Taken}
use Rattle.law_follow.specs.declared.taken.Taken.TheVariants.{Added, Known}
use Rattle.law_follow.specs.declared.taken.TakeFault.{TakeFault}
use Rattle.law_follow.proofs.Heads.{frame_read}
use Rattle.law_follow.proofs.Openings.{front_registers}
use Rattle.law_follow.proofs.Replies.{taken_before, taken_next}

-- frames one behind another are read as the messages that they spell
pub stream_read : (ms : List Message) (rest : List ℕ) → AllByRecursion IsSent ms → StandAt (frames ms ++ rest) ms rest
stream_read [] rest sent = refl
stream_read (m ∷ ms) rest sent = (
  frames ms ++ rest,
  ap front_of (append_assoc (frame m) (frames ms) rest) ∙ frame_read m (frames ms ++ rest) sent.0.0 sent.0.1,
  stream_read ms rest sent.1,
)

-- a follower on its course has caught up with these payloads by the messages of those that are left
record Caught (c : Course) (passed left : List (List ℕ)) : Type 0 where
  trusts : AreTrusted c.payloads (numbered (length passed + 1) left)
  whole : (followed c (numbered (length passed + 1) left)).payloads ≡ passed ++ left

abbrev next_message : List (List ℕ) → List ℕ → Message
next_message passed payload = record { number = length passed + 1; payload = payload }

abbrev after_next : Course → List (List ℕ) → List ℕ → Course
after_next c passed payload = after_one c (next_message passed payload)

-- one message that is answered so, and then those behind it
caught_more : (c : Course) (passed : List (List ℕ)) (payload : List ℕ) (left : List (List ℕ)) (answer : Taken)
    → taken c.payloads (length passed + 1) payload ≡ Ok answer → Caught (after_next c passed payload) (passed ++ payload ∷ []) left
    → Caught c passed (payload ∷ left)
caught_more c passed payload left answer told caught = record {
  trusts = (
    subst (λ (r : Result Taken TakeFault). RefusesNothing r) (sym told) tt,
    subst (λ (n : ℕ). AreTrusted (after_next c passed payload).payloads (numbered (n + 1) left)) long caught.trusts,
  );
  whole =
      subst (λ (n : ℕ). (followed (after_next c passed payload) (numbered (n + 1) left)).payloads ≡ (passed ++ payload ∷ []) ++ left) long caught.whole
      ∙ append_assoc passed (payload ∷ []) left;
}
  where
    long : length (passed ++ payload ∷ []) ≡ length passed + 1
    long = length-append passed (payload ∷ [])

-- what comes next is added
catches_new : (c : Course) (passed beyond : List (List ℕ)) → c.payloads ≡ passed → is_register (passed ++ beyond) ≡ true → Caught c passed beyond
catches_new c passed [] is legal = record { trusts = tt; whole = is ∙ sym (append-nil passed) }
catches_new c passed (payload ∷ beyond) is legal =
    let whole : (passed ++ payload ∷ []) ++ beyond ≡ passed ++ payload ∷ beyond = append_assoc passed (payload ∷ []) beyond in
    let opens : is_register (passed ++ payload ∷ []) ≡ true = front_registers (passed ++ payload ∷ []) beyond (ap is_register whole ∙ legal) in
    let told : taken c.payloads (length passed + 1) payload ≡ Ok Added =
    ap (λ (ps : List (List ℕ)). taken ps (length passed + 1) payload) is
    ∙ taken_next passed (length passed + 1) payload refl
    ∙ fits (opened (passed ++ payload ∷ [])) opens in
    caught_more c passed payload beyond Added told
    (catches_new (after_next c passed payload) (passed ++ payload ∷ []) beyond
    (ap (after_answer c.payloads payload) told ∙ ap (λ (ps : List (List ℕ)). ps ++ payload ∷ []) is)
    (ap is_register whole ∙ legal))
  where
    fits : (r : Result (List Entry) Damage) → is_ok r ≡ true → next_answer r ≡ Ok Added
    fits (Ok entries) is = refl
    fits (Err broken) is = absurd (cc is)

payload_there : (passed : List (List ℕ)) (payload : List ℕ) (more : List (List ℕ)) → get_or (passed ++ payload ∷ more) (length passed) [] ≡ payload
payload_there [] payload more = refl
payload_there (first ∷ passed) payload more = payload_there passed payload more

-- and what stands already is known
catches : (c : Course) (passed more beyond : List (List ℕ)) → c.payloads ≡ passed ++ more → is_register (passed ++ (more ++ beyond)) ≡ true
    → Caught c passed (more ++ beyond)
catches c passed [] beyond is legal = catches_new c passed beyond (is ∙ append-nil passed) legal
catches c passed (payload ∷ more) beyond is legal =
    let n : ℕ = length passed + 1 in
    let long : length (passed ++ payload ∷ more) ≡ length passed + length (payload ∷ more) = length-append passed (payload ∷ more) in
    let told : taken c.payloads n payload ≡ Ok Known =
    ap (λ (ps : List (List ℕ)). taken ps n payload) is
    ∙ taken_before (passed ++ payload ∷ more) n payload (omega (arith, long))
    ∙ ap (λ (k : ℕ). old_answer n (bytes_eq (get_or (passed ++ payload ∷ more) k []) payload)) (less (length passed))
    ∙ ap (old_answer n) (bytes_are (get_or (passed ++ payload ∷ more) (length passed) []) payload (payload_there passed payload more)) in
    caught_more c passed payload (more ++ beyond) Known told
    (catches (after_next c passed payload) (passed ++ payload ∷ []) more beyond
    (ap (after_answer c.payloads payload) told ∙ is ∙ sym (append_assoc passed (payload ∷ []) more))
    (ap is_register (append_assoc passed (payload ∷ []) (more ++ beyond)) ∙ legal))
  where
    less : (k : ℕ) → k + 1 - 1 ≡ k
    less k = omega arith

pub catches_up : (front rest : List (List ℕ)) (from : ℕ) → is_register (front ++ rest) ≡ true → from ≤ length front
    → CatchesUp front (messages_above from (front ++ rest)) (front ++ rest)
catches_up front rest from legal within = record {
  trusts = subst (λ (ms : List Message). AreTrusted front ms) same caught.trusts;
  whole = ap (λ (ms : List Message). (followed (begun front) ms).payloads) (sym same) ∙ caught.whole ∙ all;
}
  where
    halves : take from front ++ drop from front ≡ front
    halves = take-append-drop from front

    all : take from front ++ (drop from front ++ rest) ≡ front ++ rest
    all = sym (append_assoc (take from front) (drop from front) rest) ∙ ap (λ (l : List (List ℕ)). l ++ rest) halves

    caught : Caught (begun front) (take from front) (drop from front ++ rest)
    caught = catches (begun front) (take from front) (drop from front) rest (sym halves) (ap is_register all ∙ legal)

    long : length (take from front) ≡ from
    long = length-take-le from front within

    same : numbered (length (take from front) + 1) (drop from front ++ rest) ≡ messages_above from (front ++ rest)
    same =
        ap (λ (n : ℕ). numbered (n + 1) (drop from front ++ rest)) long
        ∙ ap (numbered (from + 1)) (sym (drop-append-le from front rest within))
