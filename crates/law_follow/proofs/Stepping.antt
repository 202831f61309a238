-- The step of a follower of which nothing is pending.
use Rattle.std.proofs.Common.{◌≡◌, ◌∙◌, ap, refl, ◌↔◌, Bool, true, false, List, [], length, ℕ, ◌+◌, ◌-◌, ◌≤◌, ◌<◌, None, Ok, Err, Result, arith}
use Rattle.std.proofs.lemmas.List.{length-map}
use Rattle.std.specs.Prelude.{get_or, IsTrue}
use Rattle.std.specs.Str.{bytes_eq}
use Rattle.law_register.specs.declared.desk.damage.Damage.{Damage}
use Rattle.law_register.specs.declared.register.entry.Entry.{Entry}
use Rattle.law_register.proofs.Puts.{bytes_are, bytes_same}
use Rattle.entry_codec.specs.Entries.{spelling}
use Rattle.law_follow.specs.Opening.{spellings, with_payload}
use Rattle.law_follow.specs.Faults.{unfit_refusal}
use Rattle.law_follow.specs.Replicas.{IsPendingOn, IsRight, Judges, payloads_of}
use Rattle.law_follow.specs.Taking.{IsStep, Steps, next_answer, old_answer, taken}
use Rattle.law_follow.specs.declared.replica.Pending.{Pending}
use Rattle.law_follow.specs.declared.replica.Replica.{Replica}
use Rattle.law_follow.specs.declared.taken.Taken.{Taken}
use Rattle.law_follow.specs.declared.taken.Taken.TheVariants.{Added}
use Rattle.law_follow.specs.declared.taken.TakeFault.{TakeFault}
use Rattle.law_follow.specs.declared.taken.TakeFault.TheVariants as fault
use Rattle.law_follow.specs.declared.unfit.Unfit.{Unfit}
use Rattle.law_follow.specs.declared.unfit.Unfit.TheVariants as unfit
use Rattle.law_follow.proofs.Openings.{opened_next}
use Rattle.law_follow.proofs.Replies.{taken_before, taken_later, taken_next}

long : (entries : List Entry) → length (spellings entries) ≡ length entries
long entries = length-map entries spelling

-- two tests of one fact
same_test : (x y : List ℕ) (same : Bool) → IsTrue same ↔ (x ≡ y) → bytes_eq x y ≡ same
same_test x y true decides = bytes_are x y (decides.0 refl)
same_test x y false decides = by (bytes_eq x y) refl
  where
    by : (t : Bool) → bytes_eq x y ≡ t → t ≡ false
    by false is = refl
    by true is = absurd (let no : false ≡ true = decides.1 (bytes_same x y is) in cc no)

-- a payload whose number stands
same_step : (replica : Replica) (number : ℕ) (payload : List ℕ) (same : Bool) → number ≤ length replica.register.entries
    → IsTrue same ↔ (get_or (spellings replica.register.entries) (number - 1) [] ≡ payload)
    → taken (payloads_of replica) number payload ≡ old_answer number same
same_step replica number payload same stands decides =
    taken_before (payloads_of replica) number payload (omega (arith, stands, long replica.register.entries))
    ∙ ap (old_answer number) (same_test (get_or (payloads_of replica) (number - 1) []) payload same decides)

pub recognized : (replica : Replica) (number : ℕ) (payload : List ℕ) (same told : Bool) → same ≡ told → number ≤ length replica.register.entries → replica.pending ≡ None
    → IsTrue same ↔ (get_or (spellings replica.register.entries) (number - 1) [] ≡ payload) → IsStep number payload replica replica (old_answer number told)
recognized replica number payload same true is stands none decides =
    record { answered = same_step replica number payload same stands decides ∙ ap (old_answer number) is; payloads = refl; pending = none }
recognized replica number payload same false is stands none decides =
    record { answered = same_step replica number payload same stands decides ∙ ap (old_answer number) is; payloads = refl; pending = none }

-- one that is further on
abbrev gap_at : ℕ → ℕ → Result Taken TakeFault
gap_at number expected = Err (fault.Gap expected number)

pub gap_step : (replica : Replica) (number : ℕ) (payload : List ℕ) → length replica.register.entries + 1 < number
    → taken (payloads_of replica) number payload ≡ Err (fault.Gap (length replica.register.entries + 1) number)
gap_step replica number payload later =
    taken_later (payloads_of replica) number payload (omega (arith, later, long replica.register.entries))
    ∙ ap (λ (n : ℕ). gap_at number (n + 1)) (long replica.register.entries)

-- one that comes next is answered as an opening would find it
next_step : (replica : Replica) (number : ℕ) (payload : List ℕ) → IsRight replica → number ≡ length replica.register.entries + 1
    → taken (payloads_of replica) number payload ≡ next_answer (with_payload replica.register.entries payload)
next_step replica number payload right next =
    taken_next (payloads_of replica) number payload (omega (arith, next, long replica.register.entries))
    ∙ ap next_answer (opened_next replica.register.entries payload right.opens)

pub added_answer : (replica : Replica) (number : ℕ) (p : Pending) → IsRight replica → number ≡ length replica.register.entries + 1
    → IsPendingOn replica.register p → taken (payloads_of replica) number p.payload.items ≡ Ok Added
added_answer replica number p right next is =
    next_step replica number p.payload.items right next ∙ ap (λ (r : Result (List Entry) Damage). next_answer r) is.fits

pub refused_step : (replica : Replica) (number : ℕ) (payload : List ℕ) (why : Unfit) → IsRight replica → replica.pending ≡ None
    → number ≡ length replica.register.entries + 1 → Judges replica.register.entries (Err why) (with_payload replica.register.entries payload)
    → Steps number payload replica replica (Err (unfit_refusal why))
refused_step replica number payload (unfit.NoEntry broken) right none next judged = record {
  answered = next_step replica number payload right next ∙ ap (λ (r : Result (List Entry) Damage). next_answer r) judged;
  payloads = refl;
  pending = none;
}
refused_step replica number payload (unfit.NotAccepted rule) right none next judged = record {
  answered = next_step replica number payload right next ∙ ap (λ (r : Result (List Entry) Damage). next_answer r) judged;
  payloads = refl;
  pending = none;
}
refused_step replica number payload unfit.Memory right none next judged = record { payloads = refl; pending = none }
