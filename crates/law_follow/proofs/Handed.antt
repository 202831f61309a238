-- What a follower of which nothing is pending makes of one message.
use Rattle.std.proofs.Common.{◌≡◌, ◌∙◌, sym, ap, subst, refl, ℕ, ◌+◌, ◌-◌, Bool, true, false, List, [], ◌∷◌, ◌++◌, length, Option, Some, None, Result, Ok, Err}
use Rattle.std.specs.Prelude.{◌==◌, nat_le, get_or, if◌then◌else◌}
use Rattle.std.specs.Str.{bytes_eq}
use Rattle.law_register.specs.declared.desk.damage.Damage.{Damage}
use Rattle.law_register.specs.declared.desk.damage.Damage.TheVariants as damage
use Rattle.law_register.specs.declared.register.entry.Entry.{Entry}
use Rattle.law_follow.specs.Following.{IsDenied, IsTrusted, ReadsAt, TakesMessage, answer_of, answer_to}
use Rattle.law_follow.specs.Frames.{Message, Reads}
use Rattle.law_follow.specs.Opening.{opened}
use Rattle.law_follow.specs.Replicas.{payloads_of, pending_of}
use Rattle.law_follow.specs.Taking.{IsLeft, IsStep, Steps, after_answer, next_answer, old_answer, taken}
use Rattle.law_follow.specs.Worlds.{RefusesNothing}
use Rattle.law_follow.specs.declared.frame.Frame.{Frame}
use Rattle.law_follow.specs.declared.replica.Pending.{Pending}
use Rattle.law_follow.specs.declared.replica.Replica.{Replica}
use Rattle.law_follow.specs.declared.taken.Taken.{Taken}
use Rattle.law_follow.specs.declared.taken.TakeFault.{TakeFault}
use Rattle.law_follow.specs.declared.taken.TakeFault.TheVariants as fault

-- what comes next in a stream
pub read_at : (place : ℕ) (rest left : Option (List ℕ)) (next : Option Frame) → Reads rest left (Ok next) → ReadsAt place rest left (Ok next)
read_at place rest left None read = read
read_at place None left (Some f) read = tt
read_at place (Some bytes) left (Some f) read = (read.0, read.1, (read.0, read.2, refl))

-- nothing is pending
pub none_given : (pending : Option Pending) → pending ≡ None → pending_of pending ≡ None
none_given pending none = ap (λ (p : Option Pending). pending_of p) none

-- a conflict is at the number that was given
conflict_next : (number : ℕ) (r : Result (List Entry) Damage) (n : ℕ) → next_answer r ≡ Err (fault.Conflict n) → n ≡ number
conflict_next number (Ok entries) n is = absurd (cc is)
conflict_next number (Err (damage.Journal place byte)) n is = absurd (cc is)
conflict_next number (Err (damage.Entry k place byte)) n is = absurd (cc is)
conflict_next number (Err (damage.Order k rule)) n is = absurd (cc is)

conflict_number : (payloads : List (List ℕ)) (number : ℕ) (payload : List ℕ) (n : ℕ) → taken payloads number payload ≡ Err (fault.Conflict n) → n ≡ number
unfolding taken
conflict_number payloads number payload n =
    by (nat_le number (length payloads)) (bytes_eq (get_or payloads (number - 1) []) payload) (number == length payloads + 1)
  where
    by : (stands same next : Bool)
        → (if stands then old_answer number same
        else if next then next_answer (opened (payloads ++ payload ∷ []))
        else Err (fault.Gap (length payloads + 1) number)) ≡ Err (fault.Conflict n)
        → n ≡ number
    by true true next is = absurd (cc is)
    by true false next is = let same : number ≡ n = cc is in sym same
    by false same true is = conflict_next number (opened (payloads ++ payload ∷ [])) n is
    by false same false is = absurd (cc is)

-- a message is given
module _ (m : Message) (old new : Replica) where
  trusted : (given : Result Taken TakeFault) → RefusesNothing given → IsStep m.number m.payload old new given
      → IsTrusted m (payloads_of old) (payloads_of new) (answer_of given)
  trusted given fine step = record {
    trusted = subst RefusesNothing (sym step.answered) fine;
    answered = ap answer_of step.answered;
    payloads = step.payloads ∙ ap (after_answer (payloads_of old) m.payload) (sym step.answered);
  }

  denied : (why : TakeFault) (number : ℕ) → number ≡ m.number → IsStep m.number m.payload old new (Err why)
      → IsDenied m (payloads_of old) (payloads_of new) number why
  denied why number same step = record { answered = step.answered; payloads = step.payloads; number_is = same }

  conflict : (n : ℕ) → IsStep m.number m.payload old new (Err (fault.Conflict n))
      → IsDenied m (payloads_of old) (payloads_of new) m.number (fault.Conflict m.number)
  conflict n step =
      subst (λ (k : ℕ). IsDenied m (payloads_of old) (payloads_of new) m.number (fault.Conflict k))
      (conflict_number (payloads_of old) m.number m.payload n step.answered)
      (denied (fault.Conflict n) m.number refl step)

  none_left : new.pending ≡ None → IsLeft m.number m.payload old new → ⊥
  none_left settled left = let no : None ≡ Some m.payload = sym (none_given new.pending settled) ∙ left.pending in cc no

  pub judged_message : (given : Result Taken TakeFault) → new.pending ≡ None → Steps m.number m.payload old new given
      → TakesMessage m (payloads_of old) (payloads_of new) (answer_to m.number given)
  judged_message (Ok answer) settled step = trusted (Ok answer) tt step
  judged_message (Err (fault.Gap expected got)) settled step = trusted (Err (fault.Gap expected got)) tt step
  judged_message (Err (fault.Conflict n)) settled step = conflict n step
  judged_message (Err (fault.BadEntry broken)) settled step = denied (fault.BadEntry broken) m.number refl step
  judged_message (Err (fault.NotAccepted rule)) settled step = denied (fault.NotAccepted rule) m.number refl step
  judged_message (Err fault.KeeperFault) settled left = absurd (none_left settled left)
  judged_message (Err fault.Memory) settled still = still.payloads
