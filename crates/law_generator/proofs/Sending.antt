-- What a command does to a desk that is ready for it.
use Rattle.std.proofs.Common.{◌≡◌, ◌≤◌, ◌∙◌, sym, ap, subst, ℕ, ◌+◌, ◌⊎◌, inl, inr, List, Option, None, Some, IsSome, Result, Ok, Err, arith}
use Rattle.std.proofs.lemmas.Option.{none-some}
use Rattle.desk_base.specs.Clocks.{GivesDay}
use Rattle.law_generator.specs.Acts.{first_day}
use Rattle.law_generator.specs.Courses.{HasGenerateCause, IsReady, IsSent, Sends, TellsOnly, after_command, done_of, judging_sent, left_by, sender, sending_cost}
use Rattle.law_register.specs.Desk.Commands.{AreSettled, Begins, Ends, HasCommandCause, IsIdle, IsPending, IsRefused, IsReplied, Waits, spending}
use Rattle.law_register.specs.Desk.States.{Standing}
use Rattle.law_register.specs.Answer.Renewing.{command_cost, judging_cost}
use Rattle.law_register.specs.Register.Entering.{entered, entry_of}
use Rattle.law_register.specs.declared.desk.command_fault.CommandFault.{CommandFault}
use Rattle.law_register.specs.declared.desk.command_fault.CommandFault.TheVariants as commands
use Rattle.law_register.specs.declared.law.command.Command.{Command}
use Rattle.law_register.specs.declared.register.entry.Entry.{Entry}
use Rattle.law_register.specs.declared.register.rules.Rule.{Rule}
use Rattle.law_register.specs.declared.register.verdict.Reply.{Reply}

-- a desk with nothing pending is settled as it is
settled_is : (entries : List Entry) (pending : Option Entry) (settled : List Entry) → pending ≡ None → AreSettled entries pending settled
    → settled ≡ entries
settled_is entries None settled none is = is
settled_is entries (Some entry) settled none is = absurd (none-some entry (sym none))

-- a clock that tells one day alone gives it, and goes on to
day_is : (old new : Option (ℕ → ℕ)) (day : ℕ) → TellsOnly first_day old → GivesDay old new day
    → (day ≡ first_day) × TellsOnly first_day new
day_is None new day tells gives = absurd tells
day_is (Some days) new day tells gives =
    let Tells : Option (ℕ → ℕ) → Type 0 = λ later. TellsOnly first_day later in
    (gives.0 ∙ tells 0, subst Tells (sym gives.1) (λ n. tells (n + 1)))

module _ (request : ℕ) (command : Command) (old new : Standing) (ready : IsReady old) where
  settles : (settled : List Entry) (day : ℕ) → Begins old new settled day → settled ≡ old.entries
  settles settled day begins = settled_is old.entries old.pending settled ready.pending begins.settles

  gives : (settled : List Entry) (day : ℕ) → Begins old new settled day → (day ≡ first_day) × TellsOnly first_day new.days
  gives settled day begins = day_is old.days new.days day ready.days begins.gives

  replied : (reply : Reply) → IsReplied sender request command old new reply → IsSent old new request command
  unfolding after_command
  replied reply is =
      let given = gives is.settled is.day is.begins in
      let Gives : List Entry → ℕ → Type 0 =
      λ entries day. entered entries sender request day command ≡ Ok (new.entries, reply) in
      let told : Gives old.entries first_day =
      subst (λ day. Gives old.entries day) given.0
      (subst (λ entries. Gives entries is.day) (settles is.settled is.day is.begins) is.entered) in
      record {
        entries = sym (ap (left_by old.entries) told);
        ready = record { pending = is.pending; days = given.1 };
      }

  refused : (rule : Rule) → IsRefused sender request command old new rule → IsSent old new request command
  unfolding after_command
  refused rule is =
      let same = settles new.entries is.day is.begins in
      let given = gives new.entries is.day is.begins in
      let Gives : List Entry → ℕ → Type 0 = λ entries day. entered entries sender request day command ≡ Err rule in
      let told : Gives old.entries first_day =
      subst (λ day. Gives old.entries day) given.0 (subst (λ entries. Gives entries is.day) same is.refused) in
      record {
        entries = same ∙ sym (ap (left_by old.entries) told);
        ready = record { pending = is.pending; days = given.1 };
      }

  failed : (Waits old new × IsSome old.pending) ⊎ IsPending sender request command old new → new.entries ≡ old.entries
  failed (inl (waits, some)) = waits.entries
  failed (inr is) = settles new.entries is.day is.begins

  wanting : Waits old new ⊎ IsIdle sender request command old new → new.entries ≡ old.entries
  wanting (inl waits) = waits.entries
  wanting (inr is) = settles new.entries is.day is.begins

  ends : (outcome : Result Reply CommandFault) → Ends sender request command old new outcome
      → Sends old new request command (done_of outcome)
  ends (Ok reply) is = replied reply is
  ends (Err (commands.Rule rule)) is = refused rule is
  ends (Err commands.KeeperFault) is = failed is
  ends (Err commands.Memory) is = wanting is

  pub sends : (name : List ℕ) (outcome : Result Reply CommandFault) → name ≡ sender
      → Ends name request command old new outcome → Sends old new request command (done_of outcome)
  sends name outcome same is =
      let ByName : List ℕ → Type 0 = λ n. Ends n request command old new outcome in
      ends outcome (subst ByName same is)

  -- what the command costs, behind the entries that there were, and on the first day
  abbrev cost_on : (List Entry → Entry → ℕ) → List Entry → ℕ → ℕ
  cost_on judging settled day =
      command_cost settled (entry_of sender request day None command) + judging_cost judging settled (entry_of sender request day None command)

  cost_is : (judging : List Entry → Entry → ℕ) (settled : List Entry) (day : ℕ) → Begins old new settled day
      → cost_on judging settled day ≡ sending_cost old.entries request command + judging_sent judging old.entries request command
  cost_is judging settled day begins =
      let same = settles settled day begins in
      let given = (gives settled day begins).0 in
      λ i. cost_on judging (same i) (given i)

  spends : (judging : List Entry → Entry → ℕ) (outcome : Result Reply CommandFault) (is : Ends sender request command old new outcome)
      → spending sender request command old new judging outcome is
      ≤ sending_cost old.entries request command + judging_sent judging old.entries request command
  spends judging (Ok reply) is = omega (arith, cost_is judging is.settled is.day is.begins)
  spends judging (Err (commands.Rule rule)) is = omega arith
  spends judging (Err commands.KeeperFault) (inl waited) = omega arith
  spends judging (Err commands.KeeperFault) (inr left) = omega (arith, cost_is judging new.entries left.day left.begins)
  spends judging (Err commands.Memory) (inl waited) = omega arith
  spends judging (Err commands.Memory) (inr idle) = omega (arith, cost_is judging new.entries idle.day idle.begins)

  pub spent : (judging : List Entry → Entry → ℕ) (name : List ℕ) (outcome : Result Reply CommandFault) (before after : ℕ) → name ≡ sender
      → (is : Ends name request command old new outcome) → after ≤ before + spending name request command old new judging outcome is
      → after ≤ before + sending_cost old.entries request command + judging_sent judging old.entries request command
  spent judging name outcome before after same is within =
      let Spends : List ℕ → Type 0 =
      λ n. (e : Ends n request command old new outcome) → after ≤ before + spending n request command old new judging outcome e
      → after ≤ before + sending_cost old.entries request command + judging_sent judging old.entries request command in
      let own : Spends sender = λ e few. omega (arith, few, spends judging outcome e) in
      subst Spends (sym same) own is within

-- the cause of a command that was not done is that of the run
pub causes : (before now : ℕ) (outcome : Result Reply CommandFault) → HasCommandCause before now outcome
    → HasGenerateCause before now (done_of outcome)
causes before now (Ok reply) is = is
causes before now (Err (commands.Rule rule)) is = is
causes before now (Err commands.KeeperFault) is = is
causes before now (Err commands.Memory) is = is
