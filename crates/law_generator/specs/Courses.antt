-- What a desk has after so many requests, and what is told of it.
use Rattle.std.specs.Prelude.{ℕ, ◌≡◌, ◌≤◌, ◌+◌, zero, suc, List, [], ◌∷◌, ◌++◌, length, codes, Option, Some, None, Result, Ok, Err}
use Rattle.std.specs.Fmt.{decimal}
use Rattle.desk_base.specs.Streams.{risen}
use Rattle.law_generator.specs.Acts.{first_day, work}
use Rattle.law_generator.specs.Drawn.{Asked, asked}
use Rattle.law_generator.specs.declared.generate_fault.GenerateFault.{GenerateFault}
use Rattle.law_generator.specs.declared.generate_fault.GenerateFault.TheVariants as fails
use Rattle.law_generator.specs.declared.generated.Generated.{Generated}
use Rattle.law_register.specs.Answer.Asking.{answer_at}
use Rattle.law_register.specs.Answer.Renewing.{command_cost, judging_cost}
use Rattle.law_register.specs.Desk.States.{Standing}
use Rattle.law_register.specs.Register.Entering.{entered, entry_of}
use Rattle.law_register.specs.Register.LawList.{front}
use Rattle.law_register.specs.declared.answer.answer.Answer.{Answer}
use Rattle.law_register.specs.declared.answer.queries.QueryRule.{QueryRule}
use Rattle.law_register.specs.declared.answer.question.Question.{Question}
use Rattle.law_register.specs.declared.answer.question.Reading.TheVariants.{Force}
use Rattle.law_register.specs.declared.desk.command_fault.CommandFault.{CommandFault}
use Rattle.law_register.specs.declared.desk.command_fault.CommandFault.TheVariants as commands
use Rattle.law_register.specs.declared.law.command.Command.{Command}
use Rattle.law_register.specs.declared.register.entry.Entry.{Entry}
use Rattle.law_register.specs.declared.register.rules.Rule.{Rule}
use Rattle.law_register.specs.declared.register.verdict.Reply.{Reply}

-- who sends the requests
unfoldable pub sender : List ℕ
sender = codes "gen"

-- the entries that a command leaves: a refused one leaves those that there were
abbrev pub left_by : List Entry → Result (List Entry × Reply) Rule → List Entry
left_by entries (Ok made) = made.0
left_by entries (Err rule) = entries

-- the entries after a command of this request
unfoldable pub after_command : List Entry → ℕ → Command → List Entry
after_command entries request command = left_by entries (entered entries sender request first_day command)

-- a register, and the state of the draws
pub record Course : Type 0 where
  pub entries : List Entry
  pub state : ℕ

-- a course after one request more, of which this is the command
abbrev pub goes_on : List Entry → ℕ → Asked → Course
goes_on entries request drawn =
    record { entries = after_command entries request drawn.command; state = drawn.state }

-- the course of a seed after so many requests: they have the numbers 1, 2, .., and each is asked behind the law entries
-- that those before it left
unfoldable pub course : ℕ → ℕ → Course
course seed zero = record { entries = []; state = seed }
course seed (suc n) =
    goes_on (course seed n).entries (suc n) (asked (suc n) (front (course seed n).entries) (course seed n).state)

-- how many ids are applied at most for a request behind these entries: those of its command, on the first day
abbrev pub sending_cost : List Entry → ℕ → Command → ℕ
sending_cost entries request command = command_cost entries (entry_of sender request first_day None command)

-- how many references are judged at most for it, where so many are for an entry that stands behind others
abbrev pub judging_sent : (List Entry → Entry → ℕ) → List Entry → ℕ → Command → ℕ
judging_sent judging entries request command = judging_cost judging entries (entry_of sender request first_day None command)

-- the command of the request behind the first so many of a seed
abbrev pub command_after : ℕ → ℕ → Command
command_after seed n = (asked (suc n) (front (course seed n).entries) (course seed n).state).command

-- how many steps the first so many requests of a seed may take, where for each at most so many references are judged
unfoldable pub course_cost : (ℕ → ℕ) → ℕ → ℕ → ℕ
course_cost most seed zero = 0
course_cost most seed (suc n) =
    course_cost most seed n + sending_cost (course seed n).entries (suc n) (command_after seed n) + most n

-- for no request behind the first so many of a seed does a desk that has their entries judge more references than that
abbrev pub AreJudgedWithin : {D : Type 0} → (D → List Entry) → (D → List Entry → Entry → ℕ) → ℕ → (ℕ → ℕ) → Type 0
AreJudgedWithin entries_in judging seed most =
    (desk : _) (n : ℕ) → entries_in desk ≡ (course seed n).entries
    → judging_sent (judging desk) (entries_in desk) (suc n) (command_after seed n) ≤ most n

-- the entries of the register that a seed and a number of requests make
unfoldable pub entries_of : ℕ → ℕ → List Entry
entries_of seed count = (course seed count).entries

-- the question for the act as it is in force on 2010-01-01, at a viewpoint
unfoldable pub question_at : ℕ → Question
question_at viewpoint = record {
  work = work;
  language = codes "eng";
  version = Some 733773;
  portion = None;
  viewpoint = viewpoint;
  reading = Force;
}

-- the same at the front
abbrev pub question : List Entry → Question
question entries = question_at (front entries)

-- how many modifications an answer applies, and how many it could not apply; where there is no answer, there are none
abbrev pub how_many_applied : Result Answer QueryRule → ℕ
how_many_applied (Ok answer) = length answer.applied
how_many_applied (Err rule) = 0

abbrev pub how_many_unapplied : Result Answer QueryRule → ℕ
how_many_unapplied (Ok answer) = length answer.unapplied
how_many_unapplied (Err rule) = 0

-- the same of the answer that a register gives to that question
unfoldable pub applied_at : List Entry → ℕ
applied_at entries = how_many_applied (answer_at entries (question entries))

unfoldable pub unapplied_at : List Entry → ℕ
unapplied_at entries = how_many_unapplied (answer_at entries (question entries))

-- what is told of so many requests that left these entries
unfoldable pub told_of : ℕ → List Entry → Generated
told_of count entries = record {
  commands = count;
  accepted = length entries;
  law = front entries;
  applied = applied_at entries;
  unapplied = unapplied_at entries;
}

-- what is told of a seed and a number of requests
unfoldable pub generated : ℕ → ℕ → Generated
generated seed count = told_of count (entries_of seed count)

-- the line that tells it
unfoldable pub line_of : Generated → List ℕ
line_of g =
    codes "commands " ++ (decimal g.commands
    ++ (codes " accepted " ++ (decimal g.accepted
    ++ (codes " law " ++ (decimal g.law
    ++ (codes " applied " ++ (decimal g.applied
    ++ (codes " unapplied " ++ (decimal g.unapplied ++ 10 ∷ [])))))))))

-- a clock tells this day at each of its calls to come
abbrev pub TellsOnly : ℕ → Option (ℕ → ℕ) → Type 0
TellsOnly day None = ⊥
TellsOnly day (Some days) = (n : ℕ) → days n ≡ day

-- a desk is ready for requests: no entry is pending, and its clock tells the first day alone
pub record IsReady (standing : Standing) : Type 0 where
  pub pending : standing.pending ≡ None
  pub days : TellsOnly first_day standing.days

-- what a command that ended so is to the run: one that is refused is done, too
abbrev pub done_of : Result Reply CommandFault → Result Unit GenerateFault
done_of (Ok reply) = Ok tt
done_of (Err (commands.Rule rule)) = Ok tt
done_of (Err commands.KeeperFault) = Err fails.KeeperFault
done_of (Err commands.Memory) = Err fails.Memory

-- a request was done: the entries are those after its command, and the desk is ready for the next one
pub record IsSent (old new : Standing) (request : ℕ) (command : Command) : Type 0 where
  pub entries : new.entries ≡ after_command old.entries request command
  pub ready : IsReady new

-- a request was done; or it was not, and the entries stay
abbrev pub Sends : {T : Type 0} → Standing → Standing → ℕ → Command → Result T GenerateFault → Type 0
Sends old new request command (Ok done) = IsSent old new request command
Sends old new request command (Err fault) = new.entries ≡ old.entries

-- the keeper's failure comes only where its count of faults rose by one; else the count is as it was
abbrev pub HasGenerateCause : {T : Type 0} → ℕ → ℕ → Result T GenerateFault → Type 0
HasGenerateCause before now (Ok value) = now ≡ before
HasGenerateCause before now (Err fails.KeeperFault) = now ≡ risen before
HasGenerateCause before now (Err fails.Memory) = now ≡ before

-- these entries are those after the first requests of a seed, this many or fewer
pub record IsCut (seed count : ℕ) (entries : List Entry) : Type 0 where
  pub done : ℕ
  pub within : done ≤ count
  pub entries_are : entries ≡ entries_of seed done
