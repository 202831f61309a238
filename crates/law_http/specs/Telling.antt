-- What a desk tells of what is asked of it, and what is said of what it tells.
use Rattle.std.specs.Prelude.{◌≡◌, ◌≤◌, ◌+◌, ℕ, Bool, List, Option, None, Some, Result, Ok, Err, IfOk, length, vec_capacity, Vec, ⊤}
use Rattle.std.specs.declared.alloc.Global.{Global}
use Rattle.desk_base.specs.Crashes.{Crashes}
use Rattle.desk_base.specs.declared.memory.Memory.{Memory}
use Rattle.law_register.specs.Answer.Answers.{Answers}
use Rattle.law_register.specs.Answer.Asking.{answer_at}
use Rattle.law_register.specs.Answer.PastAsking.{AreKeysAfter}
use Rattle.law_register.specs.Answer.Previewing.{preview_at, previewing_at}
use Rattle.law_register.specs.Desk.Commands.{LeavesNoMore, spending}
use Rattle.law_register.specs.Desk.States.{DeskState, Found, standing}
use Rattle.law_register.specs.Register.Drafts.{draft_of}
use Rattle.law_register.specs.Register.LawList.{front}
use Rattle.law_register.specs.declared.answer.answer.Answer.{Answer}
use Rattle.law_register.specs.declared.answer.past_key.PastKey.{PastKey}
use Rattle.law_register.specs.declared.answer.queries.AskFault.{AskFault}
use Rattle.law_register.specs.declared.answer.queries.AskFault.TheVariants as ask
use Rattle.law_register.specs.declared.answer.queries.QueryRule.{QueryRule}
use Rattle.law_register.specs.declared.answer.question.Question.{Question}
use Rattle.law_register.specs.declared.desk.command_fault.CommandFault.{CommandFault}
use Rattle.law_register.specs.declared.register.draft.DraftItem.{DraftItem}
use Rattle.law_register.specs.declared.register.entry.Entry.{Entry}
use Rattle.law_register.specs.declared.register.verdict.Reply.{Reply as Outcome}
use Rattle.law_http.specs.Asking.{question_at, question_previewed}
use Rattle.law_http.specs.Responses.{Says, first_lines}
use Rattle.law_http.specs.Serving.{Does, SaysOutcome, Stays, answer_reply, answering_cost, draft_reply, front_reply, keys_answered}
use Rattle.law_http.specs.declared.asking.Asking.{Asking}
use Rattle.law_http.specs.declared.asking.Asking.TheVariants as asks
use Rattle.law_http.specs.declared.response.Response.{Response}
use Rattle.law_http.specs.declared.response.Response.TheVariants.{MemoryFault}
use Rattle.law_http.specs.declared.status.Status.TheVariants as status
use Rattle.law_http.specs.declared.telling.DeskTold.{DeskTold}
use Rattle.law_http.specs.declared.telling.DeskTold.TheVariants as told

module _ {D : Type 0} (state : D → DeskState) (crashes : D → Crashes Found) (past : D → List PastKey) where
  -- a question is answered, and nothing changes but which tables are kept of past viewpoints
  pub record TellsAnswer (q : Question) (old new : D) (result : Result Answer AskFault) : Type 0 where
    pub answer : Answers result (answer_at (state old).entries q)
    pub same : state new ≡ state old
    pub crash : LeavesNoMore (crashes old) (crashes new)
    pub keys : AreKeysAfter result (past old) (keys_answered (state old).entries q (past old)) (past new)

  -- what is asked is told
  abbrev pub Tells : Asking → D → D → DeskTold → Type 0
  Tells asks.Front old new t = Stays state crashes past old new × (t ≡ told.Front (front (state old).entries))
  Tells (asks.Text text) old new t = (result : Result Answer AskFault) × (t ≡ told.Answer result)
      × TellsAnswer (question_at (front (state old).entries) text) old new result
  Tells (asks.Preview preview) old new t = (result : Result Answer AskFault) × (t ≡ told.Answer result)
      × Stays state crashes past old new
      × Answers result (preview_at (state old).entries preview.drafter (question_previewed preview))
  Tells (asks.Draft drafter) old new t = (result : Result (List DraftItem) Memory) × (t ≡ told.Draft result)
      × Stays state crashes past old new
      × IfOk result (λ draft. draft ≡ draft_of drafter (state old).entries)
  Tells (asks.Command asked) old new t = (result : Result Outcome CommandFault) × (t ≡ told.Outcome result)
      × Does state crashes past asked old new result

  -- the steps that it may take, by what is told, where a desk judges so many references for an entry
  abbrev pub telling_cost : (judging : D → List Entry → Entry → ℕ) (asking : Asking) (old new : D) (t : DeskTold) → Tells asking old new t → ℕ
  telling_cost judging asks.Front old new t tells = 0
  telling_cost judging (asks.Text text) old new t tells =
      answering_cost (state old).entries (question_at (front (state old).entries) text) (past old)
  telling_cost judging (asks.Preview preview) old new t tells =
      previewing_at (state old).entries preview.drafter (question_previewed preview)
  telling_cost judging (asks.Draft drafter) old new t tells = 0
  telling_cost judging (asks.Command asked) old new t (result, is, does) =
      spending asked.drafter asked.request asked.command (standing (state old)) (standing (state new)) (judging old) result does.outcome

  -- what is asked is told, and so many steps were taken before it, and after
  pub record TellsWithin (judging : D → List Entry → Entry → ℕ) (asking : Asking) (old new : D) (t : DeskTold) (before after : ℕ) : Type 0 where
    pub tells : Tells asking old new t
    pub within : after ≤ before + telling_cost judging asking old new t tells

-- room for the response to a command that is accepted, with its first lines
abbrev pub IsRoom : Bool → Vec ℕ Global → Type 0
IsRoom closes message = (length message.items + 160 ≤ vec_capacity message) × (message.items ≡ first_lines status.Created None closes)

-- there is room where a command is asked for
abbrev pub HasRoom : Asking → Bool → Option (Vec ℕ Global) → Type 0
HasRoom (asks.Command asked) closes None = ⊥
HasRoom (asks.Command asked) closes (Some message) = IsRoom closes message
HasRoom asking closes room = ⊤

-- there is room where something was done
abbrev pub HasRoomFor : DeskTold → Bool → Option (Vec ℕ Global) → Type 0
HasRoomFor (told.Outcome result) closes None = ⊥
HasRoomFor (told.Outcome result) closes (Some message) = IsRoom closes message
HasRoomFor t closes room = ⊤

-- the response says what is told, or that there was not enough memory; of what was done nothing else can be said
abbrev pub SaysTold : Bool → DeskTold → Response → Type 0
SaysTold closes (told.Front n) response = Says (front_reply closes n) response
SaysTold closes (told.Answer result) response =
    ((answer : Result Answer QueryRule) → Answers result answer → Says (answer_reply closes answer) response)
    × (result ≡ Err ask.Memory → response ≡ MemoryFault)
SaysTold closes (told.Draft (Ok draft)) response = Says (draft_reply closes draft) response
SaysTold closes (told.Draft (Err fault)) response = response ≡ MemoryFault
SaysTold closes (told.Outcome result) response = SaysOutcome closes result response
