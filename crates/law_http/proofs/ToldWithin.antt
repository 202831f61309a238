-- What is said of what a desk told serves what was asked.
use Rattle.std.proofs.Common.{◌≡◌, ◌∙◌, sym, ap, subst, refl, ℕ, ◌≤◌, ◌+◌, Bool, ◌⊎◌, inl, inr, List, Option, None, Some, Result, Ok, Err, IfOk, arith}
use Rattle.std.specs.Prelude.{Vec}
use Rattle.std.specs.declared.alloc.Global.{Global}
use Rattle.desk_base.specs.Crashes.{AreCrashes, Crashes}
use Rattle.desk_base.specs.declared.memory.Memory.{Memory}
use Rattle.law_register.specs.Answer.Answers.{Answers}
use Rattle.law_register.specs.Answer.PastAsking.{AreKeysAfter}
use Rattle.law_register.specs.Desk.Commands.{LeavesNoMore}
use Rattle.law_register.specs.Desk.States.{DeskState, Found}
use Rattle.law_register.specs.Register.Drafts.{draft_of}
use Rattle.law_register.specs.declared.answer.answer.Answer.{Answer}
use Rattle.law_register.specs.declared.answer.past_key.PastKey.{PastKey}
use Rattle.law_register.specs.declared.answer.queries.AskFault.{AskFault}
use Rattle.law_register.specs.declared.answer.queries.AskFault.TheVariants as ask
use Rattle.law_register.specs.declared.desk.command_fault.CommandFault.{CommandFault}
use Rattle.law_register.specs.declared.desk.command_fault.CommandFault.TheVariants as fails
use Rattle.law_register.specs.declared.register.draft.DraftItem.{DraftItem}
use Rattle.law_register.specs.declared.register.entry.Entry.{Entry}
use Rattle.law_register.specs.declared.register.verdict.Reply.{Reply as Outcome}
use Rattle.law_http.specs.Responses.{Says, reply_bytes}
use Rattle.law_http.specs.Serving.{ServesAsking, ServesWithin, Stays, accepted_reply, draft_reply}
use Rattle.law_http.specs.Telling.{HasRoom, HasRoomFor, SaysTold, Tells, TellsWithin}
use Rattle.law_http.specs.declared.asking.Asking.{Asking}
use Rattle.law_http.specs.declared.asking.Asking.TheVariants as asks
use Rattle.law_http.specs.declared.response.Response.{Response}
use Rattle.law_http.specs.declared.response.Response.TheVariants.{Made, MemoryFault, KeeperFault}
use Rattle.law_http.specs.declared.telling.DeskTold.{DeskTold}
use Rattle.law_http.specs.declared.telling.DeskTold.TheVariants as told

keys_told : {A : Type 0} (result : Result A AskFault) (response : Response) (old asked new : List PastKey) → AreKeysAfter result old asked new
    → (result ≡ Err ask.Memory → response ≡ MemoryFault) → (new ≡ asked) ⊎ ((response ≡ MemoryFault) × (new ≡ old))
keys_told (Ok answer) response old asked new keys fault = inl keys
keys_told (Err (ask.Query rule)) response old asked new keys fault = inl keys
keys_told (Err ask.Memory) response old asked new (inl keys) fault = inl keys
keys_told (Err ask.Memory) response old asked new (inr keys) fault = inr (fault refl, keys)

draft_told : (closes : Bool) (result : Result (List DraftItem) Memory) (draft : List DraftItem) (response : Response) → IfOk result (λ d. d ≡ draft)
    → SaysTold closes (told.Draft result) response → Says (draft_reply closes draft) response
draft_told closes (Ok d) draft response is says = subst (λ x. Says (draft_reply closes x) response) is says
draft_told closes (Err fault) draft response is says = inr says

-- some response that says it
pub some_response : (closes : Bool) (t : DeskTold) → (response : Response) × SaysTold closes t response
some_response closes (told.Front n) = (MemoryFault, inr refl)
some_response closes (told.Answer result) = (MemoryFault, ((λ answer is. inr refl), λ fault. refl))
some_response closes (told.Draft (Ok draft)) = (MemoryFault, inr refl)
some_response closes (told.Draft (Err fault)) = (MemoryFault, refl)
some_response closes (told.Outcome (Ok outcome)) = (Made (reply_bytes (accepted_reply closes outcome)) closes, refl)
some_response closes (told.Outcome (Err (fails.Rule rule))) = (MemoryFault, inr refl)
some_response closes (told.Outcome (Err fails.KeeperFault)) = (KeeperFault closes, refl)
some_response closes (told.Outcome (Err fails.Memory)) = (MemoryFault, refl)

module _ {D : Type 0} (state : D → DeskState) (crashes : D → Crashes Found) (past : D → List PastKey) where
  pub told_serves : (closes : Bool) (asking : Asking) (old new : D) (t : DeskTold) (response : Response) → Tells state crashes past asking old new t
      → SaysTold closes t response → ServesAsking state crashes past closes (Ok asking) old new response
  told_serves closes asks.Front old new t response (stays, is) says = (stays, subst (λ x. SaysTold closes x response) is says)
  told_serves closes (asks.Text text) old new t response (result, is, tells) says =
      let (answers, fault) = subst (λ x. SaysTold closes x response) is says in (
        record { same = tells.same; crash = tells.crash; keys = keys_told result response _ _ _ tells.keys fault },
        answers _ tells.answer,
      )
  told_serves closes (asks.Preview preview) old new t response (result, is, stays, tells) says =
      let (answers, fault) = subst (λ x. SaysTold closes x response) is says in (stays, answers _ tells)
  told_serves closes (asks.Draft drafter) old new t response (result, is, stays, tells) says =
      (stays, draft_told closes result (draft_of drafter (state old).entries) response tells (subst (λ x. SaysTold closes x response) is says))
  told_serves closes (asks.Command asked) old new t response (result, is, does) says =
      inr (result, does, subst (λ x. SaysTold closes x response) is says)

  pub told_within : (judging : D → List Entry → Entry → ℕ) (closes : Bool) (asking : Asking) (old new : D) (t : DeskTold) (response : Response) (before after : ℕ)
      → TellsWithin state crashes past judging asking old new t before after → SaysTold closes t response
      → ServesWithin state crashes past judging closes (Ok asking) old new response before after
  told_within judging closes asks.Front old new t response before after w says =
      record { serves = told_serves closes asks.Front old new t response w.tells says; within = w.within }
  told_within judging closes (asks.Text text) old new t response before after w says =
      record { serves = told_serves closes (asks.Text text) old new t response w.tells says; within = w.within }
  told_within judging closes (asks.Preview preview) old new t response before after w says =
      record { serves = told_serves closes (asks.Preview preview) old new t response w.tells says; within = w.within }
  told_within judging closes (asks.Draft drafter) old new t response before after w says =
      record { serves = told_serves closes (asks.Draft drafter) old new t response w.tells says; within = w.within }
  told_within judging closes (asks.Command asked) old new t response before after w says =
      record { serves = inr (w.tells.0, w.tells.2, subst (λ x. SaysTold closes x response) w.tells.1 says); within = w.within }

  -- there was no memory before anything was asked
  memory_serves : (closes : Bool) (asking : Asking) (desk : D) → Stays state crashes past desk desk
      → ServesAsking state crashes past closes (Ok asking) desk desk MemoryFault
  memory_serves closes asks.Front desk stays = (stays, inr refl)
  memory_serves closes (asks.Text text) desk stays = (record { same = refl; crash = stays.crash; keys = inr (refl, refl) }, inr refl)
  memory_serves closes (asks.Preview preview) desk stays = (stays, inr refl)
  memory_serves closes (asks.Draft drafter) desk stays = (stays, inr refl)
  memory_serves closes (asks.Command asked) desk stays = inl (stays, refl)

  pub memory_within : (judging : D → List Entry → Entry → ℕ) (closes : Bool) (asking : Asking) (desk : D) (steps : ℕ) → Stays state crashes past desk desk
      → ServesWithin state crashes past judging closes (Ok asking) desk desk MemoryFault steps steps
  memory_within judging closes asking desk steps stays = record { serves = memory_serves closes asking desk stays; within = omega arith }

  -- a desk stays as it is
  pub stays_itself : ((desk : D) → AreCrashes (crashes desk)) → (desk : D) → Stays state crashes past desk desk
  stays_itself are desk = record {
    same = refl;
    crash = λ tells. record {
      tells = tells;
      now = λ thing may. may;
      any_moment = λ moments. record {
        tells = moments;
        later = omega arith;
        since = λ thing left. (are desk).only_now moments thing left;
        before = λ t thing le left. inl left;
      };
    };
    keys = refl;
  }

  -- the room that was made is there
  pub room_told : (closes : Bool) (asking : Asking) (old new : D) (t : DeskTold) (room : Option (Vec ℕ Global)) → Tells state crashes past asking old new t
      → HasRoom asking closes room → HasRoomFor t closes room
  room_told closes asks.Front old new t room (stays, is) has = subst (λ x. HasRoomFor x closes room) (sym is) tt
  room_told closes (asks.Text text) old new t room (result, is, tells) has = subst (λ x. HasRoomFor x closes room) (sym is) tt
  room_told closes (asks.Preview preview) old new t room (result, is, stays, tells) has = subst (λ x. HasRoomFor x closes room) (sym is) tt
  room_told closes (asks.Draft drafter) old new t room (result, is, stays, tells) has = subst (λ x. HasRoomFor x closes room) (sym is) tt
  room_told closes (asks.Command asked) old new t None (result, is, does) has = absurd has
  room_told closes (asks.Command asked) old new t (Some message) (result, is, does) has = subst (λ x. HasRoomFor x closes (Some message)) (sym is) has
