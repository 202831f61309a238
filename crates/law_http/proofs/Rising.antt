-- What holds along the requests that are answered: the counts of faults, and the names of what the desk was lent.
use Rattle.std.proofs.Common.{◌≡◌, ◌∙◌, ap, refl, ℕ, ◌+◌, ◌-◌, ◌^◌, max, min, Bool, inl, inr, List, [], ◌∷◌, Result, Ok, Err, arith}
use Rattle.desk_base.specs.Crashes.{Crashes}
use Rattle.law_register.specs.Desk.Commands.{HasCommandCause}
use Rattle.law_register.specs.Desk.States.{DeskState, Found}
use Rattle.law_register.specs.declared.answer.past_key.PastKey.{PastKey}
use Rattle.law_register.specs.declared.desk.command_fault.CommandFault.{CommandFault}
use Rattle.law_register.specs.declared.desk.command_fault.CommandFault.TheVariants as fails
use Rattle.law_register.specs.declared.register.verdict.Reply.{Reply as Outcome}
use Rattle.law_register.specs.Answer.Asking.{answer_at}
use Rattle.law_register.specs.Answer.Previewing.{preview_at}
use Rattle.law_register.specs.Register.Drafts.{draft_of}
use Rattle.law_register.specs.Register.LawList.{front}
use Rattle.law_http.specs.Asking.{asking_of, question_at, question_previewed}
use Rattle.law_http.specs.Refusals.{request_reply}
use Rattle.law_http.specs.Responses.{Reply, Says}
use Rattle.law_http.specs.Serving.{SaysOutcome, ServesAsking, ServesCommand, answer_reply, draft_reply, front_reply, rule_reply}
use Rattle.law_http.specs.Streaming.{AreServed, Exchange, RoseBy, fault_told, faults_told}
use Rattle.law_http.specs.declared.asking.Asking.{Asking}
use Rattle.law_http.specs.declared.asking.Asking.TheVariants as asks
use Rattle.akn_json.specs.declared.asked.Asked.{Asked}
use Rattle.law_http.specs.declared.refusal.RequestRefusal.{RequestRefusal}
use Rattle.law_http.specs.declared.response.Response.{Response}

quiet : (reply : Reply) (response : Response) → Says reply response → fault_told response ≡ 0
quiet reply response (inl made) = ap fault_told made
quiet reply response (inr fault) = ap fault_told fault

unmoved : (most n before now : ℕ) → n ≡ 0 → now ≡ before → now ≡ max before (min (before + n) most)
unmoved most n before now none same = omega (arith, none, same)

risen : (most n before now : ℕ) → n ≡ 1 → now ≡ max before (min (before + 1) most) → now ≡ max before (min (before + n) most)
risen most n before now one rose = omega (arith, one, rose)

then_risen : (most m n a b c : ℕ) → b ≡ max a (min (a + m) most) → c ≡ max b (min (b + n) most) → c ≡ max a (min (a + (m + n)) most)
then_risen most m n a b c first second = omega (arith, first, second)

outcome_rises : (closes : Bool) (result : Result Outcome CommandFault) (response : Response) (before now : ℕ)
    → HasCommandCause before now result → SaysOutcome closes result response → RoseBy (fault_told response) before now
outcome_rises closes (Ok outcome) response before now cause says = unmoved (2 ^ 64 - 1) (fault_told response) before now (ap fault_told says) cause
outcome_rises closes (Err (fails.Rule rule)) response before now cause says = unmoved (2 ^ 64 - 1) (fault_told response) before now (quiet (rule_reply closes rule) response says) cause
outcome_rises closes (Err fails.KeeperFault) response before now cause says = risen (2 ^ 64 - 1) (fault_told response) before now (ap fault_told says) cause
outcome_rises closes (Err fails.Memory) response before now cause says = unmoved (2 ^ 64 - 1) (fault_told response) before now (ap fault_told says) cause

command_rises : {D : Type 0} (state : D → DeskState) (crashes : D → Crashes Found) (past : D → List PastKey) (closes : Bool) (asked : Asked) (old new : D) (response : Response)
    → ServesCommand state crashes past closes asked old new response → RoseBy (fault_told response) (state old).faults (state new).faults
command_rises state crashes past closes asked old new response (inl (stays, fault)) =
    unmoved (2 ^ 64 - 1) (fault_told response) (state old).faults (state new).faults (ap fault_told fault) (ap (λ (s : DeskState). s.faults) stays.same)
command_rises state crashes past closes asked old new response (inr (result, does, says)) =
    outcome_rises closes result response (state old).faults (state new).faults does.cause says

asking_rises : {D : Type 0} (state : D → DeskState) (crashes : D → Crashes Found) (past : D → List PastKey) (closes : Bool) (asking : Result Asking RequestRefusal) (old new : D) (response : Response)
    → ServesAsking state crashes past closes asking old new response → RoseBy (fault_told response) (state old).faults (state new).faults
asking_rises state crashes past closes (Err refusal) old new response (stays, says) =
    unmoved (2 ^ 64 - 1) (fault_told response) (state old).faults (state new).faults (quiet (request_reply refusal closes) response says) (ap (λ (s : DeskState). s.faults) stays.same)
asking_rises state crashes past closes (Ok asks.Front) old new response (stays, says) =
    unmoved (2 ^ 64 - 1) (fault_told response) (state old).faults (state new).faults (quiet (front_reply closes (front (state old).entries)) response says) (ap (λ (s : DeskState). s.faults) stays.same)
asking_rises state crashes past closes (Ok (asks.Text text)) old new response (stays, says) =
    unmoved (2 ^ 64 - 1) (fault_told response) (state old).faults (state new).faults (quiet (answer_reply closes (answer_at (state old).entries (question_at (front (state old).entries) text))) response says) (ap (λ (s : DeskState). s.faults) stays.same)
asking_rises state crashes past closes (Ok (asks.Preview preview)) old new response (stays, says) =
    let answer = preview_at (state old).entries preview.drafter (question_previewed preview) in
    unmoved (2 ^ 64 - 1) (fault_told response) (state old).faults (state new).faults (quiet (answer_reply closes answer) response says) (ap (λ (s : DeskState). s.faults) stays.same)
asking_rises state crashes past closes (Ok (asks.Draft drafter)) old new response (stays, says) =
    unmoved (2 ^ 64 - 1) (fault_told response) (state old).faults (state new).faults (quiet (draft_reply closes (draft_of drafter (state old).entries)) response says) (ap (λ (s : DeskState). s.faults) stays.same)
asking_rises state crashes past closes (Ok (asks.Command asked)) old new response serves = command_rises state crashes past closes asked old new response serves

pub faults_rise : {D : Type 0} (state : D → DeskState) (crashes : D → Crashes Found) (past : D → List PastKey) (exchanges : List Exchange) (old new : D)
    → AreServed state crashes past exchanges old new → RoseBy (faults_told exchanges) (state old).faults (state new).faults
faults_rise state crashes past [] old new same = unmoved (2 ^ 64 - 1) 0 (state old).faults (state new).faults refl (ap (λ d. (state d).faults) same)
faults_rise state crashes past (e ∷ es) old new (mid, serves, more) =
    then_risen (2 ^ 64 - 1) (fault_told e.response) (faults_told es) (state old).faults (state mid).faults (state new).faults
    (asking_rises state crashes past e.request.closes (asking_of e.request) old mid e.response serves) (faults_rise state crashes past es mid new more)

-- the names of what the desk was lent

command_origin : {D : Type 0} (state : D → DeskState) (crashes : D → Crashes Found) (past : D → List PastKey) (closes : Bool) (asked : Asked) (old new : D) (response : Response)
    → ServesCommand state crashes past closes asked old new response → (state new).origin ≡ (state old).origin
command_origin state crashes past closes asked old new response (inl (stays, fault)) = ap (λ (s : DeskState). s.origin) stays.same
command_origin state crashes past closes asked old new response (inr (result, does, says)) = does.origin

pub asking_origin : {D : Type 0} (state : D → DeskState) (crashes : D → Crashes Found) (past : D → List PastKey) (closes : Bool) (asking : Result Asking RequestRefusal) (old new : D) (response : Response)
    → ServesAsking state crashes past closes asking old new response → (state new).origin ≡ (state old).origin
asking_origin state crashes past closes (Err refusal) old new response (stays, says) = ap (λ (s : DeskState). s.origin) stays.same
asking_origin state crashes past closes (Ok asks.Front) old new response (stays, says) = ap (λ (s : DeskState). s.origin) stays.same
asking_origin state crashes past closes (Ok (asks.Text text)) old new response (stays, says) = ap (λ (s : DeskState). s.origin) stays.same
asking_origin state crashes past closes (Ok (asks.Preview preview)) old new response (stays, says) = ap (λ (s : DeskState). s.origin) stays.same
asking_origin state crashes past closes (Ok (asks.Draft drafter)) old new response (stays, says) = ap (λ (s : DeskState). s.origin) stays.same
asking_origin state crashes past closes (Ok (asks.Command asked)) old new response serves = command_origin state crashes past closes asked old new response serves

pub origin_stays : {D : Type 0} (state : D → DeskState) (crashes : D → Crashes Found) (past : D → List PastKey) (exchanges : List Exchange) (old new : D)
    → AreServed state crashes past exchanges old new → (state new).origin ≡ (state old).origin
origin_stays state crashes past [] old new same = ap (λ d. (state d).origin) same
origin_stays state crashes past (e ∷ es) old new (mid, serves, more) =
    origin_stays state crashes past es mid new more ∙ asking_origin state crashes past e.request.closes (asking_of e.request) old mid e.response serves
