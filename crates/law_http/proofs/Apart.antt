-- Drafters are apart in what they are answered, byte by byte.
use Rattle.std.proofs.Common.{◌≡◌, ◌∙◌, sym, ap, subst, ℕ, Bool, inl, inr, List, length, Result, Ok, Err, refl}
use Rattle.std.specs.Prelude.{◌≢◌}
use Rattle.desk_base.specs.Crashes.{Crashes}
use Rattle.law_register.proofs.Apart.{same_answer, same_draft, same_preview}
use Rattle.law_register.specs.Answer.Asking.{answer_at}
use Rattle.law_register.specs.Answer.Previewing.{preview_at}
use Rattle.law_register.specs.Answer.Previews.{own_entries}
use Rattle.law_register.specs.Desk.States.{DeskState, Found}
use Rattle.law_register.specs.declared.answer.past_key.PastKey.{PastKey}
use Rattle.law_register.specs.Register.Drafts.{draft_of}
use Rattle.law_register.specs.Register.LawList.{front}
use Rattle.law_register.specs.declared.register.entry.Entry.{Entry}
use Rattle.law_http.specs.Apart.{AreAlike, AsksOwn}
use Rattle.law_http.specs.Asking.{asking_of, question_at, question_previewed}
use Rattle.law_http.specs.Faultless.{reply_on}
use Rattle.law_http.specs.Responses.{Reply, Says, reply_bytes, response_bytes}
use Rattle.law_http.specs.Serving.{Serves, ServesAsking, answer_reply, draft_reply, front_reply}
use Rattle.law_http.specs.declared.asking.Asking.{Asking}
use Rattle.law_http.specs.declared.asking.Asking.TheVariants as asks
use Rattle.law_http.specs.declared.asking.TextAsked.{TextAsked}
use Rattle.law_http.specs.declared.drafts.PreviewAsked.{PreviewAsked}
use Rattle.law_http.specs.declared.heard.Request.{Request}
use Rattle.law_http.specs.declared.refusal.RequestRefusal.{RequestRefusal}
use Rattle.law_http.specs.declared.response.Response.{Response}
use Rattle.law_http.specs.declared.response.Response.TheVariants.{MemoryFault}

same_front : (drafter : List ℕ) (one other : List Entry) → AreAlike drafter one other → front one ≡ front other
same_front drafter one other alike = ap length alike.law

same_text : (drafter : List ℕ) (one other : List Entry) (text : TextAsked) → AreAlike drafter one other
    → answer_at one (question_at (front one) text) ≡ answer_at other (question_at (front other) text)
same_text drafter one other text alike =
    same_answer one other (question_at (front one) text) alike.law
    ∙ ap (λ (n : ℕ). answer_at other (question_at n text)) (same_front drafter one other alike)

own_preview : (drafter : List ℕ) (one other : List Entry) (preview : PreviewAsked) → AreAlike drafter one other → preview.drafter ≡ drafter
    → preview_at one preview.drafter (question_previewed preview) ≡ preview_at other preview.drafter (question_previewed preview)
own_preview drafter one other preview alike own =
    let mine : own_entries preview.drafter one ≡ own_entries preview.drafter other =
    subst (λ (d : List ℕ). own_entries d one ≡ own_entries d other) (sym own) alike.own in
    same_preview preview.drafter one other (question_previewed preview) alike.law mine

own_draft : (drafter : List ℕ) (one other : List Entry) (who : List ℕ) → AreAlike drafter one other → who ≡ drafter
    → draft_of who one ≡ draft_of who other
own_draft drafter one other who alike own =
    let mine : own_entries who one ≡ own_entries who other =
    subst (λ (d : List ℕ). own_entries d one ≡ own_entries d other) (sym own) alike.own in
    same_draft who one other mine

-- what is said to what is asked, on any days
pub same_reply : (drafter : List ℕ) (one other : List Entry) (day later : ℕ) (closes : Bool) (asking : Result Asking RequestRefusal)
    → AreAlike drafter one other → AsksOwn drafter asking → reply_on one day closes asking ≡ reply_on other later closes asking
same_reply drafter one other day later closes (Err refusal) alike own = refl
same_reply drafter one other day later closes (Ok asks.Front) alike own = ap (front_reply closes) (same_front drafter one other alike)
same_reply drafter one other day later closes (Ok (asks.Text text)) alike own =
    ap (answer_reply closes) (same_text drafter one other text alike)
same_reply drafter one other day later closes (Ok (asks.Preview preview)) alike own =
    ap (answer_reply closes) (own_preview drafter one other preview alike own)
same_reply drafter one other day later closes (Ok (asks.Draft who)) alike own =
    ap (draft_reply closes) (own_draft drafter one other who alike own)
same_reply drafter one other day later closes (Ok (asks.Command asked)) alike own = absurd own

-- what a desk answers, of a request that is no command, is what is said where its entries stand
said_by : {D : Type 0} (state : D → DeskState) (crashes : D → Crashes Found) (past : D → List PastKey) (drafter : List ℕ) (closes : Bool) (asking : Result Asking RequestRefusal)
    (old new : D) (response : Response) → AsksOwn drafter asking → ServesAsking state crashes past closes asking old new response
    → Says (reply_on (state old).entries 0 closes asking) response
said_by state crashes past drafter closes (Err refusal) old new response own serves = serves.1
said_by state crashes past drafter closes (Ok asks.Front) old new response own serves = serves.1
said_by state crashes past drafter closes (Ok (asks.Text text)) old new response own serves = serves.1
said_by state crashes past drafter closes (Ok (asks.Preview preview)) old new response own serves = serves.1
said_by state crashes past drafter closes (Ok (asks.Draft who)) old new response own serves = serves.1
said_by state crashes past drafter closes (Ok (asks.Command asked)) old new response own serves = absurd own

bytes_said : (reply : Reply) (response : Response) → Says reply response → response ≢ MemoryFault → response_bytes response ≡ reply_bytes reply
bytes_said reply response (inl made) had = ap response_bytes made
bytes_said reply response (inr fault) had = absurd (had fault)

pub same_bytes : (drafter : List ℕ) (one other : List Entry) (day later : ℕ) (request : Request) → AreAlike drafter one other
    → AsksOwn drafter (asking_of request)
    → reply_bytes (reply_on one day request.closes (asking_of request)) ≡ reply_bytes (reply_on other later request.closes (asking_of request))
same_bytes drafter one other day later request alike own =
    ap reply_bytes (same_reply drafter one other day later request.closes (asking_of request) alike own)

pub same_response : {D E : Type 0} (state : D → DeskState) (crashes : D → Crashes Found) (past : D → List PastKey) (standing : E → DeskState) (leaving : E → Crashes Found) (keeping : E → List PastKey)
    (drafter : List ℕ) (request : Request) (one next : D) (other after : E) (response answer : Response)
    → AreAlike drafter (state one).entries (standing other).entries → AsksOwn drafter (asking_of request)
    → Serves state crashes past request one next response → Serves standing leaving keeping request other after answer
    → response ≢ MemoryFault → answer ≢ MemoryFault → response_bytes response ≡ response_bytes answer
same_response state crashes past standing leaving keeping drafter request one next other after response answer alike own serves serving had has =
    bytes_said _ response (said_by state crashes past drafter request.closes (asking_of request) one next response own serves) had
    ∙ same_bytes drafter (state one).entries (standing other).entries 0 0 request alike own
    ∙ sym (bytes_said _ answer (said_by standing leaving keeping drafter request.closes (asking_of request) other after answer own serving) has)
