-- What a request asks of a desk, by its route, its query and its body.
use Rattle.std.specs.Prelude.{◌≡◌, ℕ, true, List, codes, Option, None, Some, unwrap_or, Result, Ok, Err}
use Rattle.std.specs.Result.{result_ok}
use Rattle.desk_base.specs.Decimals.{decimal_up_to}
use Rattle.frbr_names.specs.Expressions.{Expression, expression_of}
use Rattle.law_register.specs.Answer.Questions.{reading_named}
use Rattle.law_register.specs.Law.Spelling.{is_well_spelled}
use Rattle.law_register.specs.Register.Drafters.{drafter_of}
use Rattle.law_register.specs.declared.answer.question.Question.{Question}
use Rattle.law_register.specs.declared.answer.question.Reading.{Reading}
use Rattle.law_register.specs.declared.answer.question.Reading.TheVariants.{Force}
use Rattle.akn_json.specs.Faults.{rule_number}
use Rattle.akn_json.specs.Reading.Commands as commands
use Rattle.akn_json.specs.Reading.Reads.{Read, broken}
use Rattle.akn_json.specs.declared.fault.FormFault.{FormFault}
use Rattle.akn_json.specs.declared.fault.FormRule.{FormRule}
use Rattle.akn_json.specs.declared.fault.FormRule.TheVariants.{WrongShape, BadName, BadDay, BadNumber, UnknownWord}
use Rattle.law_http.specs.Queries.{value_of}
use Rattle.law_http.specs.Routes.{asked_of, route_of}
use Rattle.law_http.specs.declared.asking.AskFail.{AskFail}
use Rattle.law_http.specs.declared.asking.AskFail.TheVariants as fails
use Rattle.law_http.specs.declared.asking.Asking.{Asking}
use Rattle.law_http.specs.declared.asking.Asking.TheVariants as asks
use Rattle.law_http.specs.declared.asking.TextAsked.{TextAsked}
use Rattle.law_http.specs.declared.drafts.PreviewAsked.{PreviewAsked}
use Rattle.law_http.specs.declared.heard.Request.{Request}
use Rattle.law_http.specs.declared.refusal.RequestRefusal.{RequestRefusal}
use Rattle.law_http.specs.declared.refusal.RequestRefusal.TheVariants.{BadForm}
use Rattle.law_http.specs.declared.route.Route.{Route}
use Rattle.law_http.specs.declared.route.Route.TheVariants as route

-- the question that is asked where so many law entries are known; it is asked at that viewpoint where it names none
abbrev pub question_at : ℕ → TextAsked → Question
question_at front t = record {
  work = t.work;
  language = t.language;
  version = t.version;
  portion = t.portion;
  viewpoint = unwrap_or t.viewpoint front;
  reading = t.reading;
}

-- the question that a preview asks; its viewpoint is not read
abbrev pub question_previewed : PreviewAsked → Question
question_previewed p = record {
  work = p.work;
  language = p.language;
  version = Some p.day;
  portion = p.portion;
  viewpoint = 0;
  reading = p.reading;
}

-- what a request or a part of it says, or why the request gets no answer of the desk
abbrev pub ReadOf : Type 0 → Type 0
ReadOf A = Result A RequestRefusal

-- one reading, and then another that goes on from it; the first refusal is the refusal of both
infixl 10 ◌>>=◌
abbrev pub ◌>>=◌ : {A B : Type 0} → ReadOf A → (A → ReadOf B) → ReadOf B
Ok a >>= next = next a
Err refusal >>= next = Err refusal

-- the form of a request is bad, by the number of its rule and the place
abbrev pub bad_form : FormFault → RequestRefusal
bad_form fault = BadForm (rule_number fault.rule) fault.place

-- what a value of a query says; where it says nothing, it breaks this rule
abbrev pub or_broken : {A : Type 0} → FormRule → Option A → ReadOf A
or_broken rule None = Err (bad_form (broken rule))
or_broken rule (Some a) = Ok a

-- what a body says, or its fault
abbrev pub or_bad_form : {A : Type 0} → Read A → ReadOf A
or_bad_form (Ok a) = Ok a
or_bad_form (Err fault) = Err (bad_form fault)

-- a viewpoint in decimal, if there is one
abbrev pub viewpoint_in : Option (List ℕ) → ReadOf (Option ℕ)
viewpoint_in None = Ok None
viewpoint_in (Some text) = do
  viewpoint ← or_broken BadNumber (decimal_up_to 4294967295 text)
  Ok (Some viewpoint)

-- a reading by its word, and else that of what is in force
abbrev pub reading_in : Option (List ℕ) → ReadOf Reading
reading_in None = Ok Force
reading_in (Some word) = or_broken UnknownWord (reading_named word)

-- the text of an expression that is asked for
abbrev pub text_asked : Expression → Option ℕ → Reading → TextAsked
text_asked e viewpoint reading = record {
  work = e.work.text;
  language = e.language;
  version = e.version;
  portion = e.portion;
  viewpoint = viewpoint;
  reading = reading;
}

-- what a query asks of an expression
unfoldable pub text_of : Expression → List (List ℕ × List ℕ) → ReadOf TextAsked
text_of e pairs = do
  viewpoint ← viewpoint_in (value_of (codes "viewpoint") pairs)
  reading ← reading_in (value_of (codes "reading") pairs)
  Ok (text_asked e viewpoint reading)

-- the text that a query asks for
unfoldable pub text_in : List (List ℕ × List ℕ) → ReadOf TextAsked
text_in pairs = do
  name ← or_broken WrongShape (value_of (codes "expression") pairs)
  expression ← or_broken BadName (result_ok (expression_of name))
  text_of expression pairs

-- the drafter whom a query names
unfoldable pub drafter_in : List (List ℕ × List ℕ) → ReadOf (List ℕ)
drafter_in pairs = do
  name ← or_broken WrongShape (value_of (codes "drafter") pairs)
  or_broken BadName (drafter_of name)

-- the preview of an expression that is asked for
abbrev pub preview_asked : List ℕ → Expression → ℕ → Reading → PreviewAsked
preview_asked drafter e day reading = record {
  drafter = drafter;
  work = e.work.text;
  language = e.language;
  day = day;
  portion = e.portion;
  reading = reading;
}

-- what a drafter asks of an expression, which has to have the day of a version
unfoldable pub preview_of : List ℕ → Expression → List (List ℕ × List ℕ) → ReadOf PreviewAsked
preview_of drafter e pairs = do
  day ← or_broken BadDay e.version
  reading ← reading_in (value_of (codes "reading") pairs)
  Ok (preview_asked drafter e day reading)

-- the preview that a query asks for
unfoldable pub preview_in : List (List ℕ × List ℕ) → ReadOf PreviewAsked
preview_in pairs = do
  drafter ← drafter_in pairs
  name ← or_broken WrongShape (value_of (codes "expression") pairs)
  expression ← or_broken BadName (result_ok (expression_of name))
  preview_of drafter expression pairs

-- what a query and a body ask of a route
abbrev pub asking_in : Route → List (List ℕ × List ℕ) → List ℕ → ReadOf Asking
asking_in route.Front pairs body = Ok asks.Front
asking_in route.Text pairs body = do
  text ← text_in pairs
  Ok (asks.Text text)
asking_in route.Preview pairs body = do
  preview ← preview_in pairs
  Ok (asks.Preview preview)
asking_in route.Draft pairs body = do
  drafter ← drafter_in pairs
  Ok (asks.Draft drafter)
asking_in route.Commands pairs body = do
  asked ← or_bad_form (commands.asked_of body)
  Ok (asks.Command asked)

-- what a request asks: its route is judged first, then its query, and then its body
unfoldable pub asking_of : Request → Result Asking RequestRefusal
asking_of request = do
  route ← route_of request.method request.target
  pairs ← asked_of route request.target
  asking_in route pairs request.body

-- a command that is asked for is well spelled
abbrev pub IsSpelled : Asking → Type 0
IsSpelled asks.Front = Unit {0}
IsSpelled (asks.Text text) = Unit {0}
IsSpelled (asks.Preview preview) = Unit {0}
IsSpelled (asks.Draft drafter) = Unit {0}
IsSpelled (asks.Command asked) = is_well_spelled asked.command ≡ true

-- the same of what a request asks, if it asks anything
abbrev pub IfSpelled : Result Asking RequestRefusal → Type 0
IfSpelled (Ok asking) = IsSpelled asking
IfSpelled (Err refusal) = Unit {0}

-- a call fails by the refusal of the reading, or for want of memory
abbrev pub Fails : {B : Type 0} → AskFail → ReadOf B → Type 0
Fails fails.Memory reading = Unit {0}
Fails (fails.Refused refusal) reading = reading ≡ Err refusal

-- a call gives what the reading says, or fails by its refusal or for want of memory
abbrev pub Gives : {B : Type 0} → Result B AskFail → ReadOf B → Type 0
Gives (Ok b) reading = reading ≡ Ok b
Gives (Err fail) reading = Fails fail reading
