-- What is kept of a work, where it is asked for.
use Rattle.std.proofs.Common.{◌≡◌, ◌∙◌, ◌≤◌, sym, ap, refl, subst, ℕ, true, List, take, Option, Some, None, option_map, is_some, Result, Ok, Err, IfOk}
use Rattle.law_register.specs.declared.answer.answer.Answer.{Answer}
use Rattle.law_register.specs.declared.answer.queries.QueryRule.{QueryRule}
use Rattle.law_register.specs.declared.answer.queries.QueryRule.TheVariants.{UnknownWork}
use Rattle.law_register.specs.declared.answer.question.Question.{Question}
use Rattle.law_register.specs.declared.answer.question.Reading.{Reading}
use Rattle.law_register.specs.declared.register.entry.Entry.{Entry}
use Rattle.law_register.specs.declared.register.known.Known.{Known}
use Rattle.law_register.specs.Answer.Asking.{answer_at, answer_by, known_for}
use Rattle.law_register.specs.Provisions.Carrying.{carrying, held_now}
use Rattle.law_register.specs.Provisions.Line.{line}
use Rattle.law_register.specs.Register.KnownNext.{at_viewpoint, bare, known_now}
use Rattle.law_register.specs.Register.LawList.{front, laws}
use Rattle.law_register.specs.Register.Verdicts.{is_legal}
use Rattle.law_register.proofs.WhenEnacted.{enacted_bare, known_ahead}
use Rattle.version_cache.specs.Tables.{IsRight}
use Rattle.version_cache.specs.Works.{IsForIf, WorkValue, table_in}

pub is_known : (known : Option Known) (kept : WorkValue) → IsForIf known kept → true ≡ is_some known
is_known None kept for = absurd for
is_known (Some known) kept for = refl

pub in_reading : (known : Option Known) (kept : WorkValue) (reading : Reading) → IsForIf known kept → (table_in reading kept).reading ≡ reading
in_reading None kept reading for = absurd for
in_reading (Some known) kept reading for = for.tables.readings reading

pub right_in : (found : Option Known) (kept : WorkValue) (reading : Reading) → IsForIf found kept → (known : Known) → found ≡ Some known
    → IsRight known (table_in reading kept)
right_in None kept reading for known is = absurd for
right_in (Some other) kept reading for known is =
    let same : other ≡ known = cc in subst (λ (k : Known). IsRight k (table_in reading kept)) same (for.tables.right reading)

-- a work that is not known at the front is not known ahead of it, nor was it enacted
-- what is not held is not known
pub none_known : (works : List Known) (known : Option Known) → option_map (carrying works) known ≡ None → known ≡ None
none_known works None none = refl
none_known works (Some known) none = absurd (let no : Some (carrying works known) ≡ None = none in cc)

unknown_for : (es : List Entry) (w : List ℕ) (v : ℕ) (version : Option ℕ) → is_legal es ≡ true → known_now es w ≡ None → front es ≤ v
    → known_for es w v version ≡ None
unknown_for es w v None legal unknown ahead = enacted_bare es w legal ∙ ap (option_map bare) unknown
unknown_for es w v (Some day) legal unknown ahead =
    ap (option_map (carrying (line (take v (laws es))))) (known_ahead es w v ahead ∙ ap (option_map (at_viewpoint v)) unknown)

pub unknown_answer : (es : List Entry) (q : Question) (work : List ℕ) → is_legal es ≡ true → held_now es q.work ≡ None → front es ≤ q.viewpoint
    → work ≡ q.work → answer_at es q ≡ Err (UnknownWork work)
unfolding answer_at
unknown_answer es q work legal unknown ahead named =
    ap (answer_by q)
    (unknown_for es q.work q.viewpoint q.version legal (none_known (line (take (front es) (laws es))) (known_now es q.work) unknown) ahead) ∙ ap refused (sym named)
  where
    refused : List ℕ → Result Answer QueryRule
    refused w = Err (UnknownWork w)

-- what holds of a value holds of the result that is this value
pub holds_of : {T E : Type 0} (P : T → Type 0) (value : T) (result : Result T E) → P value → IfOk result (λ found. found ≡ value) → IfOk result P
holds_of P value (Ok found) holds is = subst P (sym is) holds
holds_of P value (Err fault) holds is = tt
