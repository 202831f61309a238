-- The act as enacted is answered by replaying nothing: it was known by itself alone.
use Rattle.std.proofs.Common.{◌≡◌, ◌∙◌, ap, ◌+◌, true, List, Option, Some, None, option_map, refl}
use Rattle.law_register.specs.Answer.Answers.{first_rule}
use Rattle.law_register.specs.Answer.Asking.{known_for}
use Rattle.law_register.specs.Answer.Costs.{bearing_at, bearing_for, holding_for, unless_refused}
use Rattle.law_register.specs.Register.KnownNext.{bare, known_now}
use Rattle.law_register.specs.Register.Verdicts.{is_legal}
use Rattle.law_register.specs.declared.answer.question.Question.{Question}
use Rattle.law_register.specs.declared.answer.queries.QueryRule.{QueryRule}
use Rattle.law_register.specs.declared.register.entry.Entry.{Entry}
use Rattle.law_register.specs.declared.register.known.Known.{Known}
use Rattle.law_register.proofs.WhenEnacted.{enacted_bare}

-- of what is known without modifications none bear
none_bear : (q : Question) (known : Option Known) → bearing_for q (option_map bare known) ≡ 0
none_bear q None = refl
none_bear q (Some known) = nothing (first_rule (bare known) q)
  where
    nothing : (rule : Option QueryRule) → unless_refused rule 0 ≡ 0
    nothing None = refl
    nothing (Some rule) = refl

pub enacted_costs_nothing : (entries : List Entry) (q : Question) → is_legal entries ≡ true → q.version ≡ None → bearing_at entries q ≡ 0
unfolding bearing_at
enacted_costs_nothing entries q legal undated =
    ap (λ version. holding_for entries q.work q.viewpoint version + bearing_for q (known_for entries q.work q.viewpoint version)) undated
    ∙ ap (λ n. 0 + n) (ap (bearing_for q) (enacted_bare entries q.work legal) ∙ none_bear q (known_now entries q.work))
