-- The steps of a command are those of its entry.
use Rattle.std.proofs.Common.{◌≡◌, ◌∙◌, ap, ℕ, List, [], ◌∷◌, ◌++◌, Option, Some, None, refl}
use Rattle.law_register.specs.declared.register.entry.Entry.{Entry}
use Rattle.law_register.specs.declared.register.verdict.Reply.{Reply}
use Rattle.law_register.specs.declared.register.verdict.Verdict.{Verdict}
use Rattle.law_register.specs.declared.register.verdict.Verdict.TheVariants.{Accepted, Repeat, Refused}
use Rattle.law_register.specs.Answer.Renewing.{command_cost, cost_said, costs_touched, entry_cost, judging_cost, judging_said}
use Rattle.law_register.specs.Provisions.Touching.{touched_works}
use Rattle.law_register.specs.Register.LawList.{law_of}
use Rattle.law_register.specs.Register.Verdicts.{verdict}
use Rattle.law_register.proofs.Unreached.{drafts_touch_none, same_works}

pub entry_is_paid : (es : List Entry) (e : Entry) (law : Option ℕ) (reply : Reply) → verdict es e.drafter e.request e.command ≡ Accepted law reply
    → command_cost es e ≡ entry_cost es (record e { law = law })
unfolding command_cost
entry_is_paid es e law reply accepted = ap (cost_said es e) accepted

pub judging_is_paid : (judging : List Entry → Entry → ℕ) (es : List Entry) (e : Entry) (law : Option ℕ) (reply : Reply)
    → verdict es e.drafter e.request e.command ≡ Accepted law reply
    → judging_cost judging es e ≡ judging es (record e { law = law })
unfolding judging_cost
judging_is_paid judging es e law reply accepted = ap (judging_said judging es e) accepted

-- what touches no work costs nothing
pub untouched_is_free : (es : List Entry) (e : Entry) → touched_works es e ≡ [] → command_cost es e ≡ 0
unfolding command_cost
untouched_is_free es e none = by (verdict es e.drafter e.request e.command)
  where
    by : (said : Verdict) → cost_said es e said ≡ 0
    by (Accepted law reply) = ap (costs_touched (es ++ record e { law = law } ∷ [])) (same_works es e law ∙ none)
    by (Repeat reply) = refl
    by (Refused rule) = refl

pub drafting_is_free : (es : List Entry) (e : Entry) → law_of es e ≡ [] → command_cost es e ≡ 0
drafting_is_free es e is = untouched_is_free es e (drafts_touch_none es e is)
