-- Who knows of fewer law entries answers the same, as long as they reach the viewpoint.
use Rattle.std.proofs.Common.{◌≡◌, ◌∙◌, sym, ap, ap₂, ℕ, ◌≤◌, nat_lt, not, true, false, cond, Option, Some, None, IsSome, List, refl, arith}
use Rattle.std.proofs.lemmas.Bool.Decides.{nat_tests}
use Rattle.std.specs.Str.{bytes_eq}
use Rattle.law_register.specs.Answer.Answers.{answer_on, asked_day, first_rule, is_too_early, unless_broken}
use Rattle.law_register.specs.Answer.Asking.{answer_at, answer_by, known_for}
use Rattle.law_register.specs.Answer.PastKeys.{key_of}
use Rattle.law_register.specs.Answer.Replay.{VersionValue, replay_on}
use Rattle.law_register.specs.declared.answer.queries.QueryRule.{QueryRule}
use Rattle.law_register.specs.declared.answer.queries.QueryRule.TheVariants.{UnknownWork, ViewpointAhead, NotYetEnacted, OtherLanguage}
use Rattle.law_register.specs.declared.answer.question.Question.{Question}
use Rattle.law_register.specs.declared.register.entry.Entry.{Entry}
use Rattle.law_register.specs.declared.register.known.Known.{Known}
use Rattle.law_register.proofs.ShownAlike.{text_same}
use Rattle.viewpoints.specs.Right.{IsRightAt, with_front}
use Rattle.viewpoints.specs.declared.past_tables.PastTable.{PastTable}

module _ (n : ℕ) (known : Known) where
  abbrev pub later_rule : Question → Option QueryRule
  later_rule q =
      cond (is_too_early q.version known.act) (Some (NotYetEnacted known.act.day))
      (cond (not (bytes_eq q.language known.act.language)) (Some (OtherLanguage known.act.language)) None)

  not_ahead : (front viewpoint : ℕ) → viewpoint ≤ front → nat_lt front viewpoint ≡ false
  not_ahead front viewpoint h = grind (arith, nat_tests)

  rule_is : (front : ℕ) (q : Question) → q.viewpoint ≤ front
      → first_rule (with_front front known) q ≡ cond (nat_lt q.viewpoint known.enacted) (Some (UnknownWork q.work)) (later_rule q)
  rule_is front q reached =
      ap (λ ahead. cond (nat_lt q.viewpoint known.enacted) (Some (UnknownWork q.work)) (cond ahead (Some (ViewpointAhead front)) (later_rule q))) (not_ahead front q.viewpoint reached)

  rule_same : (q : Question) → q.viewpoint ≤ known.front → q.viewpoint ≤ n → first_rule (with_front n known) q ≡ first_rule known q
  rule_same q reached later = rule_is n q later ∙ sym (rule_is known.front q reached)

  answer_same : (q : Question) → q.viewpoint ≤ known.front → q.viewpoint ≤ n → answer_on (with_front n known) q ≡ answer_on known q
  unfolding answer_on
  answer_same q reached later =
      ap₂ unless_broken (rule_same q reached later) (text_same known.viewpoint n known (replay_on known q.reading (asked_day q.version known.act)) q)

module _ {T : Type 0} (version_on : T → ℕ → VersionValue) (entries : List Entry) (q : Question) (kept : PastTable T) where
  pub answered : IsSome q.version → IsRightAt version_on entries (key_of q) kept → answer_at entries q ≡ answer_on kept.known q
  unfolding answer_at
  answered dated right = by q.version refl dated
    where
      by : (version : Option ℕ) → q.version ≡ version → IsSome version → answer_at entries q ≡ answer_on kept.known q
      by (Some day) is some =
          ap (λ version. answer_by q (known_for entries q.work q.viewpoint version)) is
          ∙ ap (answer_by q) right.known ∙ answer_same _ kept.known q right.made right.reached
      by None is some = absurd (let no : false ≡ true = some in cc)
