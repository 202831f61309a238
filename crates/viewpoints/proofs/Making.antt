-- The table that is made for a question is right for it.
use Rattle.std.proofs.Common.{◌≡◌, ◌∙◌, sym, ap, subst, ℕ, ◌≤◌, nat_lt, Bool, true, false, cond, List, Option, Some, None, option_map, take, refl, arith}
use Rattle.std.proofs.lemmas.Bool.Decides.{nat_tests}
use Rattle.law_register.specs.Answer.Answers.{first_rule}
use Rattle.law_register.specs.Answer.PastKeys.{key_of}
use Rattle.law_register.specs.Answer.Replay.{VersionValue, replay_on}
use Rattle.law_register.specs.Provisions.Carrying.{carrying}
use Rattle.law_register.specs.Provisions.Line.{line}
use Rattle.law_register.specs.Register.KnownIds.{enacted, known_at, known_by}
use Rattle.law_register.specs.Register.KnownNext.{up_to}
use Rattle.law_register.specs.Register.LawList.{front, laws}
use Rattle.law_register.specs.declared.answer.queries.QueryRule.{QueryRule}
use Rattle.law_register.specs.declared.answer.queries.QueryRule.TheVariants.{UnknownWork, ViewpointAhead}
use Rattle.law_register.specs.declared.answer.question.Question.{Question}
use Rattle.law_register.specs.declared.law.act.Act.{Act}
use Rattle.law_register.specs.declared.law.command.Command.{Command}
use Rattle.law_register.specs.declared.register.entry.Entry.{Entry}
use Rattle.law_register.specs.declared.register.known.Known.{Known}
use Rattle.viewpoints.specs.Right.{IsRightAt, with_front}
use Rattle.viewpoints.specs.declared.past_tables.PastTable.{PastTable}
use Rattle.viewpoints.proofs.Stale.{later_rule}

abbrev front_if : ℕ → Option Known → ℕ
front_if n None = n
front_if n (Some known) = known.front

-- what is known of a work has the front
front_known : (w : List ℕ) (v n : ℕ) (ls : List Command) (found : Option (ℕ × Act)) (known : Known) → known_by w v n ls found ≡ Some known → n ≡ known.front
front_known w v n ls None known is = absurd (let no : None ≡ Some known = is in cc)
front_known w v n ls (Some found) known is = ap (front_if n) is

second_false : (early ahead : Bool) (a b : QueryRule) (rest : Option QueryRule) → cond early (Some a) (cond ahead (Some b) rest) ≡ None → ahead ≡ false
second_false true ahead a b rest is = absurd (let no : Some a ≡ None = is in cc)
second_false false true a b rest is = absurd (let no : Some b ≡ None = is in cc)
second_false false false a b rest is = refl

reaches : (front viewpoint : ℕ) → nat_lt front viewpoint ≡ false → viewpoint ≤ front
reaches front viewpoint h = grind (arith, nat_tests)

-- a question that breaks no rule has a viewpoint that is reached
reached_by : (known : Known) (q : Question) → first_rule (up_to known.front known) q ≡ None → q.viewpoint ≤ known.front
reached_by known q is =
    reaches known.front q.viewpoint
    (second_false (nat_lt q.viewpoint known.enacted) (nat_lt known.front q.viewpoint) (UnknownWork q.work) (ViewpointAhead known.front) (later_rule known.front known q) is)

module _ {T : Type 0} (version_on : T → ℕ → VersionValue) (entries : List Entry) (q : Question) (known held : Known) (table : T) where
  abbrev kept : PastTable T
  kept = record { known = held; table = table }

  pub made_right : known_at entries q.work q.viewpoint ≡ Some known → first_rule (up_to known.front known) q ≡ None
      → held ≡ carrying (line (take q.viewpoint (laws entries))) known
      → ((day : ℕ) → version_on table day ≡ replay_on held q.reading day)
      → IsRightAt version_on entries (key_of q) kept
  made_right is no_rule carried versions =
      let works : List Known = line (take q.viewpoint (laws entries)) in
      let at_front : front entries ≡ known.front =
      front_known q.work q.viewpoint (front entries) (take q.viewpoint (laws entries)) (enacted q.work (take q.viewpoint (laws entries))) known is in
      let reached : q.viewpoint ≤ known.front = reached_by known q no_rule in
      record {
        reached = subst (λ n. q.viewpoint ≤ n) (sym at_front) reached;
        known = ap (option_map (carrying works)) is
            ∙ ap (λ n. Some (with_front n (carrying works known))) (sym at_front)
            ∙ ap (λ (k : Known). Some (with_front (front entries) k)) (sym carried);
        made = subst (λ (k : Known). q.viewpoint ≤ k.front) (sym carried) reached;
        versions = versions;
      }
