-- What is answered from what is kept of a work is the answer at the front and ahead of it.
use Rattle.std.proofs.Common.{◌≡◌, ◌∙◌, sym, ap, ap₂, subst, ℕ, ◌≤◌, true, List, take, Option, Some, None, option_map, Result, refl, arith}
use Rattle.law_register.specs.declared.answer.answer.Answer.{Answer}
use Rattle.law_register.specs.declared.answer.queries.QueryRule.{QueryRule}
use Rattle.law_register.specs.declared.answer.question.Question.{Question}
use Rattle.law_register.specs.declared.answer.question.Reading.{Reading}
use Rattle.law_register.specs.declared.answer.question.Reading.TheVariants.{Force}
use Rattle.law_register.specs.declared.law.act.Act.{Act}
use Rattle.law_register.specs.declared.register.entry.Entry.{Entry}
use Rattle.law_register.specs.declared.register.known.Known.{Known}
use Rattle.law_register.specs.declared.register.known.KnownMod.{KnownMod}
use Rattle.law_register.specs.Answer.Answers.{answer_of_text, answer_on, asked_day, first_rule, unless_broken}
use Rattle.law_register.specs.Answer.Asking.{answer_at, answer_by, known_for}
use Rattle.law_register.specs.Answer.Replay.{IsVersionOf, VersionValue, as_enacted, replay_on}
use Rattle.law_register.specs.Answer.Standing.{alone}
use Rattle.law_register.specs.Provisions.Carrying.{carrying, held_now, known_held}
use Rattle.law_register.specs.Provisions.Line.{line}
use Rattle.law_register.specs.Register.KnownIds.{known_at}
use Rattle.law_register.specs.Register.KnownNext.{at_viewpoint, bare, known_now, up_to}
use Rattle.law_register.specs.Register.LawList.{front, laws}
use Rattle.law_register.specs.Register.Verdicts.{is_legal}
use Rattle.law_register.proofs.CarryingNothing.{carrying_alone, carrying_then, known_at_alone}
use Rattle.law_register.proofs.Next.{now_counts}
use Rattle.law_register.proofs.Past.{all_known}
use Rattle.law_register.proofs.ShownAlike.{text_same}
use Rattle.law_register.proofs.ShownAlone.{text_alone}
use Rattle.law_register.proofs.WhenEnacted.{enacted_bare, known_ahead}
use Rattle.version_cache.specs.Answering.{answer_dated, answer_kept}
use Rattle.version_cache.specs.Tables.{version_on}
use Rattle.version_cache.specs.Works.{IsAlike, IsFor, IsForIf, WorkValue, table_in}
use Rattle.version_cache.proofs.Renewed.{gives_replay}

-- a work as it is known, once there are so many law entries, of which so many are known
abbrev seen : ℕ → ℕ → Known → Known
seen viewpoint front known = record known { viewpoint = viewpoint; front = front }

alike_is : (kept known : Known) → IsAlike kept known → known ≡ seen known.viewpoint known.front kept
alike_is kept known alike =
    sym
    (ap (λ a. told a kept.enacted kept.mods kept.source_days) alike.act
    ∙ ap (λ n. told known.act n kept.mods kept.source_days) alike.enacted
    ∙ ap (λ m. told known.act known.enacted m kept.source_days) alike.mods
    ∙ ap (told known.act known.enacted known.mods) alike.sources)
  where
    told : Act → ℕ → List KnownMod → List ℕ → Known
    told act enacted mods days = record {
      act = act;
      enacted = enacted;
      viewpoint = known.viewpoint;
      front = known.front;
      mods = mods;
      source_days = days;
    }

module _ (kept : Known) (n : ℕ) (q : Question) where
  rule_is : (viewpoint front : ℕ) → front ≡ n → first_rule (seen viewpoint front kept) q ≡ first_rule (up_to n kept) q
  rule_is viewpoint front counts = ap (λ f. first_rule (seen viewpoint f kept) q) counts

  when_enacted : (viewpoint front : ℕ) → front ≡ n
      → answer_on (bare (seen viewpoint front kept)) q ≡ unless_broken (first_rule (up_to n kept) q) (answer_of_text (bare kept) (as_enacted kept.act) q)
  unfolding answer_on
  when_enacted viewpoint front counts =
      ap₂ unless_broken (rule_is viewpoint front counts) (text_same kept.enacted front (bare kept) (as_enacted kept.act) q)

module _ (es : List Entry) (q : Question) (work : WorkValue) (known : Known) (legal : is_legal es ≡ true) (ahead : front es ≤ q.viewpoint)
    (now : known_now es q.work ≡ Some known) (right : IsFor (carrying (line (take (front es) (laws es))) known) work) where
  abbrev works : List Known
  works = line (take (front es) (laws es))

  abbrev held : Known
  held = carrying works known

  by_itself : alone held ≡ known
  by_itself = carrying_alone works known ∙ known_at_alone es q.work (front es) known now

  alike : IsAlike work.known known
  alike = subst (IsAlike work.known) by_itself right.alike

  counts : known.front ≡ front es
  counts = sym (ap (λ (k : Known). k.front) (now_counts es q.work known now))

  -- the flags are told by what is known of it by itself
  text_is : (version : VersionValue) → answer_of_text (seen q.viewpoint known.front held) version q ≡ answer_of_text work.known version q
  text_is version =
      text_same q.viewpoint known.front held version q
      ∙ sym (text_alone held version q)
      ∙ ap (λ k. answer_of_text k version q) (by_itself ∙ alike_is work.known known alike)
      ∙ text_same known.viewpoint known.front work.known version q

  rule_said : first_rule known q ≡ first_rule (up_to (front es) work.known) q
  rule_said = ap (λ k. first_rule k q) (alike_is work.known known alike) ∙ rule_is work.known (front es) q known.viewpoint known.front counts

  -- ahead of the front all law entries are known
  held_ahead : known_held es q.work q.viewpoint ≡ Some (seen q.viewpoint known.front held)
  held_ahead =
      ap (λ law. option_map (carrying (line law)) (known_at es q.work q.viewpoint)) (sym (all_known es q.viewpoint ahead) ∙ all_known es (front es) (least (front es)))
      ∙ ap (option_map (carrying works)) (known_ahead es q.work q.viewpoint ahead ∙ ap (option_map (at_viewpoint q.viewpoint)) now)
      ∙ ap (λ (k : Known). (let here : Option Known = Some k in here)) (carrying_then works q.viewpoint known.front known)
    where
      least : (n : ℕ) → n ≤ n
      least n = omega arith

  abbrev said : Option ℕ → Result Answer QueryRule
  said version = unless_broken (first_rule (up_to (front es) work.known) q) (answer_dated work q version)

  by : (version : Option ℕ) → q.version ≡ version → answer_by q (known_for es q.work q.viewpoint version) ≡ said version
  unfolding answer_on
  by None is =
      ap (answer_by q) (enacted_bare es q.work legal ∙ ap (option_map bare) now)
      ∙ ap (λ (k : Known). answer_on (bare k) q) (alike_is work.known known alike)
      ∙ when_enacted work.known (front es) q known.viewpoint known.front counts
  by (Some day) is =
      ap (answer_by q) held_ahead
      ∙ ap₂ unless_broken rule_said (text_is (replay_on held q.reading (asked_day q.version known.act)))
      ∙ ap (λ version. unless_broken (first_rule (up_to (front es) work.known) q) (answer_of_text work.known (replay_on held q.reading (asked_day version known.act)) q)) is
      ∙ ap (λ (version : VersionValue). unless_broken (first_rule (up_to (front es) work.known) q) (answer_of_text work.known version q))
      (sym (gives_replay held work q.reading day right))

  answered_of : answer_at es q ≡ answer_kept work (front es) q
  unfolding answer_at
  answered_of = by q.version refl

pub answered : (es : List Entry) (q : Question) (work : WorkValue) → is_legal es ≡ true → front es ≤ q.viewpoint → IsForIf (held_now es q.work) work
    → answer_at es q ≡ answer_kept work (front es) q
answered es q work legal ahead right = from (known_now es q.work) refl right
  where
    from : (now : Option Known) → known_now es q.work ≡ now → IsForIf (option_map (carrying (line (take (front es) (laws es)))) now) work
        → answer_at es q ≡ answer_kept work (front es) q
    from None is right = absurd right
    from (Some known) is right = answered_of es q work known legal ahead is right

-- what is kept of a work is a version of its act on each day, and the act as enacted
pub version_of : (held : Option Known) (work : WorkValue) → IsForIf held work → (reading : Reading) (day : ℕ)
    → IsVersionOf work.known.act reading day (version_on (table_in reading work) day)
version_of None work right reading day = absurd right
version_of (Some known) work right reading day = record {
  known = known;
  of_act = sym right.alike.act;
  is = gives_replay known work reading day right;
}

pub enacted_of : (held : Option Known) (work : WorkValue) → IsForIf held work → work.force.enacted ≡ as_enacted work.known.act
enacted_of None work right = absurd right
enacted_of (Some known) work right = (right.tables.right Force).enacted ∙ ap as_enacted (sym right.alike.act)
