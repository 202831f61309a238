-- The answer to a question.
use Rattle.std.specs.Prelude.{ℕ, ◌≡◌, Bool, false, not, nat_lt, List, [], ◌∷◌, Option, Some, None, Result, Ok, Err, if◌then◌else◌}
use Rattle.std.specs.Str.{bytes_eq}
use Rattle.eid_paths.specs.declared.numbering.Numbering.{Numbering}
use Rattle.act_tree.specs.Branches.{Branch, Branches, branch, no_branches, more_branches, listed}
use Rattle.act_tree.specs.Eids.{eid_below}
use Rattle.act_tree.specs.Provisions.{Provision}
use Rattle.act_tree.specs.Trees.{TreeValue}
use Rattle.law_register.specs.Answer.Shown.{Shown}
use Rattle.law_register.specs.declared.law.act.Act.{Act}
use Rattle.law_register.specs.declared.answer.answer.Answer.{Answer}
use Rattle.law_register.specs.declared.register.known.Known.{Known}
use Rattle.law_register.specs.declared.answer.question.Question.{Question}
use Rattle.law_register.specs.declared.answer.question.Reading.{Reading}
use Rattle.law_register.specs.declared.answer.queries.AskFault.{AskFault}
use Rattle.law_register.specs.declared.answer.queries.AskFault.TheVariants as fails
use Rattle.law_register.specs.declared.answer.queries.QueryRule.{QueryRule}
use Rattle.law_register.specs.declared.answer.queries.QueryRule.TheVariants.{UnknownWork, ViewpointAhead, NotYetEnacted, OtherLanguage, UnknownPortion}
use Rattle.law_register.specs.Answer.Flags.{flag_below, root_flag}
use Rattle.law_register.specs.Answer.Replay.{VersionValue, replay_on}

-- a provision with the eId that it has in this text, and its flag
abbrev pub shown_as : Bool → List ℕ → Provision → Shown
shown_as bears eid p = record { wid = p.wid; eid = eid; bears = bears; own = p.own }

-- provisions as an answer shows them, below the one of the eId `above`, or right below the root where that is `None`, and
-- below that flag
abbrev mutual
  pub shown : Known → Reading → ℕ → Numbering → Bool → Option (List ℕ) → Branch Provision → Branch Shown
  shown known reading day numbering flag above (branch p below) =
      branch (shown_as (flag_below known reading day flag p.wid) (eid_below numbering above p.own.element p.own.num) p)
      (all_shown known reading day numbering (flag_below known reading day flag p.wid)
      (Some (eid_below numbering above p.own.element p.own.num)) below)

  pub all_shown : Known → Reading → ℕ → Numbering → Bool → Option (List ℕ) → Branches Provision → Branches Shown
  all_shown known reading day numbering flag above no_branches = no_branches
  all_shown known reading day numbering flag above (more_branches b bs) =
      more_branches (shown known reading day numbering flag above b)
      (all_shown known reading day numbering flag above bs)

-- the whole text of a tree as an answer shows it, below a root of that flag
abbrev pub shown_tree : Known → Reading → ℕ → Bool → TreeValue → Branches Shown
shown_tree known reading day flag tree = all_shown known reading day tree.numbering flag None tree.body

-- the whole text of a version as an answer shows it
abbrev pub shown_text : Known → Reading → ℕ → VersionValue → Branches Shown
shown_text known reading day version = shown_tree known reading day (root_flag known reading day) version.tree

-- the first of two, or the second where there is no first
abbrev pub or_else : Option (Branch Shown) → Option (Branch Shown) → Option (Branch Shown)
or_else (Some b) other = Some b
or_else None other = other

-- the provision of this eId, which stands here or beneath
abbrev mutual
  pub portion_in : List ℕ → Branch Shown → Option (Branch Shown)
  portion_in eid (branch s below) = if bytes_eq s.eid eid then Some (branch s below) else portion_among eid below

  pub portion_among : List ℕ → Branches Shown → Option (Branch Shown)
  portion_among eid no_branches = None
  portion_among eid (more_branches b bs) = or_else (portion_in eid b) (portion_among eid bs)

-- the provision that was asked for, or the rule that none has its eId
abbrev pub found_portion : List ℕ → Option (Branch Shown) → Result (List (Branch Shown)) QueryRule
found_portion eid (Some b) = Ok (b ∷ [])
found_portion eid None = Err (UnknownPortion eid)

-- what of a text was asked for: all of it, or the one provision of an eId
abbrev pub asked_part : Option (List ℕ) → Branches Shown → Result (List (Branch Shown)) QueryRule
asked_part None text = Ok (listed text)
asked_part (Some eid) text = found_portion eid (portion_among eid text)

-- the day of a version is before that of the act
abbrev pub is_too_early : Option ℕ → Act → Bool
is_too_early None act = false
is_too_early (Some day) act = nat_lt day act.day

-- the first rule that a question breaks before its text is looked at, by what is known of its work. A question for the act as
-- enacted may have a viewpoint before the law entry that enacted it
abbrev pub first_rule : Known → Question → Option QueryRule
first_rule known q =
    if nat_lt q.viewpoint known.enacted then Some (UnknownWork q.work)
    else (if nat_lt known.front q.viewpoint then Some (ViewpointAhead known.front)
    else (if is_too_early q.version known.act then Some (NotYetEnacted known.act.day)
    else (if not (bytes_eq q.language known.act.language) then Some (OtherLanguage known.act.language) else None)))

-- the day on which a question is answered: that of its version, or without one the act's own
abbrev pub asked_day : Option ℕ → Act → ℕ
asked_day None act = act.day
asked_day (Some day) act = day

-- the answer of these provisions
abbrev pub answer_with : Known → VersionValue → Question → List (Branch Shown) → Answer
answer_with known version q nodes = record {
  question = q;
  bears = root_flag known q.reading (asked_day q.version known.act);
  nodes = nodes;
  applied = version.applied;
  unapplied = version.unapplied;
}

-- the answer of what was asked for of a text, or the rule that it is not there
abbrev pub answer_part : Known → VersionValue → Question → Result (List (Branch Shown)) QueryRule
    → Result Answer QueryRule
answer_part known version q (Ok nodes) = Ok (answer_with known version q nodes)
answer_part known version q (Err rule) = Err rule

-- that answer, unless a rule was broken before
abbrev pub unless_broken : Option QueryRule → Result Answer QueryRule → Result Answer QueryRule
unless_broken None answer = answer
unless_broken (Some rule) answer = Err rule

-- the answer to a question that breaks no rule before its text is looked at, from a version of its work
abbrev pub answer_of_text : Known → VersionValue → Question → Result Answer QueryRule
answer_of_text known version q =
    answer_part known version q
    (asked_part q.portion (shown_text known q.reading (asked_day q.version known.act) version))

-- the answer to a question from a version of its work, or the first rule that it breaks
abbrev pub answer_from : Known → VersionValue → Question → Result Answer QueryRule
answer_from known version q = unless_broken (first_rule known q) (answer_of_text known version q)

-- the answer to a question by what is known of its work, replayed on the day that it asks for
unfoldable pub answer_on : Known → Question → Result Answer QueryRule
answer_on known q = answer_from known (replay_on known q.reading (asked_day q.version known.act)) q

-- what is answered is what is told: this value, or this rule; or there was not enough memory
abbrev pub Answers : {A : Type 0} → Result A AskFault → Result A QueryRule → Type 0
Answers (Ok value) told = told ≡ Ok value
Answers (Err (fails.Query rule)) told = told ≡ Err rule
Answers (Err fails.Memory) told = Unit {0}

-- what is judged: no rule is broken, or this one; or there was not enough memory
abbrev pub Judges : {A : Type 0} → Result A AskFault → Option QueryRule → Type 0
Judges (Ok value) rule = rule ≡ None
Judges (Err (fails.Query broken)) rule = rule ≡ Some broken
Judges (Err fails.Memory) rule = Unit {0}
