-- What a register lacks of what references name: which references dangle, by the register alone.
use Rattle.std.specs.Prelude.{◌≡◌, ℕ, nat_le, List, [], ◌∷◌, ◌++◌, map, Option, Some, None, is_some, Result, Ok, Err, if◌then◌else◌}
use Rattle.std.specs.Cmp.Lexicographic.{slice_cmp}
use Rattle.std.specs.List.Sorted.{IsStrictlySortedBy}
use Rattle.std.specs.Ordering.{nat_cmp}
use Rattle.eid_paths.specs.declared.numbering.Numbering.{Numbering}
use Rattle.act_tree.specs.Branches.{Branch, Branches, branch, no_branches, more_branches}
use Rattle.act_tree.specs.Eids.{eid_below}
use Rattle.act_tree.specs.Provisions.{Provision}
use Rattle.act_tree.specs.Trees.{TreeValue}
use Rattle.frbr_names.specs.Expressions.{Expression}
use Rattle.law_register.specs.declared.answer.answer.Answer.{Answer}
use Rattle.law_register.specs.declared.answer.queries.QueryRule.{QueryRule}
use Rattle.law_register.specs.declared.answer.question.Question.{Question}
use Rattle.law_register.specs.declared.answer.question.Reading.TheVariants.{Force}
use Rattle.law_register.specs.declared.register.entry.Entry.{Entry}
use Rattle.law_register.specs.declared.register.known.Known.{Known}
use Rattle.law_register.specs.Answer.Asking.{answer_at}
use Rattle.law_register.specs.Answer.Queries.{query_number}
use Rattle.law_register.specs.Answer.Replay.{replay_on}
use Rattle.law_register.specs.Provisions.Carrying.{held_now}
use Rattle.law_register.specs.Register.LawList.{front}
use Rattle.law_refs.specs.Judging.{Answers, judged}
use Rattle.law_refs.specs.Listed.{all_listed}
use Rattle.law_refs.specs.Names.{is_among}
use Rattle.law_refs.specs.declared.dangling.DanglingRef.{DanglingRef}
use Rattle.law_refs.specs.declared.node_ref.NodeRef.{NodeRef}

-- the question for what a reference names, once there are so many law entries: in the reading of force
abbrev pub question_for : ℕ → Expression → Question
question_for front target = record {
  work = target.work.text;
  language = target.language;
  version = target.version;
  portion = target.portion;
  viewpoint = front;
  reading = Force;
}

-- the number of the rule by which a question is refused, if it is
abbrev pub refused_by : Result Answer QueryRule → Option ℕ
refused_by (Ok answer) = None
refused_by (Err rule) = Some (query_number rule)

-- what breaks a target, by a register: the first rule that the question for it breaks, which asks for what all entries make known
unfoldable pub missing : List Entry → Answers
missing entries target = refused_by (answer_at entries (question_for (front entries) target))

-- the references of one provision, in order
abbrev pub refs_at : List ℕ → List (List ℕ) → List NodeRef
refs_at eid iris = map (λ iri. record { eid = eid; iri = iri }) iris

-- the references of provisions, below the one of the eId `above`, or right below the root where that is `None`: those of each provision
-- before those of the provisions beneath it
abbrev mutual
  pub branch_refs : Numbering → Option (List ℕ) → Branch Provision → List NodeRef
  branch_refs numbering above (branch p below) =
      refs_at (eid_below numbering above p.own.element p.own.num) p.own.refs
      ++ all_branch_refs numbering (Some (eid_below numbering above p.own.element p.own.num)) below

  pub all_branch_refs : Numbering → Option (List ℕ) → Branches Provision → List NodeRef
  all_branch_refs numbering above no_branches = []
  all_branch_refs numbering above (more_branches b bs) =
      branch_refs numbering above b ++ all_branch_refs numbering above bs

-- the references of a text, in its order
abbrev pub text_refs : TreeValue → List NodeRef
text_refs tree = all_branch_refs tree.numbering None tree.body

-- the references of the text of a work that is in force on a day, those that modifications brought among them
unfoldable pub refs_in_force : Known → ℕ → List NodeRef
refs_in_force known day = text_refs (replay_on known Force day).tree

-- those of them that dangle: none before the day of the act
unfoldable pub dangling_of : List Entry → ℕ → List ℕ → Known → List DanglingRef
dangling_of entries day work known =
    if nat_le known.act.day day then all_listed work (map (judged (missing entries)) (refs_in_force known day)) else []

-- the same, where the work is known
abbrev pub dangling_if : List Entry → ℕ → List ℕ → Option Known → List DanglingRef
dangling_if entries day work None = []
dangling_if entries day work (Some known) = dangling_of entries day work known

-- those of works, one work after another, as all entries make them known
abbrev pub dangling_in : List Entry → ℕ → List (List ℕ) → List DanglingRef
dangling_in entries day [] = []
dangling_in entries day (work ∷ works) = dangling_if entries day work (held_now entries work) ++ dangling_in entries day works

-- the references of a register that dangle on a day: of the works whose act is enacted, each once, in the order of the bytes of their IRIs
pub record IsDangling (entries : List Entry) (day : ℕ) (found : List DanglingRef) : Type 0 where
  pub works : List (List ℕ)
  pub all : (work : List ℕ) → is_among work works ≡ is_some (held_now entries work)
  pub in_order : IsStrictlySortedBy (slice_cmp nat_cmp) works
  pub is : found ≡ dangling_in entries day works
