-- What is shown of a text does not depend on how many law entries there are, nor on how many of them are known.
use Rattle.std.proofs.Common.{◌≡◌, ◌∙◌, ap, ap₂, ℕ, Bool, List, Option, Some, None, Result, Ok, Err, refl}
use Rattle.eid_paths.specs.declared.numbering.Numbering.{Numbering}
use Rattle.act_tree.specs.Branches.{Branch, Branches, branch, no_branches, more_branches}
use Rattle.act_tree.specs.Eids.{eid_below}
use Rattle.act_tree.specs.Provisions.{Provision}
use Rattle.law_register.specs.Answer.Answers.{all_shown, answer_of_text, answer_part, asked_day, asked_part, shown, shown_as, shown_text}
use Rattle.law_register.specs.Answer.Flags.{flag_below, root_flag}
use Rattle.law_register.specs.Answer.Replay.{VersionValue}
use Rattle.law_register.specs.Answer.Shown.{Shown}
use Rattle.law_register.specs.declared.answer.queries.QueryRule.{QueryRule}
use Rattle.law_register.specs.declared.answer.question.Question.{Question}
use Rattle.law_register.specs.declared.answer.question.Reading.{Reading}
use Rattle.law_register.specs.declared.register.known.Known.{Known}

module _ (viewpoint front : ℕ) (known : Known) where
  abbrev seen : Known
  seen = record known { viewpoint = viewpoint; front = front }

  mutual
    shown_same : (reading : Reading) (day : ℕ) (numbering : Numbering) (flag : Bool) (above : Option (List ℕ)) (b : Branch Provision)
        → shown seen reading day numbering flag above b ≡ shown known reading day numbering flag above b
    shown_same reading day numbering flag above (branch p below) =
        ap (branch (shown_as (flag_below known reading day flag p.wid) (eid_below numbering above p.own.element p.own.num) p))
        (all_shown_same reading day numbering (flag_below known reading day flag p.wid) (Some (eid_below numbering above p.own.element p.own.num)) below)

    all_shown_same : (reading : Reading) (day : ℕ) (numbering : Numbering) (flag : Bool) (above : Option (List ℕ)) (bs : Branches Provision)
        → all_shown seen reading day numbering flag above bs ≡ all_shown known reading day numbering flag above bs
    all_shown_same reading day numbering flag above no_branches = refl
    all_shown_same reading day numbering flag above (more_branches b bs) =
        ap₂ more_branches (shown_same reading day numbering flag above b) (all_shown_same reading day numbering flag above bs)

  part_same : (version : VersionValue) (q : Question) (nodes : Result (List (Branch Shown)) QueryRule)
      → answer_part seen version q nodes ≡ answer_part known version q nodes
  part_same version q (Ok nodes) = refl
  part_same version q (Err rule) = refl

  pub text_same : (version : VersionValue) (q : Question) → answer_of_text (record known { viewpoint = viewpoint; front = front }) version q ≡ answer_of_text known version q
  text_same version q =
      part_same version q (asked_part q.portion (shown_text seen q.reading (asked_day q.version known.act) version))
      ∙ ap (λ text. answer_part known version q (asked_part q.portion text))
      (all_shown_same q.reading (asked_day q.version known.act) version.tree.numbering (root_flag known q.reading (asked_day q.version known.act)) None version.tree.body)
