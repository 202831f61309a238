-- What is shown of a text does not depend on what is carried.
use Rattle.std.proofs.Common.{◌≡◌, ◌∙◌, ap, ap₂, ℕ, Bool, cond, ◌||◌, List, [], ◌∷◌, map, Option, Some, None, Result, Ok, Err, refl}
use Rattle.std.specs.Str.{bytes_eq}
use Rattle.desk_base.specs.declared.period.Period.{Period}
use Rattle.desk_base.specs.Periods.{includes}
use Rattle.eid_paths.specs.declared.numbering.Numbering.{Numbering}
use Rattle.act_tree.specs.Branches.{Branch, Branches, branch, no_branches, more_branches}
use Rattle.act_tree.specs.Changes.{root_wid}
use Rattle.act_tree.specs.Eids.{eid_below}
use Rattle.act_tree.specs.Provisions.{Provision}
use Rattle.bearing_mods.specs.Efficacy.{efficacy_at}
use Rattle.bearing_mods.specs.Force.{force_at}
use Rattle.bearing_mods.specs.Turns.{efficacy_turn, force_turn}
use Rattle.bearing_mods.specs.declared.efficacy.CountedEfficacy.{CountedEfficacy}
use Rattle.law_register.specs.declared.answer.answer.Answer.{Answer}
use Rattle.law_register.specs.declared.answer.queries.QueryRule.{QueryRule}
use Rattle.law_register.specs.declared.answer.question.Question.{Question}
use Rattle.law_register.specs.declared.answer.question.Reading.{Reading}
use Rattle.law_register.specs.declared.answer.question.Reading.TheVariants as reading
use Rattle.law_register.specs.declared.law.modification.Destination.{Destination}
use Rattle.law_register.specs.declared.law.modification.Destination.TheVariants as to
use Rattle.law_register.specs.declared.register.known.Known.{Known}
use Rattle.law_register.specs.declared.register.known.KnownMod.{KnownMod}
use Rattle.law_register.specs.Answer.Answers.{all_shown, answer_of_text, answer_part, asked_day, asked_part, shown, shown_as, shown_text}
use Rattle.law_register.specs.Answer.Bearing.{act_itself, bears_on, force_of_act, force_of_node, node_bears}
use Rattle.law_register.specs.Answer.Counted.{efficacies_on, efficacy_from, force_from, forces_on, take_turns}
use Rattle.law_register.specs.Answer.Flags.{flag_below, has_some, is_marked, root_flag}
use Rattle.law_register.specs.Answer.Replay.{VersionValue}
use Rattle.law_register.specs.Answer.Shown.{Shown}
use Rattle.law_register.specs.Answer.Standing.{alone, mod_alone}

-- the same is counted of force and of efficacy
forces_alone : (thing : Destination) (day : ℕ) (ms : List KnownMod) → forces_on thing day (map mod_alone ms) ≡ forces_on thing day ms
forces_alone thing day [] = refl
forces_alone thing day (m ∷ ms) = ap (take_turns force_turn (cond m.live (force_from thing day m.id m.body) [])) (forces_alone thing day ms)

efficacies_alone : (thing : Destination) (day : ℕ) (ms : List KnownMod) → efficacies_on thing day (map mod_alone ms) ≡ efficacies_on thing day ms
efficacies_alone thing day [] = refl
efficacies_alone thing day (m ∷ ms) =
    ap (take_turns efficacy_turn (cond m.live (efficacy_from thing day m.id m.body) [])) (efficacies_alone thing day ms)

module _ (known : Known) where
  marked_alone : (r : Reading) (day : ℕ) (wid : List ℕ) → is_marked r (map mod_alone known.mods) day wid ≡ is_marked r known.mods day wid
  marked_alone reading.Force day wid = ap has_some (forces_alone (to.Node wid) day known.mods)
  marked_alone reading.Efficacy day wid =
      ap₂ (λ forces efficacies. has_some forces || has_some efficacies) (forces_alone (to.Node wid) day known.mods)
      (efficacies_alone (to.Node wid) day known.mods)

  force_alone : (wid : List ℕ) (day : ℕ) → force_of_node (alone known) wid day ≡ force_of_node known wid day
  force_alone wid day =
      let act : force_of_act (alone known) day ≡ force_of_act known day = ap (force_at known.act.force) (forces_alone act_itself day known.mods) in
      ap₂ (λ own forces. cond (bytes_eq wid root_wid) own (force_at own forces)) act (forces_alone (to.Node wid) day known.mods)

  bears_alone : (r : Reading) (thing : Destination) (force other : Period) (day : ℕ) → force ≡ other
      → bears_on r (map mod_alone known.mods) thing force day ≡ bears_on r known.mods thing other day
  bears_alone reading.Force thing force other day same = ap (λ period. includes period day) same
  bears_alone reading.Efficacy thing force other day same =
      ap₂ (λ (period : Period) (ones : List CountedEfficacy). (efficacy_at period ones day).holds) same (efficacies_alone thing day known.mods)

  node_alone : (r : Reading) (day : ℕ) (wid : List ℕ) → node_bears (alone known) r day wid ≡ node_bears known r day wid
  node_alone r day wid = bears_alone r (to.Node wid) (force_of_node (alone known) wid day) (force_of_node known wid day) day (force_alone wid day)

  flag_alone : (r : Reading) (day : ℕ) (above : Bool) (wid : List ℕ) → flag_below (alone known) r day above wid ≡ flag_below known r day above wid
  flag_alone r day above wid = ap₂ (λ marked bears. cond marked bears above) (marked_alone r day wid) (node_alone r day wid)

  mutual
    shown_alone : (r : Reading) (day : ℕ) (numbering : Numbering) (flag : Bool) (above : Option (List ℕ)) (b : Branch Provision)
        → shown (alone known) r day numbering flag above b ≡ shown known r day numbering flag above b
    shown_alone r day numbering flag above (branch p below) =
        let eid = eid_below numbering above p.own.element p.own.num in
        ap (λ bears. branch (shown_as bears eid p) (all_shown (alone known) r day numbering bears (Some eid) below)) (flag_alone r day flag p.wid)
        ∙ ap (branch (shown_as (flag_below known r day flag p.wid) (eid_below numbering above p.own.element p.own.num) p))
        (all_shown_alone r day numbering (flag_below known r day flag p.wid) (Some (eid_below numbering above p.own.element p.own.num)) below)

    all_shown_alone : (r : Reading) (day : ℕ) (numbering : Numbering) (flag : Bool) (above : Option (List ℕ)) (bs : Branches Provision)
        → all_shown (alone known) r day numbering flag above bs ≡ all_shown known r day numbering flag above bs
    all_shown_alone r day numbering flag above no_branches = refl
    all_shown_alone r day numbering flag above (more_branches b bs) =
        ap₂ more_branches (shown_alone r day numbering flag above b) (all_shown_alone r day numbering flag above bs)

  part_alone : (version : VersionValue) (q : Question) (nodes : Result (List (Branch Shown)) QueryRule)
      → answer_part (alone known) version q nodes ≡ answer_part known version q nodes
  part_alone version q (Ok nodes) =
      ap (λ bears. (let answer : Answer = record { question = q; bears = bears; nodes = nodes; applied = version.applied; unapplied = version.unapplied } in
      (let told : Result Answer QueryRule = Ok answer in told))) (node_alone q.reading (asked_day q.version known.act) root_wid)
  part_alone version q (Err rule) = refl

  pub text_alone : (version : VersionValue) (q : Question) → answer_of_text (alone known) version q ≡ answer_of_text known version q
  text_alone version q =
      let day = asked_day q.version known.act in
      part_alone version q (asked_part q.portion (shown_text (alone known) q.reading day version))
      ∙ ap (λ flag. answer_part known version q (asked_part q.portion (all_shown (alone known) q.reading day version.tree.numbering flag None version.tree.body)))
      (node_alone q.reading day root_wid)
      ∙ ap (λ text. answer_part known version q (asked_part q.portion text))
      (all_shown_alone q.reading day version.tree.numbering (root_flag known q.reading day) None version.tree.body)
