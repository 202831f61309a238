-- Showing provisions side by side is showing each, with its flag and its eId.
use Rattle.std.proofs.Common.{◌≡◌, ◌∙◌, sym, ℕ, ◌+◌, ◌<◌, Bool, List, [], ◌∷◌, ◌++◌, Option, Some, map, take, length, get_or, refl, ap, arith}
use Rattle.std.proofs.lemmas.List.{map_push, take_more}
use Rattle.eid_paths.specs.declared.numbering.Numbering.{Numbering}
use Rattle.act_tree.specs.declared.tree.Tree.{Tree}
use Rattle.act_tree.specs.Branches.{Branch, Branches, branch, branches_of, no_branches, more_branches, height, heights}
use Rattle.act_tree.specs.Eids.{eid_below}
use Rattle.act_tree.specs.Provisions.{Provision}
use Rattle.act_tree.specs.Seen.{provision_at, branch_at, below_at}
use Rattle.act_tree.proofs.Walking.{branch_is}
use Rattle.law_register.specs.Answer.Shown.{Shown}
use Rattle.law_register.specs.declared.register.known.Known.{Known}
use Rattle.law_register.specs.declared.answer.question.Reading.{Reading}
use Rattle.law_register.specs.Answer.Answers.{shown, shown_as, all_shown}
use Rattle.law_register.specs.Answer.Flags.{flag_below}

module _ (known : Known) (reading : Reading) (day : ℕ) where
  pub branches_of-shown : (numbering : Numbering) (flag : Bool) (above : Option (List ℕ)) (bs : List (Branch Provision))
      → branches_of (map (shown known reading day numbering flag above) bs) ≡ all_shown known reading day numbering flag above (branches_of bs)
  branches_of-shown numbering flag above [] = refl
  branches_of-shown numbering flag above (b ∷ bs) =
      ap (more_branches (shown known reading day numbering flag above b)) (branches_of-shown numbering flag above bs)

  -- what is shown nests as deep as the text
  mutual
    height_shown : (numbering : Numbering) (flag : Bool) (above : Option (List ℕ)) (b : Branch Provision) → height (shown known reading day numbering flag above b) ≡ height b
    height_shown numbering flag above (branch p below) =
        omega (arith, heights_shown numbering (flag_below known reading day flag p.wid) (Some (eid_below numbering above p.own.element p.own.num)) below)

    pub heights_shown : (numbering : Numbering) (flag : Bool) (above : Option (List ℕ)) (bs : Branches Provision) → heights (all_shown known reading day numbering flag above bs) ≡ heights bs
    heights_shown numbering flag above no_branches = refl
    heights_shown numbering flag above (more_branches b bs) = omega (arith, height_shown numbering flag above b, heights_shown numbering flag above bs)

  -- a node is shown: with its flag and its eId, and those beneath it below these
  pub shown_one : (t : Tree) (n : Numbering) (flag bears : Bool) (above : Option (List ℕ)) (id : ℕ) (eid name : List ℕ) (node : Branch Shown) (below : Branches Shown) (kids : Branches Provision)
      → node ≡ branch (shown_as bears eid (provision_at t id)) below → eid ≡ eid_below n above (provision_at t id).own.element (provision_at t id).own.num
      → bears ≡ flag_below known reading day flag (provision_at t id).wid
      → name ≡ eid → below ≡ all_shown known reading day n bears (Some name) kids → kids ≡ below_at t id
      → node ≡ shown known reading day n flag above (branch_at t id)
  shown_one t n flag bears above id eid name node below kids made is flagged named beneath under =
      let p : Provision = provision_at t id in
      let e : List ℕ = eid_below n above p.own.element p.own.num in
      let f : Bool = flag_below known reading day flag p.wid in
      made
      ∙ ap (λ w. branch (shown_as bears w p) below) is
      ∙ ap (λ b. branch (shown_as b e p) below) flagged
      ∙ ap (branch (shown_as f e p))
      (beneath
      ∙ ap (λ b. all_shown known reading day n b (Some name) kids) flagged
      ∙ ap (λ w. all_shown known reading day n f (Some w) kids) (named ∙ is)
      ∙ ap (all_shown known reading day n f (Some e)) under)
      ∙ sym (ap (shown known reading day n flag above) (branch_is t id))

  -- one node more is shown
  pub shown_more : (t : Tree) (n : Numbering) (flag : Bool) (above : Option (List ℕ)) (ids : List ℕ) (i id : ℕ) (before after : List (Branch Shown)) (node : Branch Shown)
      → i < length ids → id ≡ get_or ids i id → before ≡ map (shown known reading day n flag above) (map (branch_at t) (take i ids))
      → node ≡ shown known reading day n flag above (branch_at t id)
      → after ≡ before ++ node ∷ [] → after ≡ map (shown known reading day n flag above) (map (branch_at t) (take (i + 1) ids))
  shown_more t n flag above ids i id before after node within at so_far one pushed =
      let show : Branch Provision → Branch Shown = shown known reading day n flag above in
      pushed
      ∙ ap (λ bs. bs ++ node ∷ []) so_far
      ∙ ap (λ b. map show (map (branch_at t) (take i ids)) ++ b ∷ []) (one ∙ ap (λ j. show (branch_at t j)) at)
      ∙ sym (map_push show (map (branch_at t) (take i ids)) (branch_at t (get_or ids i id)))
      ∙ ap (map show) (sym (map_push (branch_at t) (take i ids) (get_or ids i id)))
      ∙ ap (λ js. map show (map (branch_at t) js)) (sym (take_more ids i id within))
