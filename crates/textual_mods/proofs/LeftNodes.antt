-- What is left of the nodes of a tree where one goes: one node, what is left beneath it, and the nodes after it.
use Rattle.std.proofs.Common.{◌≡◌, ◌∙◌, sym, ap, refl, ℕ, ◌+◌, ◌<◌, ◌==◌, Bool, true, false, not, cond, ◌&&◌, ◌||◌, List, [], ◌∷◌, length, map, drop, get_or, Option, Some, None, inl, inr, arith}
use Rattle.std.specs.Prelude.{IfSome}
use Rattle.std.specs.Str.{bytes_eq}
use Rattle.std.proofs.lemmas.Bool.{cases_Bool, eqb-true, eq-eqb}
use Rattle.std.proofs.lemmas.List.Folds.{list_any-append}
use Rattle.eid_paths.specs.declared.numbering.Numbering.{Numbering}
use Rattle.eid_paths.specs.Elements.{is_throughout}
use Rattle.act_tree.specs.declared.tree.Tree.{Tree}
use Rattle.act_tree.specs.Branches.{Branches, branch, no_branches, more_branches, branches_of, heights, counts}
use Rattle.act_tree.specs.EidLevels.{own_level, all_going_on}
use Rattle.act_tree.specs.Faults.{all_owns}
use Rattle.act_tree.specs.Provisions.{Provision}
use Rattle.act_tree.specs.Seen.{has_node, provision_at, branch_at, below_at}
use Rattle.act_tree.specs.Wids.{is_among}
use Rattle.act_tree.proofs.Texts.{equal_text, other_text}
use Rattle.act_tree.proofs.Walking.{nodes_from, below_lower}
use Rattle.textual_mods.specs.Substitutions.{goes, left, wid_of}
use Rattle.textual_mods.proofs.JoinLimits.{or_none}
use Rattle.textual_mods.proofs.NamedNodes.{same_node}

-- the node that goes is told by its number
pub gone_told : (t : Tree) (gone : Option ℕ) (other id : ℕ) (told : Bool) → gone ≡ Some other → IfSome gone (λ k. has_node t k ≡ true) → has_node t id ≡ true → told ≡ (other == id)
    → told ≡ goes (wid_of t gone) (provision_at t id).wid
gone_told t None other id told is nodes node eq = absurd cc
gone_told t (Some k) other id told is nodes node eq =
    let same : k ≡ other = cc in
    let w : List ℕ = (provision_at t id).wid in
    let v : List ℕ = (provision_at t k).wid in
    elim (cases_Bool (k == id)) [
      | inl it ↦ eq ∙ ap (λ j. j == id) (sym same) ∙ it ∙ sym (equal_text w v (ap (λ j. (provision_at t j).wid) (sym (eqb-true k id it))))
      | inr differ ↦ eq ∙ ap (λ j. j == id) (sym same) ∙ differ ∙ sym (other_text w v (λ text. absurd (
          let it : (k == id) ≡ true = eq-eqb k id (sym (same_node t id k node nodes text)) in
          cc)))
    ]

pub none_gone : (t : Tree) (o : Option ℕ) (id : ℕ) → o ≡ None → false ≡ goes (wid_of t o) (provision_at t id).wid
none_gone t o id is = sym (ap (λ g. goes (wid_of t g) (provision_at t id).wid) is)

-- nothing of a node that goes
abbrev pub unless_gone : Bool → ℕ → ℕ
unless_gone true k = 0
unless_gone false k = k

pub own_counted : (s : Bool) (told : ℕ) → told ≡ cond s 0 1 → told ≡ unless_gone s 1
own_counted true told is = is
own_counted false told is = is

pub left_none : (g : Option (List ℕ)) → left g no_branches ≡ no_branches
left_none None = refl
left_none (Some w) = refl

pub left_more : (g : Option (List ℕ)) (p : Provision) (below bs : Branches Provision) → left g (more_branches (branch p below) bs) ≡ cond (goes g p.wid) (left g bs) (more_branches (branch p (left g below)) (left g bs))
left_more None p below bs = refl
left_more (Some w) p below bs = refl

module _ (t : Tree) (gone : Option ℕ) (ids : List ℕ) (i id : ℕ) (within : i < length ids) (it : id ≡ get_or ids i id) where
  abbrev g : Option (List ℕ)
  g = wid_of t gone

  abbrev p : Provision
  p = provision_at t id

  abbrev s : Bool
  s = goes g p.wid

  -- what is left of the nodes from one on
  abbrev from_here : Branches Provision
  from_here = left g (branches_of (map (branch_at t) (drop i ids)))

  -- and of those after it
  abbrev later : Branches Provision
  later = left g (branches_of (map (branch_at t) (drop (i + 1) ids)))

  -- what is left beneath it, if it is left
  abbrev beneath : Branches Provision
  beneath = left g (cond s no_branches (below_at t id))

  left_from : from_here ≡ cond s later (more_branches (branch p (left g (below_at t id))) later)
  left_from =
      ap (left g) (nodes_from t ids i id within)
      ∙ left_more g (provision_at t (get_or ids i id)) (below_at t (get_or ids i id)) (branches_of (map (branch_at t) (drop (i + 1) ids)))
      ∙ ap (λ j. cond (goes g (provision_at t j).wid) later (more_branches (branch (provision_at t j) (left g (below_at t j))) later)) (sym it)

  pub kids_lower : (kids : List ℕ) → branches_of (map (branch_at t) kids) ≡ cond s no_branches (below_at t id) → heights (branches_of (map (branch_at t) kids)) < heights (branches_of (map (branch_at t) ids))
  kids_lower kids is = by s (ap heights is)
    where
      low : heights (below_at t (get_or ids i id)) < heights (branches_of (map (branch_at t) ids))
      low = below_lower t ids i id within

      same : heights (below_at t id) ≡ heights (below_at t (get_or ids i id))
      same = ap (λ j. heights (below_at t j)) it

      by : (r : Bool) → heights (branches_of (map (branch_at t) kids)) ≡ heights (cond r no_branches (below_at t id)) → heights (branches_of (map (branch_at t) kids)) < heights (branches_of (map (branch_at t) ids))
      by true told = omega (arith, low, same, told)
      by false told = omega (arith, low, same, told)

  not_test : (r : Bool) (x l : List ℕ) → is_among x (cond r [] (l ∷ [])) ≡ (not r && bytes_eq x l)
  not_test true x l = refl
  not_test false x l = or_none (bytes_eq x l)

  -- a level goes on at the node, or at a later one
  pub on_from : (n : Numbering) (x : List ℕ) → is_among x (all_going_on n false (all_owns from_here))
      ≡ ((not s && (not (is_throughout n p.own.element) && bytes_eq x (own_level p.own))) || is_among x (all_going_on n false (all_owns later)))
  on_from n x = ap (λ bs. is_among x (all_going_on n false (all_owns bs))) left_from ∙ by s
    where
      by : (r : Bool) → is_among x (all_going_on n false (all_owns (cond r later (more_branches (branch p (left g (below_at t id))) later))))
          ≡ ((not r && (not (is_throughout n p.own.element) && bytes_eq x (own_level p.own))) || is_among x (all_going_on n false (all_owns later)))
      by true = refl
      by false =
          list_any-append (bytes_eq x) (cond (is_throughout n p.own.element) [] (own_level p.own ∷ [])) (all_going_on n false (all_owns later))
          ∙ ap (λ r. r || is_among x (all_going_on n false (all_owns later))) (not_test (is_throughout n p.own.element) x (own_level p.own))

  pub counts_from : counts from_here ≡ unless_gone s 1 + counts beneath + counts later
  counts_from = ap counts left_from ∙ by s
    where
      by : (r : Bool) → counts (cond r later (more_branches (branch p (left g (below_at t id))) later)) ≡ unless_gone r 1 + counts (left g (cond r no_branches (below_at t id))) + counts later
      by true = let none : counts (left g no_branches) ≡ 0 = ap counts (left_none g) in omega (arith, none)
      by false = omega arith
