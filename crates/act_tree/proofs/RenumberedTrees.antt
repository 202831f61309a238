-- A tree whose provisions are given other nums, one pair after another from the last to the first.
use Rattle.std.proofs.Common.{◌≡◌, ◌∙◌, sym, ap, refl, ℕ, ◌+◌, ◌-◌, ◌<◌, ◌≤◌, List, [], ◌∷◌, length, map, drop, get_or, arith}
use Rattle.std.proofs.lemmas.List.{drop_more}
use Rattle.act_tree.specs.declared.tree.Tree.{Tree}
use Rattle.act_tree.specs.Changes.{renumbered}
use Rattle.act_tree.specs.Seen.{tree_view, provision_at}
use Rattle.act_tree.specs.Trees.{TreeValue}
use Rattle.act_tree.proofs.Renumbering.{none_renumbered, more_renumbered}

-- a pair of a node and a num, with the node's wId
abbrev pub by_wid : Tree → ℕ × List ℕ → List ℕ × List ℕ
by_wid t pair = ((provision_at t pair.0).wid, pair.1)

drop_none : (pairs : List (ℕ × List ℕ)) → drop (length pairs) pairs ≡ []
drop_none [] = refl
drop_none (pair ∷ pairs) = drop_none pairs

pub given_none : (t : Tree) (pairs : List (ℕ × List ℕ)) → tree_view t ≡ record (tree_view t) { body = renumbered (map (by_wid t) (drop (length pairs) pairs)) (tree_view t).body }
given_none t pairs =
    ap {B = TreeValue} (λ bs. record { numbering = (tree_view t).numbering; limit = (tree_view t).limit; body = bs; changes = (tree_view t).changes })
    (sym (ap (λ ps. renumbered (map (by_wid t) ps) (tree_view t).body) (drop_none pairs) ∙ none_renumbered (tree_view t).body))

pub given_more : (start now next : Tree) (pairs : List (ℕ × List ℕ)) (place : ℕ) (pair : ℕ × List ℕ) (num : List ℕ) → 0 < place → place ≤ length pairs → pair ≡ get_or pairs (place - 1) pair → num ≡ pair.1
    → tree_view now ≡ record (tree_view start) { body = renumbered (map (by_wid start) (drop place pairs)) (tree_view start).body }
    → ((k : ℕ) → (provision_at now k).wid ≡ (provision_at start k).wid)
    → tree_view next ≡ record (tree_view now) { body = renumbered (((provision_at now pair.0).wid, num) ∷ []) (tree_view now).body }
    → tree_view next ≡ record (tree_view start) { body = renumbered (map (by_wid start) (drop (place - 1) pairs)) (tree_view start).body }
given_more start now next pairs place pair num some within it same so_far wids last =
    let further : place - 1 + 1 ≡ place = omega arith in
    let rest : drop (place - 1) pairs ≡ pair ∷ drop place pairs =
    drop_more pairs (place - 1) pair (omega arith) ∙ ap (λ n. get_or pairs (place - 1) pair ∷ drop n pairs) further ∙ ap (λ p. p ∷ drop place pairs) (sym it) in
    let left : List (List ℕ × List ℕ) = map (by_wid start) (drop place pairs) in
    let one : ((provision_at now pair.0).wid, num) ≡ by_wid start pair = ap (λ w. (w, num)) (wids pair.0) ∙ ap (λ n. ((provision_at start pair.0).wid, n)) same in
    last
    ∙ ap {B = TreeValue} (λ v. record { numbering = v.numbering; limit = v.limit; body = renumbered (((provision_at now pair.0).wid, num) ∷ []) v.body; changes = v.changes }) so_far
    ∙ ap {B = TreeValue} (λ bs. record { numbering = (tree_view start).numbering; limit = (tree_view start).limit; body = bs; changes = (tree_view start).changes })
    (ap (λ q. renumbered (q ∷ []) (renumbered left (tree_view start).body)) one
    ∙ sym (more_renumbered (by_wid start pair) left (tree_view start).body)
    ∙ sym (ap (λ ps. renumbered (map (by_wid start) ps) (tree_view start).body) rest))
