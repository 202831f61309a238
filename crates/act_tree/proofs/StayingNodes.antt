-- Nodes stay under their numbers where the index still leads to them.
use Rattle.std.proofs.Common.{◌≡◌, ◌∙◌, sym, ap, refl, ℕ, true, false, ◌||◌, cond, List, ◌∷◌, Some, inl, inr}
use Rattle.std.specs.Str.{bytes_eq}
use Rattle.std.proofs.lemmas.Bool.{cases_eq}
use Rattle.act_tree.specs.declared.arena.Arena.{Arena}
use Rattle.act_tree.specs.declared.tree.Tree.{Tree}
use Rattle.act_tree.specs.Arena.{provision_in, above_in, branch_from, climbs, IsWhole}
use Rattle.act_tree.specs.Branches.{Branches}
use Rattle.act_tree.specs.Provisions.{Provision}
use Rattle.act_tree.specs.Changes.{root_wid, is_in, any_holds}
use Rattle.act_tree.specs.Grafted.{IsGrafted}
use Rattle.act_tree.specs.Parted.{IsParted}
use Rattle.act_tree.specs.Planted.{HasGrown}
use Rattle.act_tree.specs.NodesStay.{NodesStay}
use Rattle.act_tree.specs.Seen.{tree_view, has_node, provision_at}
use Rattle.act_tree.specs.LastNumbers.{last_named}
use Rattle.act_tree.specs.WidIndexes.{WidIndexValue}
use Rattle.act_tree.specs.Slots.{at, number, size}
use Rattle.act_tree.specs.Wids.{all_wids, is_among}
use Rattle.act_tree.proofs.Climbing.{Seated, found_climbs}
use Rattle.act_tree.proofs.GraftedTrees.{AreFresh, body_of, fresh_one}
use Rattle.act_tree.proofs.TakingAway.{leads_there}
use Rattle.act_tree.proofs.TreeNodes.{node_seated, is_in-holds, found_wid, found_held, root_climbs}
use Rattle.act_tree.proofs.ReplacedNodes.{AreNew, not_root, not_new}
use Rattle.act_tree.proofs.PutIn.{all_wids_held}
use Rattle.act_tree.proofs.Frames.{none_left}
use Rattle.act_tree.proofs.Texts.{bytes_eq_sym}

-- the index leads from the wId of each node that there was to it
abbrev pub LeadsStill : Arena → Arena → Type 0
LeadsStill old new = (k : ℕ) → climbs (size old) (at old) k ≡ true → number new (provision_in (at old k)).wid ≡ Some k

module _ (old : Arena) (whole : IsWhole (at old) (number old) (size old)) where
  pub leads_node : (k : ℕ) → climbs (size old) (at old) k ≡ true → number old (provision_in (at old k)).wid ≡ Some k
  leads_node k node =
      let seat : Seated (at old) (number old) (branch_from (size old) (at old) 0) k = node_seated (at old) (number old) (size old) whole k node in
      leads_there (at old) (number old) seat.it (above_in (at old k)) k seat.stands

  -- where the index stays
  pub index_stays : (new : Arena) → new.numbers ≡ old.numbers → LeadsStill old new
  index_stays new same k node = ap (λ (ns : WidIndexValue). last_named ns.wids (provision_in (at old k)).wid) same ∙ leads_node k node

  -- where it stays for all wIds of the text
  pub index_kept : (new : Arena) → ((v : List ℕ) → is_among v (root_wid ∷ all_wids (body_of old)) ≡ true → number new v ≡ number old v) → LeadsStill old new
  index_kept new same k node =
      let w : List ℕ = (provision_in (at old k)).wid in
      let found : is_in w (body_of old) ≡ true = found_held (at old) (number old) (size old) whole w k (leads_node k node) node in
      same w (ap (λ t. bytes_eq w root_wid || t) (all_wids_held w (body_of old)) ∙ found) ∙ leads_node k node

-- then the nodes stay
pub nodes_stay : (old new : Tree) → LeadsStill old.arena new.arena → NodesStay old new
unfolding NodesStay has_node tree_view provision_at
nodes_stay old new leads = λ k node held.
    let w : List ℕ = (provision_in (at old.arena k)).wid in
    let to : number new.arena w ≡ Some k = leads k node in (
      found_climbs (at new.arena) (number new.arena) (size new.arena) new.whole w k (sym (is_in-holds (at new.arena) (number new.arena) (size new.arena) new.whole w) ∙ held) to,
      found_wid (at new.arena) (number new.arena) (size new.arena) new.whole w k to,
    )

-- a change that is counted keeps the nodes
pub counted : (old mid new : Tree) (changes : ℕ) → NodesStay old mid → tree_view new ≡ record (tree_view mid) { changes = changes } → ((k : ℕ) → has_node new k ≡ has_node mid k) → ((k : ℕ) → provision_at new k ≡ provision_at mid k) → NodesStay old new
unfolding NodesStay
counted old mid new changes stay tree nodes says = λ k node held.
    let still : (has_node mid k ≡ true) × ((provision_at mid k).wid ≡ (provision_at old k).wid) =
    stay k node (sym (ap (λ t. is_in (provision_at old k).wid t.body) tree) ∙ held) in
    (nodes k ∙ still.0, ap (λ p. p.wid) (says k) ∙ still.1)

-- nodes that stay with what they say, and then stay
pub stay_on : (old mid new : Tree) → ((k : ℕ) → has_node old k ≡ true → has_node mid k ≡ true) → ((k : ℕ) → has_node old k ≡ true → provision_at mid k ≡ provision_at old k) → NodesStay mid new → NodesStay old new
unfolding NodesStay
stay_on old mid new nodes says stay = λ k node held.
    let still : (has_node new k ≡ true) × ((provision_at new k).wid ≡ (provision_at mid k).wid) =
    stay k (nodes k node) (ap (λ p. is_in p.wid (tree_view new).body) (says k node) ∙ held) in
    (still.0, still.1 ∙ ap (λ p. p.wid) (says k node))

-- nodes stay in a tree that is as it was
pub same_stay : (t : Tree) → NodesStay t t
unfolding NodesStay
same_stay t = λ k node held. (node, refl)

-- what was laid down has other wIds
pub stay_grafted : (old new : Arena) (parent place : ℕ) (bs : Branches Provision) → IsWhole (at old) (number old) (size old) → AreFresh old (all_wids bs) → IsGrafted old new parent place bs → LeadsStill old new
stay_grafted old new parent place bs whole fresh is = index_kept old whole new (λ v found. ap (λ (ns : WidIndexValue). last_named ns.wids v) is.numbers ∙ is.laid.grown.numbers v (fresh v found))

pub stay_stopped : (old new : Arena) (ws : List (List ℕ)) → IsWhole (at old) (number old) (size old) → AreFresh old ws → HasGrown old new ws → LeadsStill old new
stay_stopped old new ws whole fresh is = index_kept old whole new (λ v found. is.numbers v (fresh v found))

-- the second part has a wId that was not there
pub stay_parted : (old new : Arena) (i place : ℕ) (head : List ℕ) (second : Provision) (moved : List ℕ) → IsWhole (at old) (number old) (size old) → is_in second.wid (body_of old) ≡ false → IsParted old new i place head second moved → LeadsStill old new
stay_parted old new i place head second moved whole fresh p =
    index_kept old whole new (λ v found. ap (λ (ns : WidIndexValue). last_named ns.wids v) p.numbers ∙ p.adds.numbers v
    ∙ ap (λ t. cond t (Some (size old)) (number old v)) (bytes_eq_sym second.wid v ∙ none_left (bytes_eq v second.wid) false (fresh_one old second.wid fresh v found)))

pub stay_same : (old new : Arena) → IsWhole (at old) (number old) (size old) → ((w : List ℕ) → number new w ≡ number old w) → LeadsStill old new
stay_same old new whole numbers = index_kept old whole new (λ v found. numbers v)

root_node : (t : Tree) → has_node t 0 ≡ true
unfolding has_node
root_node t = root_climbs (at t.arena) (number t.arena) (size t.arena) t.whole

root_says : (t : Tree) → (provision_at t 0).wid ≡ root_wid
unfolding provision_at
root_says t = ap (λ (p : Provision). p.wid) t.whole.root

-- of a text of which all is new only the root stays
pub stay_new : (old new : Tree) → AreNew old (all_wids (tree_view new).body) → NodesStay old new
unfolding NodesStay
stay_new old new fresh = λ k node held. elim (cases_eq k 0) [
  | inl zero ↦ (ap (has_node new) zero ∙ root_node new, ap (λ j. (provision_at new j).wid) zero ∙ root_says new ∙ sym (root_says old) ∙ sym (ap (λ j. (provision_at old j).wid) zero))
  | inr other ↦ absurd (
      let w : List ℕ = (provision_at old k).wid in
      let none : is_in w (tree_view new).body ≡ false = ap (λ t. t || any_holds w (tree_view new).body) (not_root old k node other) ∙ not_new old k (tree_view new).body node fresh in
      let never : true ≡ false = sym held ∙ none in
      cc)
]
