-- The way down by the levels of an eId: each child that goes on by the next level has the eId of the levels so far.
use Rattle.std.proofs.Common.{◌≡◌, ◌∙◌, sym, ap, refl, subst, ℕ, zero, suc, ◌+◌, ◌<◌, ◌==◌, Bool, true, false, not, ◌||◌, ◌&&◌, cond, List, [], ◌∷◌, ◌++◌, length, map, take, drop, get_or, Option, Some, None, inl, inr, arith}
use Rattle.std.specs.Prelude.{slice_get}
use Rattle.std.specs.Str.{bytes_eq}
use Rattle.std.proofs.lemmas.Bool.{or_cases, and_parts, eqb-true, eq-eqb}
use Rattle.eid_paths.specs.declared.level.Level.{Level}
use Rattle.eid_paths.specs.declared.numbering.Numbering.{Numbering}
use Rattle.eid_paths.specs.Eids.{eid_text}
use Rattle.eid_paths.specs.Elements.{is_throughout}
use Rattle.eid_paths.specs.Levels.{level_text}
use Rattle.act_tree.specs.declared.tree.Tree.{Tree}
use Rattle.act_tree.specs.Arena.{provision_in, above_in}
use Rattle.act_tree.specs.Branches.{branches_of}
use Rattle.act_tree.specs.EidLevels.{own_level}
use Rattle.act_tree.specs.Eids.{eid_below}
use Rattle.act_tree.specs.EidsOfNodes.{eid_up, IsNodeOf}
use Rattle.act_tree.specs.LevelsOfNodes.{begins_eid, levels_at}
use Rattle.act_tree.specs.Provisions.{Own}
use Rattle.act_tree.specs.Seen.{tree_view, has_node, provision_at, branch_at, below_at}
use Rattle.act_tree.specs.Slots.{at, number, size}
use Rattle.act_tree.specs.WaysDown.{goes_on_by, has_way}
use Rattle.act_tree.specs.Wids.{is_among}
use Rattle.act_tree.proofs.EidsDiffer.{node_eid}
use Rattle.act_tree.proofs.EidsOfTree.{eid_under, AreUnder}
use Rattle.act_tree.proofs.GoingUp.{eid_root}
use Rattle.act_tree.proofs.LevelsDiffer.{top_of, text_more}
use Rattle.act_tree.proofs.LevelsNoted.{level_of_one}
use Rattle.act_tree.proofs.Texts.{same_text}
use Rattle.act_tree.proofs.Walking.{nodes_from}
use Rattle.act_tree.proofs.Ways.{eid_up_is}

-- the levels from one on are that one, and those after it
pub drop_here : (levels : List Level) (k : ℕ) (level : Level) → slice_get levels k ≡ Some level → drop k levels ≡ level ∷ drop (k + 1) levels
drop_here levels k level is = by levels k is ∙ ap (λ n. level ∷ drop n levels) (let more : suc k ≡ k + 1 = omega arith in more)
  where
    by : (levels : List Level) (k : ℕ) → slice_get levels k ≡ Some level → drop k levels ≡ level ∷ drop (suc k) levels
    by [] zero is = absurd cc
    by [] (suc k) is = absurd cc
    by (first ∷ levels) zero is = (let one : first ≡ level = cc in ap (λ l. l ∷ levels) one)
    by (first ∷ levels) (suc k) is = by levels k is

-- the levels up to one are those before it, and that one
pub take_here : (levels : List Level) (k : ℕ) (level : Level) → slice_get levels k ≡ Some level → take (k + 1) levels ≡ take k levels ++ level ∷ []
take_here levels k level is = ap (λ n. take n levels) (let more : k + 1 ≡ suc k = omega arith in more) ∙ by levels k is
  where
    by : (levels : List Level) (k : ℕ) → slice_get levels k ≡ Some level → take (suc k) levels ≡ take k levels ++ level ∷ []
    by [] zero is = absurd cc
    by [] (suc k) is = absurd cc
    by (first ∷ levels) zero is = (let one : first ≡ level = cc in ap (λ l. l ∷ []) one)
    by (first ∷ levels) (suc k) is = ap (λ ls. first ∷ ls) (by levels k is)

pub within_levels : (levels : List Level) (k : ℕ) (level : Level) → slice_get levels k ≡ Some level → k < length levels
within_levels [] zero level is = absurd cc
within_levels [] (suc k) level is = absurd cc
within_levels (first ∷ levels) zero level is = omega arith
within_levels (first ∷ levels) (suc k) level is = omega (arith, within_levels levels k level is)

some_taken : (levels : List Level) (k : ℕ) (level : Level) → slice_get levels k ≡ Some level → 0 < k → top_of (take k levels) ≡ false
some_taken [] zero level is some = absurd (omega arith)
some_taken [] (suc k) level is some = absurd cc
some_taken (first ∷ levels) zero level is some = absurd (omega arith)
some_taken (first ∷ levels) (suc k) level is some = refl

or_none : (s : Bool) → (s || false) ≡ s
or_none true = refl
or_none false = refl

not_told : (s : Bool) → not s ≡ true → s ≡ false
not_told true never = absurd cc
not_told false told = refl

-- a child goes on by a level exactly where the level is the one with which it goes on
pub goes_on_is : (t : Tree) (level : Level) (id : ℕ) → is_among (level_text level.element level.num) (levels_at t (id ∷ [])) ≡ goes_on_by (tree_view t).numbering level (provision_at t id).own
goes_on_is t level id =
    let own : Own = (provision_at t id).own in
    ap (is_among (level_text level.element level.num)) (level_of_one t id (is_throughout (tree_view t).numbering own.element) refl) ∙ by own (is_throughout (tree_view t).numbering own.element)
  where
    by : (own : Own) (s : Bool) → is_among (level_text level.element level.num) (cond s [] (level_text own.element own.num ∷ [])) ≡ (not s && bytes_eq (level_text level.element level.num) (own_level own))
    by own true = refl
    by own false = or_none (bytes_eq (level_text level.element level.num) (own_level own))

module _ (t : Tree) (levels : List Level) (k : ℕ) (level : Level) (is : slice_get levels k ≡ Some level) (ids : List ℕ) (i id : ℕ) (within : i < length ids) (it : id ≡ get_or ids i id) where
  -- a way goes down by the levels that are left from the nodes from a place on
  abbrev pub from : ℕ → Bool
  from j = has_way (tree_view t).numbering (drop k levels) (branches_of (map (branch_at t) (drop j ids)))

  -- the node goes on by the level
  abbrev pub on : Bool
  on = goes_on_by (tree_view t).numbering level (provision_at t id).own

  -- a way goes down from it by the levels behind
  abbrev pub beneath : Bool
  beneath = has_way (tree_view t).numbering (drop (k + 1) levels) (below_at t id)

  -- a way goes down from the first of some nodes, or from the others
  way_from : from i ≡ ((on && beneath) || from (i + 1))
  way_from =
      let n : Numbering = (tree_view t).numbering in
      let rest : List Level = drop (k + 1) levels in
      ap (λ ls. has_way n ls (branches_of (map (branch_at t) (drop i ids)))) (drop_here levels k level is)
      ∙ ap (has_way n (level ∷ rest)) (nodes_from t ids i id within)
      ∙ ap (λ j. (goes_on_by n level (provision_at t j).own && has_way n rest (below_at t j)) || has_way n (level ∷ rest) (branches_of (map (branch_at t) (drop (i + 1) ids)))) (sym it)
      ∙ sym (ap (λ ls. (on && beneath) || has_way n ls (branches_of (map (branch_at t) (drop (i + 1) ids)))) (drop_here levels k level is))

  module _ (goes : Bool) (told : goes ≡ is_among (level_text level.element level.num) (levels_at t (id ∷ []))) where
    goes_is : goes ≡ on
    goes_is = told ∙ goes_on_is t level id

    pub way_past : goes ≡ false → from (i + 1) ≡ from i
    way_past off = sym (way_from ∙ ap (λ s. (s && beneath) || from (i + 1)) (sym goes_is ∙ off))

    pub way_here : goes ≡ true → (found : Bool) → found ≡ beneath → found ≡ true → found ≡ from i
    way_here does found same some =
        some ∙ sym (way_from ∙ ap (λ s. (s && beneath) || from (i + 1)) (sym goes_is ∙ does) ∙ ap (λ s. s || from (i + 1)) (sym same ∙ some))

    pub way_later : goes ≡ true → (found : Bool) → found ≡ beneath → found ≡ false → from (i + 1) ≡ from i
    way_later does found same none =
        sym (way_from ∙ ap (λ s. (s && beneath) || from (i + 1)) (sym goes_is ∙ does) ∙ ap (λ s. s || from (i + 1)) (sym same ∙ none))

    -- a child that goes on by the level has the eId of the levels so far and that one
    pub goes_down : goes ≡ true → 0 < k → AreUnder t (Some (eid_text (take k levels))) ids → IsNodeOf t (eid_text (take (k + 1) levels)) id
    goes_down does some under =
        let above : List ℕ = eid_text (take k levels) in
        let own : Own = (provision_at t id).own in
        let P : ℕ → Type 0 = λ j. IsNodeOf t (eid_under t (Some above) j) j in
        let Q : List ℕ → Type 0 = λ e. IsNodeOf t e id in
        let parts = and_parts (not (is_throughout (tree_view t).numbering own.element)) (bytes_eq (level_text level.element level.num) (own_level own)) (sym goes_is ∙ does) in
        let through : is_throughout (tree_view t).numbering own.element ≡ false = not_told (is_throughout (tree_view t).numbering own.element) parts.0 in
        let text : eid_under t (Some above) id ≡ eid_text (take (k + 1) levels) =
        ap (λ s. cond s (own_level own) (above ++ 95 ∷ 95 ∷ own_level own)) through
        ∙ ap (λ w. above ++ 95 ∷ 95 ∷ w) (sym (same_text (level_text level.element level.num) (own_level own) parts.1))
        ∙ sym (ap eid_text (take_here levels k level is) ∙ text_more (take k levels) level (some_taken levels k level is some)) in
        subst Q text (subst P (sym it) (under i id within))

alone : (n : Numbering) (above : Option (List ℕ)) (own : Own) → is_throughout n own.element ≡ true → eid_below n above own.element own.num ≡ own_level own
alone n None own through = refl
alone n (Some above) own through = ap (λ s. cond s (own_level own) (above ++ 95 ∷ 95 ∷ own_level own)) through

-- the eId of a provision that begins one is its level
pub begins_down : (t : Tree) (i : ℕ) (x : List ℕ) → begins_eid t.numbering (at t.arena) (size t.arena) i ≡ true → bytes_eq x (own_level (provision_at t i).own) ≡ true → IsNodeOf t x i
unfolding has_node tree_view provision_at
begins_down t i x begun same =
    let n : Numbering = t.numbering in
    let own : Own = (provision_in (at t.arena i)).own in
    let above : ℕ = above_in (at t.arena i) in
    let first = and_parts _ _ begun in
    let second = and_parts _ _ first.1 in
    let node : has_node t i ≡ true = second.1 in
    let other : i ≡ 0 → ⊥ = λ root. eqb_not i (not_told (i == 0) second.0) root in
    let level : eid_below n (eid_up (size t.arena) n (at t.arena) above) own.element own.num ≡ own_level own = elim (or_cases (above == 0) (is_throughout n own.element) first.0) [
      | inl root ↦ ap (λ o. eid_below n o own.element own.num) (eid_root (size t.arena) n (at t.arena) above (eqb-true above 0 root))
      | inr through ↦ alone n (eid_up (size t.arena) n (at t.arena) above) own through
    ] in (
      node,
      (other, eid_up_is t i node ∙ node_eid (at t.arena) (number t.arena) (size t.arena) t.whole n i second.1 other ∙ ap (λ e. Some e) (level ∙ sym (same_text x (own_level own) same))),
    )
  where
    eqb_not : (k : ℕ) → (k == 0) ≡ false → k ≡ 0 → ⊥
    eqb_not k none root = (let told : (k == 0) ≡ true = eq-eqb k 0 root in cc)
