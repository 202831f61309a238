-- Where a provision has an eId, another begins one by its first level, and from there a way goes down by the others.
use Rattle.std.proofs.Common.{◌≡◌, ◌∙◌, sym, ap, refl, subst, ℕ, ◌<◌, ◌≤◌, ◌==◌, Bool, true, false, not, ◌&&◌, List, [], ◌∷◌, ◌++◌, drop, Option, Some, None, ◌⊎◌, inl, inr, append_assoc, arith, Ok, Err}
use Rattle.std.specs.List.{list_any}
use Rattle.std.specs.Prelude.{slice_get}
use Rattle.std.specs.Str.{bytes_eq}
use Rattle.std.proofs.lemmas.Bool.{cases_Bool, cases_eq, or_cases, and_parts, and_from, eq-eqb, ne_eqb}
use Rattle.std.proofs.lemmas.List.{append-nil}
use Rattle.std.proofs.lemmas.List.Folds.{list_any-append}
use Rattle.eid_paths.specs.declared.eid_fault.EidFault.{EidFault}
use Rattle.eid_paths.specs.declared.level.Level.{Level}
use Rattle.eid_paths.specs.declared.numbering.Numbering.{Numbering}
use Rattle.eid_paths.specs.Eids.{eid_of, eid_text}
use Rattle.eid_paths.specs.Elements.{is_throughout}
use Rattle.eid_paths.specs.Levels.{level_text, have_nums}
use Rattle.eid_paths.proofs.EidLaws.{eid_is_read}
use Rattle.act_tree.specs.declared.tree.Tree.{Tree}
use Rattle.act_tree.specs.Arena.{Laid, provision_in, above_in, below_in, branches_below, branch_from, climbs, Stands, StandAll, IsWhole}
use Rattle.act_tree.specs.Branches.{Branches, branch, no_branches, more_branches}
use Rattle.act_tree.specs.EidLevels.{begins, own_level}
use Rattle.act_tree.specs.Eids.{eid_below}
use Rattle.act_tree.specs.EidsOfWids.{level_of_own, levels_with, has_eid}
use Rattle.act_tree.specs.Faults.{owns, all_owns, eids, all_eids}
use Rattle.act_tree.specs.LevelsOfNodes.{begins_eid, begins_by, latest_at}
use Rattle.act_tree.specs.Numbered.{are_numbered}
use Rattle.act_tree.specs.Provisions.{Provision}
use Rattle.act_tree.specs.Seen.{tree_view, has_node, below_at}
use Rattle.act_tree.specs.Slots.{at, number, size}
use Rattle.act_tree.specs.WaysDown.{goes_on_by, has_way}
use Rattle.act_tree.specs.Wids.{is_among}
use Rattle.act_tree.proofs.FoundNodes.{nums_kept}
use Rattle.act_tree.proofs.Frames.{or_left, or_right, none_right}
use Rattle.act_tree.proofs.LatestNumbers.{IsUpTo, has_it, latest_past}
use Rattle.act_tree.proofs.LevelsDiffer.{top_of, same_levels, either, good_with, some_with, top_with, up_is, Placed, placed_among}
use Rattle.act_tree.proofs.SiblingNodes.{IsChild, listed_child}
use Rattle.act_tree.proofs.SlotsOfNodes.{node_within}
use Rattle.act_tree.proofs.Standing.{one_branch}
use Rattle.act_tree.proofs.TakingAway.{below_of}
use Rattle.act_tree.proofs.Texts.{same_text, equal_text}
use Rattle.act_tree.proofs.TreeNodes.{root_climbs, node_stands}
use Rattle.act_tree.proofs.Ways.{spelled, below_is, has_eid_is}

-- levels go on behind others by a way that goes down among these provisions
record Behind (n : Numbering) (above : List Level) (bs : Branches Provision) (levels : List Level) : Type 0 where
  pub next : Level
  pub more : List Level
  pub split : levels ≡ above ++ next ∷ more
  pub under : top_of above ≡ false
  pub way : has_way n (next ∷ more) bs ≡ true

module _ (n : Numbering) (at : ℕ → Option Laid) (number : List ℕ → Option ℕ) (size : ℕ) (whole : IsWhole at number size) (level : Level) (rest : List Level) where
  -- the levels
  abbrev levels : List Level
  levels = level ∷ rest

  -- what they spell
  abbrev text : List ℕ
  text = eid_text (level ∷ rest)

  -- the provision of a number begins an eId by the first of the levels, and a way goes down from there by the others
  abbrev pub leads : ℕ → Bool
  leads i = begins_by n at size (level_text level.element level.num) i && has_way n rest (branches_below size at (below_in (at i)))

  -- what there is below a number
  below_is_read : (p : Provision) (below : Branches Provision) (u k : ℕ) → Stands at number u k (branch p below) → climbs size at k ≡ true → below ≡ branches_below size at (below_in (at k))
  below_is_read p below u k s climbed = ap below_of (one_branch at number (branch p below) (branch_from size at k) u (above_in (at k)) k s (node_stands at number size whole k climbed))

  -- a provision whose eId is that of the first levels, from which a way goes down by the others: the eId begins with it, or goes on behind those above it
  here : (p : Provision) (below bs : Branches Provision) (u k : ℕ) (above tail : List Level) → IsChild at number size whole u k → Stands at number u k (branch p below) → top_of above ≡ (u == 0)
      → levels ≡ levels_with n above p.own ++ tail → has_way n tail below ≡ true → Behind n above (more_branches (branch p below) bs) levels ⊎ ((i : ℕ) × (leads i ≡ true))
  here p below bs u k above tail child s top split way =
      elim (either n above p.own) [
        | inl it ↦
            let same : level ∷ rest ≡ level_of_own p.own ∷ tail = split ∙ ap (λ ls. ls ++ tail) it.levels in
            let first : level ≡ level_of_own p.own = cc in
            let others : rest ≡ tail = cc in
            let says : (provision_in (at k)).own ≡ p.own = ap (λ o. (provision_in o).own) s.0 in
            let begun : begins n (above_in (at k) == 0) (provision_in (at k)).own ≡ true = ap (λ o. begins n (above_in (at k) == 0) o) says ∙ ap (λ v. begins n (v == 0) p.own) child.above ∙ ap (λ b. begins n b p.own) (sym top) ∙ it.does in
            let named : bytes_eq (level_text level.element level.num) (own_level (provision_in (at k)).own) ≡ true =
            equal_text (level_text level.element level.num) (own_level (provision_in (at k)).own) (ap (λ (l : Level). level_text l.element l.num) first ∙ sym (ap own_level says)) in
            let goes : has_way n rest (branches_below size at (below_in (at k))) ≡ true = ap (λ ls. has_way n ls (branches_below size at (below_in (at k)))) others ∙ ap (has_way n tail) (sym (below_is_read p below u k s child.climbed)) ∙ way in
            inr (k, and_from _ _ (and_from _ _ named (and_from _ _ begun (and_from _ _ (ap not (ne_eqb k 0 child.other)) child.climbed))) goes)
        | inr on ↦ inl (record {
          next = level_of_own p.own;
          more = tail;
          split = split ∙ ap (λ ls. ls ++ tail) on.levels ∙ append_assoc above (level_of_own p.own ∷ []) tail;
          under = on.under;
          way =
              let apart : is_throughout n p.own.element ≡ false = none_right (top_of above) _ on.does in
              or_left _ _ (and_from _ _ (and_from _ _ (ap not apart) (equal_text (own_level p.own) (own_level p.own) refl)) way);
        })
      ]

  -- an eId among those of some nodes, or of what stands beneath them, goes on behind the levels above them, or begins at a number
  found_by : (bs : Branches Provision) (u : ℕ) (ids : List ℕ) (above : List Level) → climbs size at u ≡ true → StandAll at number u ids bs → ((j : ℕ) → list_any (λ i. i == j) ids ≡ true → list_any (λ i. i == j) (below_in (at u)) ≡ true)
      → top_of above ≡ (u == 0) → have_nums above ≡ true → have_nums levels ≡ true → are_numbered bs ≡ true → is_among text (all_eids n (spelled above) (all_owns bs)) ≡ true
      → Behind n above bs levels ⊎ ((i : ℕ) × (leads i ≡ true))
  found_by no_branches u ids above climbed s listed top good kept nums found = absurd cc
  found_by (more_branches b bs) u [] above climbed s listed top good kept nums found = absurd s
  found_by (more_branches (branch p below) bs) u (k ∷ ids) above climbed s listed top good kept nums found =
      let child : IsChild at number size whole u k = listed_child at number size whole u k climbed (listed k (or_left _ _ (eq-eqb k k refl))) in
      let all : List Level = levels_with n above p.own in
      let own : List ℕ = eid_below n (spelled above) p.own.element p.own.num in
      let good_all : have_nums all ≡ true = good_with n above p.own good (and_parts _ _ (and_parts _ _ nums).0).0 in
      elim (or_cases (is_among text (eids n (spelled above) (owns (branch p below)))) (is_among text (all_eids n (spelled above) (all_owns bs))) (sym (list_any-append (bytes_eq text) (eids n (spelled above) (owns (branch p below))) (all_eids n (spelled above) (all_owns bs))) ∙ found)) [
        | inl first ↦ elim (or_cases (bytes_eq text own) (is_among text (all_eids n (Some own) (all_owns below))) first) [
          | inl it ↦
              let same : levels ≡ all = same_levels levels all (same_text text own it ∙ below_is n above p.own) kept good_all (omega arith) (some_with n above p.own) in
              here p below bs u k above [] child s.0 top (same ∙ sym (append-nil all)) refl
          | inr beneath ↦ elim (found_by below k (below_in (at k)) all child.climbed s.0.1.1 (λ j named. named) (top_with n above p.own ∙ sym (ne_eqb k 0 child.other)) good_all kept (and_parts _ _ (and_parts _ _ nums).0).1
              (sym (ap (λ a. is_among text (all_eids n a (all_owns below))) (up_is n above p.own)) ∙ beneath)) [
                | inl it ↦ here p below bs u k above (it.next ∷ it.more) child s.0 top it.split it.way
                | inr told ↦ inr told
              ]
        ]
        | inr later ↦ elim (found_by bs u ids above climbed s.1 (λ j named. listed j (or_right (k == j) _ named)) top good kept (and_parts _ _ nums).1 later) [
          | inl it ↦ inl (record {
            next = it.next;
            more = it.more;
            split = it.split;
            under = it.under;
            way = or_right (goes_on_by n it.next p.own && has_way n it.more below) _ it.way;
          })
          | inr told ↦ inr told
        ]
      ]

-- where a provision of a tree has an eId, it begins at a number
pub eid_begins : (t : Tree) (level : Level) (rest : List Level) → have_nums (level ∷ rest) ≡ true → has_eid (eid_text (level ∷ rest)) (tree_view t) ≡ true
    → (i : ℕ) × (leads t.numbering (at t.arena) (number t.arena) (size t.arena) t.whole level rest i ≡ true)
unfolding tree_view
eid_begins t level rest kept has =
    let body : Branches Provision = branches_below (size t.arena) (at t.arena) (below_in (at t.arena 0)) in
    elim (found_by t.numbering (at t.arena) (number t.arena) (size t.arena) t.whole level rest body 0 (below_in (at t.arena 0)) [] (root_climbs (at t.arena) (number t.arena) (size t.arena) t.whole) t.whole.stands.1.1
    (λ j named. named) refl refl kept (nums_kept t) (sym (has_eid_is t (eid_text (level ∷ rest))) ∙ has)) [
      | inl it ↦ absurd (let never : true ≡ false = it.under in cc)
      | inr told ↦ told
    ]

-- the eId of a provision of a tree is read as levels
pub eid_read : (t : Tree) (e : List ℕ) → has_eid e (tree_view t) ≡ true → (levels : List Level) × (eid_of e ≡ Ok levels)
eid_read t e has =
    let it : Placed (tree_view t).numbering [] _ _ e = placed_among (tree_view t).numbering (tree_view t).body [] e refl (nums_kept t) (sym (has_eid_is t e) ∙ has) in
    (it.levels, ap eid_of it.is ∙ eid_is_read it.levels it.some it.good)

-- the first of some levels, and the others
pub first_and_others : (levels : List Level) (level : Level) → slice_get levels 0 ≡ Some level → levels ≡ level ∷ drop 1 levels
first_and_others [] level is = absurd cc
first_and_others (first ∷ levels) level is = (let one : first ≡ level = cc in ap (λ l. l ∷ levels) one)

module _ (t : Tree) (level : Level) (rest : List Level) where
  -- the provision of a number begins an eId by the first of the levels, and a way goes down from there by the others
  abbrev led : ℕ → Bool
  led i = leads t.numbering (at t.arena) (number t.arena) (size t.arena) t.whole level rest i

  -- how the level is spelled
  abbrev name : List ℕ
  name = level_text level.element level.num

  -- from where a way goes down by the others
  abbrev way : ℕ → Bool
  way i = has_way t.numbering rest (branches_below (size t.arena) (at t.arena) (below_in (at t.arena i)))

  -- it has the level, begins an eId, and a way goes down from it
  led_by : (i : ℕ) → led i ≡ true → (has_it (at t.arena) name i ≡ true) × ((begins_eid t.numbering (at t.arena) (size t.arena) i ≡ true) × (way i ≡ true))
  led_by i is =
      let first : (begins_by t.numbering (at t.arena) (size t.arena) name i ≡ true) × (way i ≡ true) = and_parts (begins_by t.numbering (at t.arena) (size t.arena) name i) (way i) is in
      let second : (has_it (at t.arena) name i ≡ true) × (begins_eid t.numbering (at t.arena) (size t.arena) i ≡ true) =
      and_parts (has_it (at t.arena) name i) (begins_eid t.numbering (at t.arena) (size t.arena) i) first.0 in
      (second.0, (second.1, first.1))

  led_within : (i : ℕ) → led i ≡ true → i < size t.arena
  unfolding has_node
  led_within i is =
      let on : Bool = not (i == 0) && climbs (size t.arena) (at t.arena) i in
      let begun : (begins t.numbering (above_in (at t.arena i) == 0) (provision_in (at t.arena i)).own ≡ true) × (on ≡ true) =
      and_parts (begins t.numbering (above_in (at t.arena i) == 0) (provision_in (at t.arena i)).own) on (led_by i is).1.0 in
      node_within t i (and_parts (not (i == 0)) (climbs (size t.arena) (at t.arena) i) begun.1).1

  -- such a number is no greater than the last of the level
  pub up_to_last : (o : Option ℕ) → o ≡ latest_at (at t.arena) name (size t.arena) → (i : ℕ) → led i ≡ true → IsUpTo o i
  up_to_last o last i is =
      let P : Option ℕ → Type 0 = λ p. IsUpTo p i in
      subst P (sym last) (latest_past (at t.arena) name (size t.arena) i (led_within i is) (led_by i is).0)

  -- nor than the last before another, which is no such number
  pub up_to_next : (id : ℕ) (found : Bool) (o : Option ℕ) → found ≡ (begins_eid (tree_view t).numbering (at t.arena) (size t.arena) id && has_way (tree_view t).numbering rest (below_at t id)) → found ≡ false
      → o ≡ latest_at (at t.arena) name id → ((i : ℕ) → led i ≡ true → i ≤ id) → (i : ℕ) → led i ≡ true → IsUpTo o i
  unfolding tree_view below_at
  up_to_next id found o told none last before i is =
      let P : Option ℕ → Type 0 = λ p. IsUpTo p i in
      elim (cases_eq i id) [
        | inl it ↦ absurd (
            let parts = led_by id (ap led (sym it) ∙ is) in
            let some : found ≡ true = told ∙ and_from (begins_eid t.numbering (at t.arena) (size t.arena) id) (way id) parts.1.0 parts.1.1 in
            cc)
        | inr other ↦ subst P (sym last) (latest_past (at t.arena) name id i (let low : i ≤ id = before i is in omega arith) (led_by i is).0)
      ]

  -- where there is no such number, no provision has the eId
  pub sought_out : (all : List Level) (o : Option ℕ) → all ≡ level ∷ rest → have_nums all ≡ true → o ≡ None → ((i : ℕ) → led i ≡ true → IsUpTo o i) → has_eid (eid_text all) (tree_view t) ≡ false
  sought_out all o are kept none up_to =
      let P : Option ℕ → Type 0 = λ p. (i : ℕ) → led i ≡ true → IsUpTo p i in
      ap (λ ls. has_eid (eid_text ls) (tree_view t)) are ∙ elim (cases_Bool (has_eid (eid_text (level ∷ rest)) (tree_view t))) [
        | inl has ↦ (let it = eid_begins t level rest (sym (ap have_nums are) ∙ kept) has in absurd (subst P none up_to it.0 it.1))
        | inr free ↦ free
      ]

-- a text that is no eId is no provision's
pub unread : (t : Tree) (e : List ℕ) (fault : EidFault) → eid_of e ≡ Err fault → has_eid e (tree_view t) ≡ false
unread t e fault is =
    elim (cases_Bool (has_eid e (tree_view t))) [
      | inl has ↦ absurd (let it = eid_read t e has in let told : eid_of e ≡ Ok it.0 = it.1 in cc)
      | inr none ↦ none
    ]
