-- What a text has for the wId of a node is the flag that the way up from it gives; and where no two provisions have one eId, what is found by that of a node is the node, shown.
use Rattle.std.proofs.Common.{◌≡◌, ◌∙◌, sym, ap, refl, ℕ, zero, suc, ◌<◌, ◌==◌, Bool, true, false, ◌||◌, ◌&&◌, cond, List, [], ◌∷◌, Option, Some, None, is_some, inl, inr, arith}
use Rattle.std.specs.Prelude.{unwrap_or}
use Rattle.std.specs.Str.{bytes_eq}
use Rattle.std.proofs.lemmas.Bool.{cases_Bool, cases_eq, or_cases, and_parts, eq-eqb, ne_eqb}
use Rattle.std.proofs.lemmas.List.Folds.{list_any-append}
use Rattle.eid_paths.specs.declared.numbering.Numbering.{Numbering}
use Rattle.act_tree.specs.declared.tree.Tree.{Tree}
use Rattle.act_tree.specs.Arena.{Laid, provision_in, above_in, below_in, branches_below, branch_from, hangs_on, climbs, Stands, StandAll, IsWhole}
use Rattle.act_tree.specs.Branches.{Branch, Branches, branch, no_branches, more_branches, height, heights}
use Rattle.act_tree.specs.Changes.{any_holds, root_wid}
use Rattle.act_tree.specs.Eids.{eid_below}
use Rattle.act_tree.specs.EidsOfNodes.{eid_up, IsNodeOf}
use Rattle.act_tree.specs.EidsOfWids.{has_eid}
use Rattle.act_tree.specs.Faults.{all_owns, all_eids, eids_of}
use Rattle.act_tree.specs.Provisions.{Own, Provision}
use Rattle.act_tree.specs.Seen.{tree_view, has_node, provision_at, parent_at, branch_at, below_at}
use Rattle.act_tree.specs.Slots.{at, number, size}
use Rattle.act_tree.specs.Wids.{is_among, one_twice}
use Rattle.act_tree.proofs.EidsDiffer.{Lower, LowerAll, node_eid, own_eid, eid_among, node_held, lower_below, lower_first, lower_rest, body_lower, not_root}
use Rattle.act_tree.proofs.Frames.{none_left, none_right, Apart, twice_apart}
use Rattle.act_tree.proofs.GoingUp.{eid_root}
use Rattle.act_tree.proofs.ReplacedNodes as replaced
use Rattle.act_tree.proofs.Standing.{branch_is, stands_below}
use Rattle.act_tree.proofs.Texts.{same_text, equal_text, other_text, bytes_eq_sym}
use Rattle.act_tree.proofs.TreeNodes.{one_climbs, found_wid}
use Rattle.act_tree.proofs.Ways.{eid_up_is, has_eid_is}
use Rattle.law_register.specs.declared.register.known.Known.{Known}
use Rattle.law_register.specs.declared.answer.question.Reading.{Reading}
use Rattle.law_register.specs.Answer.Answers.{shown, shown_as, all_shown, shown_tree, portion_among, or_else}
use Rattle.law_register.specs.Answer.Flags as flags
use Rattle.law_register.specs.Answer.Flags.{flag, flag_below, flag_among, root_flag}
use Rattle.law_register.specs.Answer.Shown.{Shown}
use Rattle.replay_core.proofs.ShowingLaws.{shown_one}

module _ (A : Type 0) (top : A) (step : Provision → A → A) (at : ℕ → Option Laid) where
  -- what the way up from a number gives, in so many steps: of the root this, and else what a step makes of what the number above gives
  abbrev pub up : ℕ → ℕ → A
  up zero i = top
  up (suc s) i = cond (i == 0) top (step (provision_in (at i)) (up s (above_in (at i))))

  up_root : (s i : ℕ) → (i == 0) ≡ true → up s i ≡ top
  up_root zero i root = refl
  up_root (suc s) i root = ap (λ t. cond t top (step (provision_in (at i)) (up s (above_in (at i))))) root

  -- who climbs in so many steps gives the same where there is one more
  up_on : (s i : ℕ) → climbs s at i ≡ true → up s i ≡ up (suc s) i
  up_on zero i climbed = absurd cc
  up_on (suc s) i climbed =
      elim (or_cases (i == 0) (hangs_on i (at i) && climbs s at (above_in (at i))) climbed) [
        | inl root ↦ up_root (suc s) i root ∙ sym (up_root (suc (suc s)) i root)
        | inr on ↦ ap (λ a. cond (i == 0) top (step (provision_in (at i)) a)) (up_on s (above_in (at i)) (and_parts _ _ on).1)
      ]

  up_step : (s i : ℕ) → climbs s at i ≡ true → (i ≡ 0 → ⊥) → up s i ≡ step (provision_in (at i)) (up s (above_in (at i)))
  up_step zero i climbed other = absurd cc
  up_step (suc s) i climbed other =
      let on : (hangs_on i (at i) && climbs s at (above_in (at i))) ≡ true = sym (ap (λ t. t || (hangs_on i (at i) && climbs s at (above_in (at i)))) (ne_eqb i 0 other)) ∙ climbed in
      ap (λ t. cond t top (step (provision_in (at i)) (up s (above_in (at i))))) (ne_eqb i 0 other)
      ∙ ap (step (provision_in (at i))) (up_on s (above_in (at i)) (and_parts _ _ on).1)

module _ (known : Known) (reading : Reading) (day : ℕ) where
  -- the flag of a number, as the way up from it gives it
  abbrev flag_up : (ℕ → Option Laid) → ℕ → ℕ → Bool
  flag_up at s i = up Bool (root_flag known reading day) (λ p f. flag_below known reading day f p.wid) at s i

  flag_step : (at : ℕ → Option Laid) (s i : ℕ) → climbs s at i ≡ true → (i ≡ 0 → ⊥) → flag_up at s i ≡ flag_below known reading day (flag_up at s (above_in (at i))) (provision_in (at i)).wid
  flag_step at s i climbed other = up_step Bool (root_flag known reading day) (λ p f. flag_below known reading day f p.wid) at s i climbed other

  -- where no provision has a wId, no flag is found by it
  no_flag : (f : Bool) (w : List ℕ) (bs : Branches Provision) → any_holds w bs ≡ false → flag_among known reading day f w bs ≡ None
  no_flag f w no_branches none = refl
  no_flag f w (more_branches (branch p below) bs) none =
      let bears : Bool = flag_below known reading day f p.wid in
      let rest : Option Bool = flag_among known reading day f w bs in
      let here : (bytes_eq p.wid w || any_holds w below) ≡ false = none_left (bytes_eq p.wid w || any_holds w below) _ none in
      ap (λ t. flags.or_else (cond t (Some (flag_below known reading day f w)) (flag_among known reading day bears w below)) rest) (none_left (bytes_eq p.wid w) _ here)
      ∙ ap (λ o. flags.or_else o rest) (no_flag bears w below (none_right (bytes_eq p.wid w) _ here))
      ∙ no_flag f w bs (none_right (bytes_eq p.wid w || any_holds w below) _ none)

  -- where no provision has an eId, nothing is found by it
  no_portion : (n : Numbering) (f : Bool) (above : Option (List ℕ)) (e : List ℕ) (bs : Branches Provision) → is_among e (all_eids n above (all_owns bs)) ≡ false
      → portion_among e (all_shown known reading day n f above bs) ≡ None
  no_portion n f above e no_branches none = refl
  no_portion n f above e (more_branches (branch p below) bs) none =
      let own : List ℕ = eid_below n above p.own.element p.own.num in
      let bears : Bool = flag_below known reading day f p.wid in
      let under : Branches Shown = all_shown known reading day n bears (Some own) below in
      let rest : Option (Branch Shown) = portion_among e (all_shown known reading day n f above bs) in
      let mine : List (List ℕ) = own ∷ all_eids n (Some own) (all_owns below) in
      let neither : (is_among e mine || is_among e (all_eids n above (all_owns bs))) ≡ false = sym (list_any-append (bytes_eq e) mine (all_eids n above (all_owns bs))) ∙ none in
      let here : (bytes_eq e own || is_among e (all_eids n (Some own) (all_owns below))) ≡ false = none_left (is_among e mine) _ neither in
      ap (λ t. or_else (cond t (Some (branch (shown_as bears own p) under)) (portion_among e under)) rest) (bytes_eq_sym own e ∙ none_left (bytes_eq e own) _ here)
      ∙ ap (λ o. or_else o rest) (no_portion n bears (Some own) e below (none_right (bytes_eq e own) _ here))
      ∙ no_portion n f above e bs (none_right (is_among e mine) _ neither)

module _ (known : Known) (reading : Reading) (day : ℕ) (at : ℕ → Option Laid) (number : List ℕ → Option ℕ) (size : ℕ) (whole : IsWhole at number size) (n : Numbering) where
  -- the flag of a number
  abbrev now : ℕ → Bool
  now i = flag_up known reading day at size i

  -- the eId of a number
  abbrev eid_now : ℕ → Option (List ℕ)
  eid_now i = eid_up size n at i

  -- the branch of a number, shown
  abbrev seen : ℕ → Branch Shown
  seen i = shown known reading day n (now (above_in (at i))) (eid_now (above_in (at i))) (branch_from size at i)

  seen_there : (b : Branch Provision) (u k : ℕ) → Stands at number u k b → Lower at number size whole n b → shown known reading day n (now u) (eid_now u) b ≡ seen k
  seen_there b u k s l =
      let low : heights (branches_below size at (below_in (at 0))) < size = whole.low in
      let lower : height b < height (branch_from size at 0) = l.low in
      ap (λ j. shown known reading day n (now j) (eid_now j) b) (sym (stands_below at number b u k s))
      ∙ ap (shown known reading day n (now (above_in (at k))) (eid_now (above_in (at k)))) (sym (branch_is at number b size u k s (omega arith)))

  -- by the wId of a number its flag is found; and by its eId, where the eIds differ, its branch is
  way_down : (bs : Branches Provision) (u i : ℕ) (w : List ℕ) (ids : List ℕ) → StandAll at number u ids bs → LowerAll at number size whole n bs → any_holds w bs ≡ true → number w ≡ Some i
      → (flag_among known reading day (now u) w bs ≡ Some (now i))
      × ((e : List ℕ) → eid_now i ≡ Some e → one_twice (all_eids n (eid_now u) (all_owns bs)) ≡ false → portion_among e (all_shown known reading day n (now u) (eid_now u) bs) ≡ Some (seen i))
  way_down no_branches u i w ids s l held leads = absurd cc
  way_down (more_branches b bs) u i w [] s l held leads = absurd s
  way_down (more_branches (branch p below) bs) u i w (k ∷ ids) s l held leads =
      let first : Lower at number size whole n (branch p below) = lower_first at number size whole n (branch p below) bs l in
      let later : LowerAll at number size whole n bs = lower_rest at number size whole n (branch p below) bs l in
      let lower : LowerAll at number size whole n below = lower_below at number size whole n p below first in
      let own : List ℕ = eid_below n (eid_now u) p.own.element p.own.num in
      let bears : Bool = flag_below known reading day (now u) p.wid in
      let under : Branches Shown = all_shown known reading day n bears (Some own) below in
      let eids_below : List (List ℕ) = all_eids n (Some own) (all_owns below) in
      let eids_behind : List (List ℕ) = all_eids n (eid_now u) (all_owns bs) in
      let mine : eid_now k ≡ Some own = own_eid at number size whole n p below u k s.0 first in
      let flagged : now k ≡ bears =
      flag_step known reading day at size k (one_climbs at number size whole (branch p below) u k s.0 first.inside) (not_root at number size whole n (branch p below) u k s.0 first)
      ∙ ap (λ o. flag_below known reading day (now (above_in o)) (provision_in o).wid) s.0.0 in
      let flag_behind : Option Bool = flag_among known reading day (now u) w bs in
      let by_wid : Bool → Option Bool = λ t. flags.or_else (cond t (Some (flag_below known reading day (now u) w)) (flag_among known reading day bears w below)) flag_behind in
      let behind : List ℕ → Option (Branch Shown) = λ e. portion_among e (all_shown known reading day n (now u) (eid_now u) bs) in
      let by_eid : List ℕ → Bool → Option (Branch Shown) = λ e t. or_else (cond t (Some (branch (shown_as bears own p) under)) (portion_among e under)) (behind e) in
      elim (cases_Bool (bytes_eq p.wid w)) [
        | inl it ↦
            let one : Some k ≡ Some i = sym s.0.1.0 ∙ ap number (same_text p.wid w it) ∙ leads in
            let same : k ≡ i = cc in (
              ap by_wid it ∙ ap (λ v. Some (flag_below known reading day (now u) v)) (sym (same_text p.wid w it)) ∙ ap (λ f. Some f) (sym flagged ∙ ap now same),
              λ e is differ.
                  let two : Some own ≡ Some e = sym mine ∙ ap eid_now same ∙ is in
                  let equal : own ≡ e = cc in
                  ap (by_eid e) (equal_text own e equal) ∙ ap (λ c. Some c) (seen_there (branch p below) u k s.0 first ∙ ap seen same),
            )
        | inr other ↦ elim (cases_Bool (any_holds w below)) [
          | inl beneath ↦
              let down = way_down below k i w (below_in (at k)) s.0.1.1 lower beneath leads in (
                ap by_wid other
                    ∙ ap (λ f. flags.or_else (flag_among known reading day f w below) flag_behind) (sym flagged)
                    ∙ ap (λ o. flags.or_else o flag_behind) down.0,
                λ e is differ.
                    let once : one_twice (own ∷ eids_below) ≡ false = (twice_apart (own ∷ eids_below) eids_behind differ).first in
                    let found : is_among e eids_below ≡ true = ap (λ a. is_among e (all_eids n a (all_owns below))) (sym mine) ∙ eid_among at number size whole n below k i w e (below_in (at k)) s.0.1.1 lower beneath leads is in
                    let apart : bytes_eq own e ≡ false = other_text own e (λ equal.
                    let never : is_among e eids_below ≡ false = ap (λ t. is_among t eids_below) (sym equal) ∙ none_left (is_among own eids_below) _ once in
                    cc) in
                    ap (by_eid e) apart
                    ∙ ap (λ f. or_else (portion_among e (all_shown known reading day n f (Some own) below)) (behind e)) (sym flagged)
                    ∙ ap (λ a. or_else (portion_among e (all_shown known reading day n (now k) a below)) (behind e)) (sym mine)
                    ∙ ap (λ o. or_else o (behind e)) (down.1 e is (ap (λ a. one_twice (all_eids n a (all_owns below))) mine ∙ none_right (is_among own eids_below) _ once)),
              )
          | inr none ↦
              let more : any_holds w bs ≡ true = sym (ap (λ t. (t || any_holds w below) || any_holds w bs) other ∙ ap (λ t. t || any_holds w bs) none) ∙ held in
              let on = way_down bs u i w ids s.1 later more leads in (
                ap by_wid other ∙ ap (λ o. flags.or_else o flag_behind) (no_flag known reading day bears w below none) ∙ on.0,
                λ e is differ.
                    let apart : Apart (own ∷ eids_below) eids_behind = twice_apart (own ∷ eids_below) eids_behind differ in
                    let found : is_among e eids_behind ≡ true = eid_among at number size whole n bs u i w e ids s.1 later more leads is in
                    let neither : (bytes_eq e own || is_among e eids_below) ≡ false = elim (cases_Bool (is_among e (own ∷ eids_below))) [
                      | inl twice ↦ absurd (let never : is_among e eids_behind ≡ false = apart.between e twice in cc)
                      | inr once ↦ once
                    ] in
                    ap (by_eid e) (bytes_eq_sym own e ∙ none_left (bytes_eq e own) _ neither)
                    ∙ ap (λ o. or_else o (behind e)) (no_portion known reading day n bears (Some own) e below (none_right (bytes_eq e own) _ neither))
                    ∙ on.1 e is apart.second,
              )
        ]
      ]

module _ (known : Known) (reading : Reading) (day : ℕ) (t : Tree) where
  -- the flag of a node, as the way up from it gives it
  abbrev flag_now : ℕ → Bool
  flag_now i = flag_up known reading day (at t.arena) (size t.arena) i

  top_now : (i : ℕ) → (i == 0) ≡ true → flag_now i ≡ root_flag known reading day
  top_now i root = up_root Bool (root_flag known reading day) (λ p f. flag_below known reading day f p.wid) (at t.arena) (size t.arena) i root

  -- the flag of the root
  pub root_flagged : (i : ℕ) → i ≡ 0 → flag known reading day (tree_view t).body (provision_at t i).wid ≡ Some (root_flag known reading day)
  unfolding provision_at
  root_flagged i root =
      let w : List ℕ = (provision_in (at t.arena i)).wid in
      ap (λ b. cond b (Some (root_flag known reading day)) (flag_among known reading day (root_flag known reading day) w (tree_view t).body))
      (equal_text w root_wid (ap (λ j. (provision_in (at t.arena j)).wid) root ∙ ap (λ p. p.wid) t.whole.root))

  -- the flag that the text has for the wId of a node is that of the node
  flag_is : (i : ℕ) → has_node t i ≡ true → flag known reading day (tree_view t).body (provision_at t i).wid ≡ Some (flag_now i)
  unfolding has_node tree_view provision_at
  flag_is i node =
      let w : List ℕ = (provision_in (at t.arena i)).wid in
      let top : Bool = root_flag known reading day in
      let body : Branches Provision = branches_below (size t.arena) (at t.arena) (below_in (at t.arena 0)) in
      elim (cases_eq i 0) [
        | inl root ↦ root_flagged i root ∙ ap (λ f. Some f) (sym (top_now i (eq-eqb i 0 root)))
        | inr other ↦
            let held = node_held (at t.arena) (number t.arena) (size t.arena) t.whole t.numbering i node other in
            ap (λ b. cond b (Some top) (flag_among known reading day top w body)) (replaced.not_root t i node other)
            ∙ ap (λ v. flag_among known reading day top v body) (found_wid (at t.arena) (number t.arena) (size t.arena) t.whole held.0 i held.1.1)
            ∙ ap (λ f. flag_among known reading day f held.0 body) (sym (top_now 0 refl))
            ∙ (way_down known reading day (at t.arena) (number t.arena) (size t.arena) t.whole t.numbering body 0 i held.0 (below_in (at t.arena 0)) t.whole.stands.1.1
            (body_lower (at t.arena) (number t.arena) (size t.arena) t.whole t.numbering) held.1.0 held.1.1).0
      ]

  module _ (i : ℕ) (wid : List ℕ) (own : Option Bool) (node : has_node t i ≡ true) (other : i ≡ 0 → ⊥) (named : wid ≡ (provision_at t i).wid)
      (is : (above : Bool) → flag_below known reading day above wid ≡ unwrap_or own above) where
    -- a node that is not the root has its own flag, or else that of the number above it
    pub flag_of_own : (is_own : Option Bool) → own ≡ is_own → flag known reading day (tree_view t).body (provision_at t i).wid ≡ Some (unwrap_or is_own (flag_now (above_in (at t.arena i))))
    unfolding has_node provision_at
    flag_of_own is_own told =
        let over : Bool = flag_now (above_in (at t.arena i)) in
        flag_is i node
        ∙ ap (λ f. Some f) (flag_step known reading day (at t.arena) (size t.arena) i node other ∙ ap (flag_below known reading day over) (sym named) ∙ is over ∙ ap (λ o. unwrap_or o over) told)

    -- where it has none of its own, that of the node above it is its flag
    pub flag_from_above : own ≡ None → (u : ℕ) (found : Bool) → u ≡ parent_at t i → has_node t u ≡ true
        → flag known reading day (tree_view t).body (provision_at t u).wid ≡ Some found → flag known reading day (tree_view t).body (provision_at t i).wid ≡ Some found
    unfolding parent_at
    flag_from_above none u found up over there =
        flag_of_own None none ∙ ap (λ j. Some (flag_now j)) (sym up) ∙ sym (flag_is u over) ∙ there

  -- by an eId that is not in a tree nothing is found
  pub none_found : (f : Bool) (e : List ℕ) (o : Option ℕ) → is_some o ≡ has_eid e (tree_view t) → o ≡ None → portion_among e (shown_tree known reading day f (tree_view t)) ≡ None
  none_found f e o told none = no_portion known reading day (tree_view t).numbering f None e (tree_view t).body (sym (has_eid_is t e) ∙ sym told ∙ ap is_some none)

  -- by that of a node the node is found, shown with its flag and its eId
  pub node_found : (f bears : Bool) (i : ℕ) (e own : List ℕ) (node : Branch Shown) (below : Branches Shown) (kids : Branches Provision)
      → one_twice (eids_of (tree_view t)) ≡ false → f ≡ root_flag known reading day → IsNodeOf t e i → flag known reading day (tree_view t).body (provision_at t i).wid ≡ Some bears
      → node ≡ branch (shown_as bears own (provision_at t i)) below → own ≡ e → below ≡ all_shown known reading day (tree_view t).numbering bears (Some e) kids → kids ≡ below_at t i
      → Some node ≡ portion_among e (shown_tree known reading day f (tree_view t))
  unfolding has_node tree_view provision_at branch_at
  node_found f bears i e own node below kids once top it flagged made named beneath under =
      let n : Numbering = t.numbering in
      let u : ℕ = above_in (at t.arena i) in
      let o : Own = (provision_in (at t.arena i)).own in
      let above : Option (List ℕ) = eid_up (size t.arena) n (at t.arena) u in
      let body : Branches Provision = branches_below (size t.arena) (at t.arena) (below_in (at t.arena 0)) in
      let none : eid_up (size t.arena) n (at t.arena) 0 ≡ None = eid_root (size t.arena) n (at t.arena) 0 refl in
      let is : eid_up (size t.arena) n (at t.arena) i ≡ Some e = sym (eid_up_is t i it.0) ∙ it.1.1 in
      let first : Some e ≡ Some (eid_below n above o.element o.num) = sym is ∙ node_eid (at t.arena) (number t.arena) (size t.arena) t.whole n i it.0 it.1.0 in
      let eid_is : e ≡ eid_below n above o.element o.num = cc in
      let second : Some bears ≡ Some (flag_now i) = sym flagged ∙ flag_is i it.0 in
      let bears_is : bears ≡ flag_now i = cc in
      let held = node_held (at t.arena) (number t.arena) (size t.arena) t.whole n i it.0 it.1.0 in
      ap (λ c. Some c) (shown_one known reading day t n (flag_now u) bears above i own e node below kids made (named ∙ eid_is) (bears_is ∙ flag_step known reading day (at t.arena) (size t.arena) i it.0 it.1.0) (sym named) beneath under)
      ∙ sym ((way_down known reading day (at t.arena) (number t.arena) (size t.arena) t.whole n body 0 i held.0 (below_in (at t.arena 0)) t.whole.stands.1.1
      (body_lower (at t.arena) (number t.arena) (size t.arena) t.whole n) held.1.0 held.1.1).1 e is (ap (λ a. one_twice (all_eids n a (all_owns body))) none ∙ once))
      ∙ ap (λ a. portion_among e (all_shown known reading day n (flag_now 0) a body)) none
      ∙ ap (λ b. portion_among e (all_shown known reading day n b None body)) (top_now 0 refl ∙ sym top)
