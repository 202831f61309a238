-- The eId on the way down to a provision is the eId on the way up from it.
use Rattle.std.proofs.Common.{◌≡◌, ◌∙◌, sym, ap, refl, ℕ, ◌==◌, Bool, true, false, ◌||◌, cond, List, [], ◌∷◌, ◌++◌, map, Option, Some, None, option_map, inl, inr, append_assoc}
use Rattle.std.specs.List.{list_any}
use Rattle.std.specs.Str.{bytes_eq}
use Rattle.std.proofs.lemmas.Bool.{cases_Bool, cond_both, eqb-true, eqb-false}
use Rattle.eid_paths.specs.declared.level.Level.{Level}
use Rattle.eid_paths.specs.declared.numbering.Numbering.{Numbering}
use Rattle.eid_paths.specs.Eids.{eid_text}
use Rattle.eid_paths.specs.Elements.{is_throughout}
use Rattle.eid_paths.specs.Levels.{level_text}
use Rattle.act_tree.specs.declared.tree.Tree.{Tree}
use Rattle.act_tree.specs.Arena.{Laid, provision_in, below_in, branches_below, climbs, Stands, StandAll, IsWhole}
use Rattle.act_tree.specs.Branches.{Branch, Branches, branch, no_branches, more_branches}
use Rattle.act_tree.specs.Changes.{holds, any_holds, root_wid}
use Rattle.act_tree.specs.Eids.{eid_below}
use Rattle.act_tree.specs.EidsOfNodes.{eid_up}
use Rattle.act_tree.specs.EidsOfWids.{or_way, way_in, way_to, level_of_own, levels_with, levels_along, eid_of_wid, is_text, has_eid}
use Rattle.act_tree.specs.Faults.{owns, all_owns, eids, all_eids}
use Rattle.act_tree.specs.Provisions.{Own, Provision}
use Rattle.act_tree.specs.Seen.{tree_view, has_node, provision_at}
use Rattle.act_tree.specs.Slots.{at, number, size}
use Rattle.act_tree.specs.Wids.{wids, all_wids, is_among}
use Rattle.act_tree.proofs.EidsDiffer.{Lower, LowerAll, own_eid, lower_below, lower_first, lower_rest, body_lower, node_held}
use Rattle.act_tree.proofs.Finding.{root_leads}
use Rattle.act_tree.proofs.Frames.{none_left, none_right}
use Rattle.act_tree.proofs.GoingUp.{eid_root}
use Rattle.act_tree.proofs.Texts.{same_text}
use Rattle.act_tree.proofs.TreeNodes.{one_climbs, found_wid}

-- what levels spell, if there are some
abbrev pub spelled : List Level → Option (List ℕ)
spelled [] = None
spelled (level ∷ levels) = Some (eid_text (level ∷ levels))

-- one level more stands behind `__`
pub text_behind : (level : Level) (levels : List Level) (last : Level) → eid_text ((level ∷ levels) ++ last ∷ []) ≡ eid_text (level ∷ levels) ++ 95 ∷ 95 ∷ level_text last.element last.num
text_behind level [] last = refl
text_behind level (next ∷ levels) last =
    ap (λ t. level_text level.element level.num ++ 95 ∷ 95 ∷ t) (text_behind next levels last)
    ∙ sym (append_assoc (level_text level.element level.num) (95 ∷ 95 ∷ eid_text (next ∷ levels)) (95 ∷ 95 ∷ level_text last.element last.num))

below_by : (level : Level) (levels : List Level) (own : Own) (t : Bool)
    → cond t (level_text own.element own.num) (eid_text (level ∷ levels) ++ 95 ∷ 95 ∷ level_text own.element own.num) ≡ eid_text (cond t (level_of_own own ∷ []) ((level ∷ levels) ++ level_of_own own ∷ []))
below_by level levels own true = refl
below_by level levels own false = sym (text_behind level levels (level_of_own own))

-- the eId below that of some levels is spelled by these and one more, or by that one alone
pub below_is : (n : Numbering) (above : List Level) (own : Own) → eid_below n (spelled above) own.element own.num ≡ eid_text (levels_with n above own)
below_is n [] own =
    cond_both (is_throughout n own.element) (level_of_own own ∷ []) (level_of_own own ∷ []) (λ levels. level_text own.element own.num ≡ eid_text levels) (λ _. refl) (λ _. refl)
below_is n (level ∷ levels) own = below_by level levels own (is_throughout n own.element)

spelled_by : (t : Bool) (last : Level) (above : List Level) → spelled (cond t (last ∷ []) (above ++ last ∷ [])) ≡ Some (eid_text (cond t (last ∷ []) (above ++ last ∷ [])))
spelled_by true last above = refl
spelled_by false last [] = refl
spelled_by false last (level ∷ levels) = refl

-- with a level more there are some
pub spelled_with : (n : Numbering) (above : List Level) (own : Own) → spelled (levels_with n above own) ≡ Some (eid_text (levels_with n above own))
spelled_with n above own = spelled_by (is_throughout n own.element) (level_of_own own) above

mutual
  no_way_in : (w : List ℕ) (b : Branch Provision) → holds w b ≡ false → way_in w b ≡ None
  no_way_in w (branch p below) none =
      ap (λ t. cond t (Some (p.own ∷ [])) (option_map (λ way. p.own ∷ way) (way_to w below))) (none_left (bytes_eq p.wid w) _ none)
      ∙ ap (option_map (λ way. p.own ∷ way)) (no_way w below (none_right (bytes_eq p.wid w) _ none))

  -- where no provision has a wId, no way leads to it
  pub no_way : (w : List ℕ) (bs : Branches Provision) → any_holds w bs ≡ false → way_to w bs ≡ None
  no_way w no_branches none = refl
  no_way w (more_branches b bs) none =
      ap (λ o. or_way o (way_to w bs)) (no_way_in w b (none_left (holds w b) _ none)) ∙ no_way w bs (none_right (holds w b) _ none)

list_any-map : {A B : Type 0} → (test : B → Bool) (f : A → B) (xs : List A) → list_any (λ x. test (f x)) xs ≡ list_any test (map f xs)
list_any-map test f [] = refl
list_any-map test f (x ∷ xs) = ap (λ t. test (f x) || t) (list_any-map test f xs)

map_append : {A B : Type 0} → (f : A → B) (xs ys : List A) → map f (xs ++ ys) ≡ map f xs ++ map f ys
map_append f [] ys = refl
map_append f (x ∷ xs) ys = ap (λ t. f x ∷ t) (map_append f xs ys)

module _ (at : ℕ → Option Laid) (number : List ℕ → Option ℕ) (size : ℕ) (whole : IsWhole at number size) (n : Numbering) where
  -- the eId of a number
  abbrev now : ℕ → Option (List ℕ)
  now i = eid_up size n at i

  -- the provisions of the text
  abbrev body : Branches Provision
  body = branches_below size at (below_in (at 0))

  -- the eId of a wId
  abbrev told : List ℕ → Option (List ℕ)
  told w = option_map (λ way. eid_text (levels_along n [] way)) (way_to w body)

  mutual
    way_here : (b : Branch Provision) (u k i : ℕ) (w : List ℕ) (above : List Level) → Stands at number u k b → Lower at number size whole n b → holds w b ≡ true → number w ≡ Some i → now u ≡ spelled above
        → (way : List Own) × ((way_in w b ≡ Some way) × (now i ≡ Some (eid_text (levels_along n above way))))
    way_here (branch p below) u k i w above s l held leads over =
        let mine : now k ≡ Some (eid_text (levels_with n above p.own)) =
        own_eid at number size whole n p below u k s l ∙ ap (λ a. Some (eid_below n a p.own.element p.own.num)) over ∙ ap (λ t. Some t) (below_is n above p.own) in
        elim (cases_Bool (bytes_eq p.wid w)) [
          | inl it ↦
              let one : Some k ≡ Some i = sym s.1.0 ∙ ap number (same_text p.wid w it) ∙ leads in
              let same : k ≡ i = cc in
              (p.own ∷ [], (ap (λ t. cond t (Some (p.own ∷ [])) (option_map (λ way. p.own ∷ way) (way_to w below))) it, ap now (sym same) ∙ mine))
          | inr other ↦
              let beneath : any_holds w below ≡ true = sym (ap (λ t. t || any_holds w below) other) ∙ held in
              let rest = way_among below k i w (levels_with n above p.own) (below_in (at k)) s.1.1 (lower_below at number size whole n p below l) beneath leads (mine ∙ sym (spelled_with n above p.own)) in (
                p.own ∷ rest.0,
                (ap (λ t. cond t (Some (p.own ∷ [])) (option_map (λ way. p.own ∷ way) (way_to w below))) other ∙ ap (option_map (λ way. p.own ∷ way)) rest.1.0, rest.1.1),
              )
        ]

    way_among : (bs : Branches Provision) (u i : ℕ) (w : List ℕ) (above : List Level) (ids : List ℕ) → StandAll at number u ids bs → LowerAll at number size whole n bs → any_holds w bs ≡ true → number w ≡ Some i → now u ≡ spelled above
        → (way : List Own) × ((way_to w bs ≡ Some way) × (now i ≡ Some (eid_text (levels_along n above way))))
    way_among no_branches u i w above ids s l held leads over = absurd cc
    way_among (more_branches b bs) u i w above [] s l held leads over = absurd s
    way_among (more_branches b bs) u i w above (k ∷ ids) s l held leads over =
        elim (cases_Bool (holds w b)) [
          | inl here ↦
              let first = way_here b u k i w above s.0 (lower_first at number size whole n b bs l) here leads over in
              (first.0, (ap (λ o. or_way o (way_to w bs)) first.1.0, first.1.1))
          | inr not_here ↦
              let later : any_holds w bs ≡ true = sym (ap (λ t. t || any_holds w bs) not_here) ∙ held in
              let rest = way_among bs u i w above ids s.1 (lower_rest at number size whole n b bs l) later leads over in
              (rest.0, (ap (λ o. or_way o (way_to w bs)) (no_way_in w b not_here) ∙ rest.1.0, rest.1.1))
        ]

  told_held : (w : List ℕ) (i : ℕ) → any_holds w body ≡ true → number w ≡ Some i → told w ≡ now i
  told_held w i held leads =
      let it = way_among body 0 i w [] (below_in (at 0)) whole.stands.1.1 (body_lower at number size whole n) held leads (eid_root size n at 0 refl) in
      ap (option_map (λ way. eid_text (levels_along n [] way))) it.1.0 ∙ sym it.1.1

  told_root : told root_wid ≡ None
  told_root =
      elim (cases_Bool (any_holds root_wid body)) [
        | inl held ↦ told_held root_wid 0 held (root_leads at number size whole root_wid refl) ∙ eid_root size n at 0 refl
        | inr none ↦ ap (option_map (λ way. eid_text (levels_along n [] way))) (no_way root_wid body none)
      ]

  -- the eId of a node's wId is that of its number
  pub way_is_up : (i : ℕ) → climbs size at i ≡ true → told (provision_in (at i)).wid ≡ now i
  way_is_up i climbed =
      elim (cases_Bool (i == 0)) [
        | inl root ↦
            ap (λ k. told (provision_in (at k)).wid) (eqb-true i 0 root) ∙ ap (λ p. told p.wid) whole.root ∙ told_root ∙ sym (eid_root size n at i (eqb-true i 0 root))
        | inr other ↦
            let held = node_held at number size whole n i climbed (eqb-false i 0 other) in
            ap told (found_wid at number size whole held.0 i held.1.1) ∙ told_held held.0 i held.1.0 held.1.1
      ]

  mutual
    one_told : (b : Branch Provision) (u k : ℕ) → Stands at number u k b → Lower at number size whole n b → map told (wids b) ≡ map (λ e. Some e) (eids n (now u) (owns b))
    one_told (branch p below) u k s l =
        let own : List ℕ = eid_below n (now u) p.own.element p.own.num in
        let mine : now k ≡ Some own = own_eid at number size whole n p below u k s l in
        let first : told p.wid ≡ Some own =
        sym (ap (λ o. told (provision_in o).wid) s.0) ∙ way_is_up k (one_climbs at number size whole (branch p below) u k s l.inside) ∙ mine in
        ap (λ o. o ∷ map told (all_wids below)) first
        ∙ ap (λ os. Some own ∷ os) (all_told below k (below_in (at k)) s.1.1 (lower_below at number size whole n p below l))
        ∙ ap (λ a. Some own ∷ map (λ e. Some e) (all_eids n a (all_owns below))) mine

    -- the eIds of wIds, in order, are those of the provisions
    pub all_told : (bs : Branches Provision) (u : ℕ) (ids : List ℕ) → StandAll at number u ids bs → LowerAll at number size whole n bs → map told (all_wids bs) ≡ map (λ e. Some e) (all_eids n (now u) (all_owns bs))
    all_told no_branches u ids s l = refl
    all_told (more_branches b bs) u [] s l = absurd s
    all_told (more_branches b bs) u (k ∷ ids) s l =
        map_append told (wids b) (all_wids bs)
        ∙ ap (λ os. os ++ map told (all_wids bs)) (one_told b u k s.0 (lower_first at number size whole n b bs l))
        ∙ ap (λ os. map (λ e. Some e) (eids n (now u) (owns b)) ++ os) (all_told bs u ids s.1 (lower_rest at number size whole n b bs l))
        ∙ sym (map_append (λ e. Some e) (eids n (now u) (owns b)) (all_eids n (now u) (all_owns bs)))

-- the eId of a node's wId, as the way up gives it
pub eid_up_is : (t : Tree) (i : ℕ) → has_node t i ≡ true → eid_of_wid (tree_view t) (provision_at t i).wid ≡ eid_up (size t.arena) t.numbering (at t.arena) i
unfolding has_node tree_view provision_at eid_of_wid
eid_up_is t i node = way_is_up (at t.arena) (number t.arena) (size t.arena) t.whole t.numbering i node

-- the eIds of the wIds of a tree are those of its provisions
pub eids_are_told : (t : Tree) → map (eid_of_wid (tree_view t)) (all_wids (tree_view t).body) ≡ map (λ e. Some e) (all_eids (tree_view t).numbering None (all_owns (tree_view t).body))
unfolding tree_view eid_of_wid
eids_are_told t =
    all_told (at t.arena) (number t.arena) (size t.arena) t.whole t.numbering (body (at t.arena) (number t.arena) (size t.arena) t.whole t.numbering) 0 (below_in (at t.arena 0)) t.whole.stands.1.1
    (body_lower (at t.arena) (number t.arena) (size t.arena) t.whole t.numbering)
    ∙ ap (λ a. map (λ e. Some e) (all_eids t.numbering a (all_owns (branches_below (size t.arena) (at t.arena) (below_in (at t.arena 0)))))) (eid_root (size t.arena) t.numbering (at t.arena) 0 refl)

among_some : (e : List ℕ) (es : List (List ℕ)) → list_any (is_text e) (map (λ x. Some x) es) ≡ is_among e es
among_some e [] = refl
among_some e (x ∷ es) = ap (λ t. bytes_eq e x || t) (among_some e es)

-- a provision of a tree has an eId exactly if it is among those of the provisions
pub has_eid_is : (t : Tree) (e : List ℕ) → has_eid e (tree_view t) ≡ is_among e (all_eids (tree_view t).numbering None (all_owns (tree_view t).body))
unfolding has_eid
has_eid_is t e =
    list_any-map (is_text e) (eid_of_wid (tree_view t)) (all_wids (tree_view t).body)
    ∙ ap (list_any (is_text e)) (eids_are_told t)
    ∙ among_some e (all_eids (tree_view t).numbering None (all_owns (tree_view t).body))
