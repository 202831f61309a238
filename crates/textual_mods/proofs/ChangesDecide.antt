-- Going by the nodes that are named decides whether a num is taken.
use Rattle.std.proofs.Common.{◌≡◌, ◌∙◌, sym, ap, refl, subst, ℕ, zero, suc, ◌≤◌, ◌==◌, Bool, true, false, not, cond, ◌&&◌, ◌||◌, List, [], ◌∷◌, map, Some, None, inl, inr, arith}
use Rattle.std.specs.Prelude.{slice_get}
use Rattle.std.specs.List.{All, list_any}
use Rattle.std.specs.Str.{bytes_eq}
use Rattle.std.proofs.lemmas.Bool.{cases_Bool, cases_eq, or_cases, and_parts, and_from, not-true, eqb-true, eq-eqb, ne_eqb}
use Rattle.eid_paths.specs.declared.numbering.Numbering.{Numbering}
use Rattle.eid_paths.specs.Elements.{is_throughout}
use Rattle.eid_paths.specs.Levels.{level_text}
use Rattle.act_tree.specs.declared.tree.Tree.{Tree}
use Rattle.act_tree.specs.Branches.{Branches, branch, no_branches, more_branches, branches_of}
use Rattle.act_tree.specs.Changes.{found, num_given, root_wid}
use Rattle.act_tree.specs.EidLevels.{begins, own_level, all_beginning, all_going_on}
use Rattle.act_tree.specs.Faults.{all_owns, first_cause}
use Rattle.act_tree.specs.Provisions.{Provision}
use Rattle.act_tree.specs.Seen.{tree_view, has_node, provision_at, children_at, branch_at, below_at, nums_by_wid}
use Rattle.act_tree.specs.Wids.{is_among, one_twice}
use Rattle.act_tree.proofs.Frames.{or_left, or_right}
use Rattle.act_tree.proofs.Renumbering.{none_renumbered}
use Rattle.act_tree.proofs.ReplacedNodes.{not_root}
use Rattle.act_tree.proofs.Texts.{same_text, equal_text, other_text, bytes_eq_sym}
use Rattle.act_tree.proofs.Walking.{branch_is, body_is}
use Rattle.textual_mods.specs.NumChanges.{Placed, placed, all_placed, placed_in, level_with, collide, is_renumbered, num_taken, IsUnder, IsChange, level_given, level_before, gets_too, gives_up, levels_under, is_taken}
use Rattle.textual_mods.specs.declared.num_changes.NumChange.{NumChange}
use Rattle.textual_mods.proofs.InsertedTrees.{found_below, root_says}
use Rattle.textual_mods.proofs.JoinLimits.{times, none_times, some_times}
use Rattle.textual_mods.proofs.NamedNodes.{same_node, by_node}
use Rattle.textual_mods.proofs.NumsTaken.{kept_hit, hit_both, few_before}
use Rattle.textual_mods.proofs.OnePlace.{first_found, found_past, first_of, beneath_it, behind_it}
use Rattle.textual_mods.proofs.PlacedLevels.{In, in_any, any_in, all_in, in_front, in_back, names, names_are, same_placed, hit, hits, some_hit, one_hit, two_hits, at_root, at_node}
use Rattle.textual_mods.proofs.Substituted.{kids_are}
use Rattle.act_tree.proofs.WidsDiffer.{wids_differ, root_apart}

module _ (n : Numbering) where
  -- what is placed at what is found is placed in the text
  found_in : (x : Placed) (v : List ℕ) (q : Provision) (under : Branches Provision) → ((t : Bool) (w : List ℕ) → In x (placed n t w (branch q under)))
      → (t : Bool) (w : List ℕ) (bs : Branches Provision) → found v bs ≡ Some (branch q under) → In x (all_placed n t w bs)
  found_in x v q under here t w no_branches there = absurd cc
  found_in x v q under here t w (more_branches (branch r below) bs) there =
      elim (cases_Bool (bytes_eq r.wid v)) [
        | inl it ↦
            let one : Some (branch r below) ≡ Some (branch q under) = sym (first_found v r below bs it) ∙ there in
            let is : branch q under ≡ branch r below = cc in
            in_front x (placed n t w (branch r below)) (all_placed n t w bs) (subst (λ b. In x (placed n t w b)) is (here t w))
        | inr other ↦ elim (first_of v (branch q under) below bs (sym (found_past v r below bs other) ∙ there)) [
          | beneath_it inner held ↦ in_front x (placed n t w (branch r below)) (all_placed n t w bs) (inr (found_in x v q under here false r.wid below inner))
          | behind_it none outer ↦ in_back x (placed n t w (branch r below)) (all_placed n t w bs) (found_in x v q under here t w bs outer)
        ]
      ]

  -- a node that is listed is placed among those listed
  listed_in : (tree : Tree) (id place : ℕ) (t : Bool) (w : List ℕ) (ks : List ℕ) → slice_get ks place ≡ Some id
      → In (record { under = cond (begins n t (provision_at tree id).own) root_wid w; provision = provision_at tree id }) (all_placed n t w (branches_of (map (branch_at tree) ks)))
  listed_in tree id place t w [] is = absurd cc
  listed_in tree id zero t w (k ∷ ks) is =
      let same : id ≡ k = cc in
      let x : ℕ → Placed = λ j. record { under = cond (begins n t (provision_at tree j).own) root_wid w; provision = provision_at tree j } in
      in_front (x id) (placed n t w (branch_at tree k)) (all_placed n t w (branches_of (map (branch_at tree) ks)))
      (subst (λ b. In (x id) (placed n t w b)) (sym (branch_is tree k)) (inl (ap x same)))
  listed_in tree id (suc place) t w (k ∷ ks) is =
      in_back _ (placed n t w (branch_at tree k)) (all_placed n t w (branches_of (map (branch_at tree) ks))) (listed_in tree id place t w ks is)

module _ (t : Tree) where
  abbrev n : Numbering
  n = (tree_view t).numbering

  abbrev body : Branches Provision
  body = (tree_view t).body

  abbrev all : List Placed
  all = placed_in (tree_view t)

  all_once : one_twice (names all) ≡ false
  all_once = ap one_twice (names_are n true root_wid body) ∙ wids_differ t

  -- a node as it is placed
  abbrev entry : ℕ → ℕ → Placed
  entry id under = record { under = (provision_at t under).wid; provision = provision_at t id }

  found_node : (id : ℕ) → has_node t id ≡ true → (id ≡ 0 → ⊥) → found (provision_at t id).wid body ≡ Some (branch (provision_at t id) (below_at t id))
  found_node id node other = found_below t id node (not_root t id node other)

  entry_in : (id under : ℕ) → has_node t id ≡ true → (id ≡ 0 → ⊥) → IsUnder t id under → In (entry id under) all
  entry_in id under node other is =
      elim (cases_Bool (is_throughout n (provision_at t id).own.element)) [
        | inl begun ↦
            let zero_is : under ≡ 0 = is.begun begun in
            let root : (provision_at t under).wid ≡ root_wid = ap (λ j. (provision_at t j).wid) zero_is ∙ root_says t in
            found_in n (entry id under) (provision_at t id).wid (provision_at t id) (below_at t id) (λ s w. inl (ap {B = Placed} (λ v. record { under = v; provision = provision_at t id }) (root ∙ by s w begun))) true root_wid body (found_node id node other)
        | inr not_begun ↦
            let at = is.child not_begun in
            elim (cases_eq under 0) [
              | inl top ↦
                  let kids : branches_of (map (branch_at t) (children_at t under)) ≡ body = kids_are t under is.node ∙ ap (below_at t) top ∙ sym (body_is t) in
                  let root : (provision_at t under).wid ≡ root_wid = ap (λ j. (provision_at t j).wid) top ∙ root_says t in
                  subst (λ bs. In (entry id under) (all_placed n true root_wid bs)) kids
                  (subst (λ v. In (record { under = v; provision = provision_at t id }) (all_placed n true root_wid (branches_of (map (branch_at t) (children_at t under))))) (sym root) (listed_in n t id at.0 true root_wid (children_at t under) at.1))
              | inr deep ↦
                  let v : List ℕ = (provision_at t under).wid in
                  let here : In (record { under = cond (is_throughout n (provision_at t id).own.element) root_wid v; provision = provision_at t id }) (all_placed n false v (below_at t under)) =
                  subst (λ bs. In (record { under = cond (is_throughout n (provision_at t id).own.element) root_wid v; provision = provision_at t id }) (all_placed n false v bs)) (kids_are t under is.node) (listed_in n t id at.0 false v (children_at t under) at.1) in
                  let mine : In (entry id under) (all_placed n false v (below_at t under)) = subst (λ s. In (record { under = cond s root_wid v; provision = provision_at t id }) (all_placed n false v (below_at t under))) not_begun here in
                  found_in n (entry id under) v (provision_at t under) (below_at t under) (λ s w. inr mine) true root_wid body (found_node under is.node deep)
            ]
      ]
    where
      by : (s : Bool) (w : List ℕ) → is_throughout n (provision_at t id).own.element ≡ true → root_wid ≡ cond (begins n s (provision_at t id).own) root_wid w
      by s w begun = sym (ap (λ r. cond r root_wid w) (or_right s _ begun))

  -- a level stands beneath a node exactly where one that is placed has it there
  stands_told : (l : List ℕ) (under : ℕ) → has_node t under ≡ true → times l (levels_under t under) ≡ hits [] (provision_at t under).wid l all
  stands_told l under node =
      elim (cases_eq under 0) [
        | inl top ↦
            ap (λ s. times l (cond s (all_beginning n true (all_owns body)) (all_going_on n false (all_owns (below_at t under))))) (eq-eqb under 0 top)
            ∙ ap (λ bs. times l (all_beginning n true (all_owns bs))) (sym (none_renumbered body))
            ∙ sym (at_root [] (provision_at t under).wid l n body (root_apart t) (ap (λ j. (provision_at t j).wid) top ∙ root_says t))
        | inr deep ↦
            ap (λ s. times l (cond s (all_beginning n true (all_owns body)) (all_going_on n false (all_owns (below_at t under))))) (ne_eqb under 0 deep)
            ∙ ap (λ bs. times l (all_going_on n false (all_owns bs))) (sym (none_renumbered (below_at t under)))
            ∙ sym (at_node [] (provision_at t under).wid l n (provision_at t under) (below_at t under) body (wids_differ t) (bytes_eq_sym root_wid (provision_at t under).wid ∙ not_root t under node deep) (found_node under node deep))
      ]

  module _ (named : List (ℕ × List ℕ)) (nodes : All (λ pair. has_node t pair.0 ≡ true) named) (cs : List NumChange) (each : All (IsChange t named) cs) (ids : map (λ c. c.id) cs ≡ map (λ pair. pair.0) named) where
    abbrev pairs : List (List ℕ × List ℕ)
    pairs = nums_by_wid t named

    abbrev wid : NumChange → List ℕ
    wid c = (provision_at t c.id).wid

    abbrev under : NumChange → List ℕ
    under c = (provision_at t c.under).wid

    abbrev entry_of : NumChange → Placed
    entry_of c = entry c.id c.under

    change : (c : NumChange) → In c cs → IsChange t named c
    change c it = all_in (IsChange t named) c cs each it

    of_change : (c : NumChange) → In c cs → In (entry_of c) all
    of_change c it = (let is : IsChange t named c = change c it in entry_in c.id c.under is.node is.provision is.under)

    -- the level of a change is that of its node with the nums that are given, and the one before is the one that it had
    given_is : (c : NumChange) → In c cs → level_given c ≡ level_with pairs (provision_at t c.id)
    given_is c it =
        let is : IsChange t named c = change c it in
        ap (λ e. level_text e c.num) is.element
        ∙ ap (level_text (provision_at t c.id).own.element) (is.num ∙ by_node t named c.id c.before nodes is.node ∙ ap (num_given pairs (wid c)) is.before)

    before_is : (c : NumChange) → In c cs → level_before c ≡ own_level (provision_at t c.id).own
    before_is c it =
        let is : IsChange t named c = change c it in
        ap (λ e. level_text e c.before) is.element ∙ ap (level_text (provision_at t c.id).own.element) is.before

    -- changes are beneath one node where their wIds say so
    one_under : (c d : NumChange) → In c cs → In d cs → bytes_eq (under d) (under c) ≡ true → (d.under == c.under) ≡ true
    one_under c d one other same =
        eq-eqb d.under c.under (same_node t d.under c.under (change d other).under.node (change c one).under.node (same_text (under d) (under c) same))

    under_one : (c d : NumChange) → (d.under == c.under) ≡ true → bytes_eq (under d) (under c) ≡ true
    under_one c d same = equal_text (under d) (under c) (ap (λ j. (provision_at t j).wid) (eqb-true d.under c.under same))

    -- who is named has a change, and who has one is named
    named_told : (w : List ℕ) → is_among w (map (λ pair. pair.0) pairs) ≡ list_any (λ c. bytes_eq w (wid c)) cs
    named_told w = by named cs ids
      where
        by : (ps : List (ℕ × List ℕ)) (ds : List NumChange) → map (λ c. c.id) ds ≡ map (λ pair. pair.0) ps → is_among w (map (λ pair. pair.0) (nums_by_wid t ps)) ≡ list_any (λ c. bytes_eq w (wid c)) ds
        by [] [] same = refl
        by [] (d ∷ ds) same = absurd cc
        by (p ∷ ps) [] same = absurd cc
        by (p ∷ ps) (d ∷ ds) same =
            let first : p.0 ≡ d.id = cc in
            let rest : map (λ c. c.id) ds ≡ map (λ pair. pair.0) ps = cc in
            ap (λ k. bytes_eq w (provision_at t k).wid || is_among w (map (λ pair. pair.0) (nums_by_wid t ps))) first
            ∙ ap (λ s. bytes_eq w (wid d) || s) (by ps ds rest)

    is_named : (c : NumChange) → In c cs → is_renumbered pairs (provision_at t c.id) ≡ true
    is_named c it = named_told (wid c) ∙ in_any (λ d. bytes_eq (wid c) (wid d)) c cs it (equal_text (wid c) (wid c) refl)

    -- one that is placed and named is that of a change
    change_for : (e : Placed) → In e all → is_renumbered pairs e.provision ≡ true → (c : NumChange) × (In c cs × (e ≡ entry_of c))
    change_for e it held =
        let c = any_in (λ d. bytes_eq e.provision.wid (wid d)) cs (sym (named_told e.provision.wid) ∙ held) in
        (c.0, (c.1.0, same_placed e (entry_of c.0) all all_once it (of_change c.0 c.1.0) (same_text e.provision.wid (wid c.0) c.1.1)))

    -- one that is named and one that is not have other wIds
    apart : (a b : Placed) → is_renumbered pairs a.provision ≡ true → is_renumbered pairs b.provision ≡ false → bytes_eq a.provision.wid b.provision.wid ≡ false
    apart a b held none =
        other_text a.provision.wid b.provision.wid (λ same. absurd (let never : true ≡ false = sym held ∙ ap (λ w. is_among w (map (λ pair. pair.0) pairs)) same ∙ none in cc))

    taken_by : (c : NumChange) (b : Placed) → In c cs → In b all → collide pairs (entry_of c) b ≡ true → num_taken (tree_view t) pairs ≡ true
    taken_by c b one other both = in_any _ (entry_of c) all (of_change c one) (and_from _ _ (is_named c one) (in_any (collide pairs (entry_of c)) b all other both))

    -- two changes that collide
    met : (c d : NumChange) → In c cs → In d cs → gets_too c d ≡ true → num_taken (tree_view t) pairs ≡ true
    met c d one other both =
        let first = and_parts _ _ both in
        let second = and_parts _ _ first.1 in
        taken_by c (entry_of d) one (of_change d other)
        (and_from _ _
        (ap not (other_text (wid c) (wid d) (λ same. absurd (
        let it : (d.id == c.id) ≡ true = eq-eqb d.id c.id (sym (same_node t c.id d.id (change c one).node (change d other).node same)) in
        let none : (d.id == c.id) ≡ false = not-true _ first.0 in
        cc))))
        (and_from _ _ (under_one c d second.0) (ap (λ l. bytes_eq l (level_with pairs (provision_at t d.id))) (sym (given_is c one)) ∙ ap (bytes_eq (level_given c)) (sym (given_is d other)) ∙ second.1)))

    meets : (c d : NumChange) → In c cs → In d cs → collide pairs (entry_of c) (entry_of d) ≡ true → gets_too c d ≡ true
    meets c d one other both =
        let first = and_parts _ _ both in
        let second = and_parts _ _ first.1 in
        and_from _ _
        (ap not (ne_eqb d.id c.id (λ same. absurd (
        let it : bytes_eq (wid c) (wid d) ≡ true = equal_text (wid c) (wid d) (ap (λ j. (provision_at t j).wid) (sym same)) in
        let none : bytes_eq (wid c) (wid d) ≡ false = not-true _ first.0 in
        cc))))
        (and_from _ _ (one_under c d one other second.0) (ap (λ l. bytes_eq l (level_given d)) (given_is c one) ∙ ap (bytes_eq (level_with pairs (provision_at t c.id))) (given_is d other) ∙ second.1))

    -- what a change has given up
    up_hit : (c d : NumChange) → In d cs → gives_up c d ≡ true → hit [] (under c) (level_given c) (entry_of d) ≡ true
    up_hit c d other up =
        let parts = and_parts _ _ up in
        and_from _ _ (under_one c d parts.0) (ap (bytes_eq (level_given c)) (sym (before_is d other)) ∙ parts.1)

    hit_up : (c d : NumChange) → In c cs → In d cs → hit [] (under c) (level_given c) (entry_of d) ≡ true → gives_up c d ≡ true
    hit_up c d one other held =
        let parts = and_parts _ _ held in
        and_from _ _ (one_under c d one other parts.0) (ap (bytes_eq (level_given c)) (before_is d other) ∙ parts.1)

    own_hit : (c : NumChange) → In c cs → hit pairs (under c) (level_given c) (entry_of c) ≡ true
    own_hit c one =
        and_from _ _ (equal_text (under c) (under c) refl) (equal_text (level_given c) (level_with pairs (provision_at t c.id)) (given_is c one))

    -- a level that stands and that no change gives up
    stays : (c : NumChange) → In c cs → is_among (level_given c) (levels_under t c.under) ≡ true → list_any (gives_up c) cs ≡ false → num_taken (tree_view t) pairs ≡ true
    stays c one stands free =
        let some : 1 ≤ times (level_given c) (levels_under t c.under) = some_times (level_given c) (levels_under t c.under) stands in
        let same : times (level_given c) (levels_under t c.under) ≡ hits [] (under c) (level_given c) all = stands_told (level_given c) c.under (change c one).under.node in
        let more : 1 ≤ hits [] (under c) (level_given c) all = omega arith in
        let b : (e : Placed) × (In e all × (hit [] (under c) (level_given c) e ≡ true)) = some_hit [] (under c) (level_given c) all more in
        by b.0 b.1.0 b.1.1
      where
        by : (b : Placed) → In b all → hit [] (under c) (level_given c) b ≡ true → num_taken (tree_view t) pairs ≡ true
        by b it held =
            elim (cases_Bool (is_renumbered pairs b.provision)) [
              | inl told ↦
                  let d : (d : NumChange) × (In d cs × (b ≡ entry_of d)) = change_for b it told in
                  let up : gives_up c d.0 ≡ true = hit_up c d.0 one d.1.0 (ap (hit [] (under c) (level_given c)) (sym d.1.1) ∙ held) in
                  absurd (let never : true ≡ false = sym (in_any (gives_up c) d.0 cs d.1.0 up) ∙ free in cc)
              | inr none ↦
                  taken_by c b one it (hit_both pairs (under c) (level_given c) (entry_of c) b (apart (entry_of c) b (is_named c one) none) (own_hit c one) (kept_hit pairs (under c) (level_given c) b none ∙ held))
            ]

    is_met : (c : NumChange) → In c cs → is_taken t cs c ≡ true → num_taken (tree_view t) pairs ≡ true
    is_met c one held =
        elim (or_cases (list_any (gets_too c) cs) (is_among (level_given c) (levels_under t c.under) && not (list_any (gives_up c) cs)) held) [
          | inl too ↦ (let d : (d : NumChange) × (In d cs × (gets_too c d ≡ true)) = any_in (gets_too c) cs too in met c d.0 one d.1.0 d.1.1)
          | inr stands ↦ (let parts = and_parts _ _ stands in stays c one parts.0 (not-true _ parts.1))
        ]

    module _ (fits : first_cause (tree_view t) ≡ None) where
      collides : (c : NumChange) (b : Placed) → In c cs → In b all → collide pairs (entry_of c) b ≡ true → is_taken t cs c ≡ true
      collides c b one it both =
          elim (cases_Bool (is_renumbered pairs b.provision)) [
            | inl told ↦
                let d : (d : NumChange) × (In d cs × (b ≡ entry_of d)) = change_for b it told in
                or_left _ _ (in_any (gets_too c) d.0 cs d.1.0 (meets c d.0 one d.1.0 (ap (collide pairs (entry_of c)) (sym d.1.1) ∙ both)))
            | inr none ↦
                let parts = and_parts _ _ (and_parts _ _ both).1 in
                let here : hit [] (under c) (level_given c) b ≡ true = sym (kept_hit pairs (under c) (level_given c) b none) ∙ and_from _ _ parts.0 (ap (λ x. bytes_eq x (level_with pairs b.provision)) (given_is c one) ∙ parts.1) in
                or_right (list_any (gets_too c) cs) _ (and_from _ _ (stands here) (ap not (free none here)))
          ]
        where
          stands : hit [] (under c) (level_given c) b ≡ true → is_among (level_given c) (levels_under t c.under) ≡ true
          stands here =
              elim (cases_Bool (is_among (level_given c) (levels_under t c.under))) [
                | inl there ↦ there
                | inr none ↦
                    let zero_is : times (level_given c) (levels_under t c.under) ≡ 0 = none_times (level_given c) (levels_under t c.under) none in
                    let same : times (level_given c) (levels_under t c.under) ≡ hits [] (under c) (level_given c) all = stands_told (level_given c) c.under (change c one).under.node in
                    let some : 1 ≤ hits [] (under c) (level_given c) all = one_hit [] (under c) (level_given c) b all it here in
                    absurd (omega arith)
              ]

          free : is_renumbered pairs b.provision ≡ false → hit [] (under c) (level_given c) b ≡ true → list_any (gives_up c) cs ≡ false
          free none here =
              elim (cases_Bool (list_any (gives_up c) cs)) [
                | inr not_up ↦ not_up
                | inl up ↦
                    let d : (d : NumChange) × (In d cs × (gives_up c d ≡ true)) = any_in (gives_up c) cs up in
                    let two : 2 ≤ hits [] (under c) (level_given c) all =
                    two_hits [] (under c) (level_given c) (entry_of d.0) b all (of_change d.0 d.1.0) it (apart (entry_of d.0) b (is_named d.0 d.1.0) none) (up_hit c d.0 d.1.0 d.1.1) here in
                    let most : hits [] (under c) (level_given c) all ≤ 1 = few_before t fits (under c) (level_given c) in
                    absurd (omega arith)
              ]

      -- a num is taken exactly if one of the nodes that are named gets the level of another
      pub named_decide : list_any (is_taken t cs) cs ≡ num_taken (tree_view t) pairs
      named_decide =
          elim (cases_Bool (num_taken (tree_view t) pairs)) [
            | inl told ↦
                let a : (a : Placed) × (In a all × ((is_renumbered pairs a.provision && list_any (collide pairs a) all) ≡ true)) = any_in _ all told in
                let parts = and_parts _ _ a.1.1 in
                let b : (b : Placed) × (In b all × (collide pairs a.0 b ≡ true)) = any_in (collide pairs a.0) all parts.1 in
                let c : (c : NumChange) × (In c cs × (a.0 ≡ entry_of c)) = change_for a.0 a.1.0 parts.0 in
                in_any (is_taken t cs) c.0 cs c.1.0 (collides c.0 b.0 c.1.0 b.1.0 (ap (λ x. collide pairs x b.0) (sym c.1.1) ∙ b.1.1)) ∙ sym told
            | inr none ↦ elim (cases_Bool (list_any (is_taken t cs) cs)) [
              | inr free ↦ free ∙ sym none
              | inl met ↦
                  let c : (c : NumChange) × (In c cs × (is_taken t cs c ≡ true)) = any_in (is_taken t cs) cs met in
                  absurd (let never : true ≡ false = sym (is_met c.0 c.1.0 c.1.1) ∙ none in cc)
            ]
          ]
