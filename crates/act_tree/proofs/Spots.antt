-- A provision among those right below a number: a step at it is made in that list alone.
use Rattle.std.proofs.Common.{◌≡◌, ◌∙◌, sym, ap, refl, subst, ℕ, ◌==◌, true, false, cond, ◌||◌, List, [], ◌∷◌, ◌++◌, Option, Some, inl, inr, append_assoc}
use Rattle.std.specs.List.{list_any}
use Rattle.std.specs.Str.{bytes_eq}
use Rattle.std.proofs.lemmas.Bool.{cases_Bool, cases_eq, ne_eqb}
use Rattle.std.proofs.lemmas.List.Folds.{list_any-append}
use Rattle.act_tree.specs.Branches.{Branch, Branches, branch, no_branches, more_branches}
use Rattle.act_tree.specs.Provisions.{Own, Provision}
use Rattle.act_tree.specs.Changes.{Step, any_holds, changed, inside_changed, joined}
use Rattle.act_tree.specs.Wids.{wids, all_wids, is_among, one_twice}
use Rattle.act_tree.specs.Arena.{Laid, provision_in, above_in, below_in, Stands, StandAll}
use Rattle.act_tree.proofs.Texts.{equal_text, other_text}
use Rattle.act_tree.proofs.Frames.{or_left, none_left, Apart, twice_apart}
use Rattle.act_tree.proofs.PutIn.{all_wids_held}
use Rattle.act_tree.proofs.Standing.{stands_below, one_branch}
use Rattle.act_tree.proofs.Renewals.{renewed_in, renewed, step_at}

all_wids-joined : (bs cs : Branches Provision) → all_wids (joined bs cs) ≡ all_wids bs ++ all_wids cs
all_wids-joined no_branches cs = refl
all_wids-joined (more_branches b bs) cs = ap (λ ws. wids b ++ ws) (all_wids-joined bs cs) ∙ sym (append_assoc (wids b) (all_wids bs) (all_wids cs))

-- of texts that no wId stands twice in, the second has none of a provision of the first
pub record Alone (before : Branches Provision) (p : Provision) (below after : Branches Provision) : Type 0 where
  pub none_before : any_holds p.wid before ≡ false
  pub none_below : any_holds p.wid below ≡ false
  pub none_after : any_holds p.wid after ≡ false

pub alone : (before : Branches Provision) (p : Provision) (below after : Branches Provision) → one_twice (all_wids (joined before (more_branches (branch p below) after))) ≡ false → Alone before p below after
alone before p below after unlike =
    let parts : Apart (all_wids before) (wids (branch p below) ++ all_wids after) =
    twice_apart (all_wids before) (wids (branch p below) ++ all_wids after) (sym (ap one_twice (all_wids-joined before (more_branches (branch p below) after))) ∙ unlike) in
    let behind : Apart (wids (branch p below)) (all_wids after) = twice_apart (wids (branch p below)) (all_wids after) parts.second in
    let mine : is_among p.wid (wids (branch p below)) ≡ true = or_left _ _ (equal_text p.wid p.wid refl) in
    record {
      none_before = elim (cases_Bool (any_holds p.wid before)) [
        | inl held ↦ absurd (
            let never : is_among p.wid (wids (branch p below) ++ all_wids after) ≡ false = parts.between p.wid (all_wids_held p.wid before ∙ held) in
            let told : is_among p.wid (wids (branch p below) ++ all_wids after) ≡ true = list_any-append (bytes_eq p.wid) (wids (branch p below)) (all_wids after) ∙ or_left _ _ mine in
            cc)
        | inr none ↦ none
      ];
      none_below = sym (all_wids_held p.wid below) ∙ none_left _ _ behind.first;
      none_after = sym (all_wids_held p.wid after) ∙ behind.between p.wid mine;
    }

-- where the provision is alone, a step at its wId is made there
pub alone_changed : (step : Step) (before : Branches Provision) (p : Provision) (below after : Branches Provision) → Alone before p below after
    → changed step p.wid (joined before (more_branches (branch p below) after)) ≡ joined before (step (branch p below) after)
alone_changed step before p below after a = step_at step p.wid before p below after a.none_before (equal_text p.wid p.wid refl) a.none_below a.none_after

module _ (at : ℕ → Option Laid) (number : List ℕ → Option ℕ) (u i : ℕ) where
  -- the numbers and the branches before and behind those of the number i
  pub record Spot (ks : List ℕ) (bs : Branches Provision) : Type 0 where
    pub front : List ℕ
    pub back : List ℕ
    pub before : Branches Provision
    pub says : Provision
    pub below : Branches Provision
    pub after : Branches Provision
    pub list : ks ≡ front ++ i ∷ back
    pub text : bs ≡ joined before (more_branches (branch says below) after)
    pub front_stand : StandAll at number u front before
    pub stands : Stands at number u i (branch says below)
    pub back_stand : StandAll at number u back after

  pub said : (p : Provision) (below : Branches Provision) (k : ℕ) → Stands at number u k (branch p below) → k ≡ i → p ≡ provision_in (at i)
  said p below k s it = sym (ap provision_in s.0) ∙ ap (λ j. provision_in (at j)) it

  pub spot : (ks : List ℕ) (bs : Branches Provision) → StandAll at number u ks bs → list_any (λ j. j == i) ks ≡ true → Spot ks bs
  spot [] no_branches s found = absurd cc
  spot (k ∷ ks) no_branches s found = absurd s
  spot [] (more_branches b bs) s found = absurd s
  spot (k ∷ ks) (more_branches (branch p below) bs) s found =
      elim (cases_eq k i) [
        | inl it ↦ record {
          front = [];
          back = ks;
          before = no_branches;
          says = p;
          below = below;
          after = bs;
          list = ap (λ j. j ∷ ks) it;
          text = refl;
          front_stand = tt;
          stands = (let P : ℕ → Type 0 = λ j. Stands at number u j (branch p below) in subst P it s.0);
          back_stand = s.1;
        }
        | inr other ↦
            let rest : Spot ks bs = spot ks bs s.1 (sym (ap (λ t. t || list_any (λ j. j == i) ks) (ne_eqb k i other)) ∙ found) in
            record {
              front = k ∷ rest.front;
              back = rest.back;
              before = more_branches (branch p below) rest.before;
              says = rest.says;
              below = rest.below;
              after = rest.after;
              list = ap (λ js. k ∷ js) rest.list;
              text = ap (more_branches (branch p below)) rest.text;
              front_stand = (s.0, rest.front_stand);
              stands = rest.stands;
              back_stand = rest.back_stand;
            }
      ]

  module _ (q : Provision) (bs : Branches Provision) (stands : Stands at number (above_in (at u)) u (branch q bs)) (w : List ℕ) (leads : number w ≡ Some i) (over : above_in (at i) ≡ u) (step : Step) where
    mutual
      -- a step at a provision is made right below the number above it
      pub local_in : (b : Branch Provision) (t k : ℕ) → Stands at number t k b → renewed_in q.own (changed step w bs) q.wid b ≡ inside_changed step w b
      local_in (branch p below) t k s =
          let new : Branches Provision = changed step w bs in
          elim (cases_eq k u) [
            | inl it ↦
                let P : ℕ → Type 0 = λ j. Stands at number t j (branch p below) in
                let same : branch p below ≡ branch q bs = one_branch at number (branch p below) (branch q bs) t (above_in (at u)) u (subst P it s) stands in
                ap (renewed_in q.own new q.wid) same
                ∙ ap (λ t. cond t (branch q new) (branch q (renewed q.own new q.wid bs))) (equal_text q.wid q.wid refl)
                ∙ sym (ap (inside_changed step w) same)
            | inr other ↦
                ap (λ t. cond t (branch (record p { own = q.own }) new) (branch p (renewed q.own new q.wid below)))
                (other_text p.wid q.wid (λ same. let one : Some k ≡ Some u = sym s.1.0 ∙ ap number same ∙ stands.1.0 in let it : k ≡ u = cc in other it))
                ∙ ap (branch p) (local_all below k (below_in (at k)) s.1.1 other)
          ]

      local_all : (cs : Branches Provision) (k : ℕ) (ks : List ℕ) → StandAll at number k ks cs → (k ≡ u → ⊥) → renewed q.own (changed step w bs) q.wid cs ≡ changed step w cs
      local_all no_branches k ks s far = refl
      local_all (more_branches b cs) k [] s far = absurd s
      local_all (more_branches (branch p below) cs) k (j ∷ ks) s far =
          let b : Branch Provision = branch p below in
          let not_it : bytes_eq p.wid w ≡ false = other_text p.wid w (λ same.
          let one : Some j ≡ Some i = sym s.0.1.0 ∙ ap number same ∙ leads in
          let it : j ≡ i = cc in
          far (sym (stands_below at number b k j s.0) ∙ ap (λ l. above_in (at l)) it ∙ over)) in
          ap (λ c. more_branches c (renewed q.own (changed step w bs) q.wid cs)) (local_in (branch p below) k j s.0)
          ∙ ap (more_branches (inside_changed step w b)) (local_all cs k ks s.1 far)
          ∙ sym (ap (λ t. cond t (step (inside_changed step w b) (changed step w cs)) (more_branches (inside_changed step w b) (changed step w cs))) not_it)

  -- a provision that is renewed in a text where the number above it is renewed is renewed in what is below that number then
  module _ (q : Provision) (bs : Branches Provision) (stands : Stands at number (above_in (at u)) u (branch q bs)) (w : List ℕ) (leads : number w ≡ Some i) (over : above_in (at i) ≡ u) (apart : u ≡ i → ⊥) (own : Own) (new more : Branches Provision) where
    not_wid : (p : Provision) (below : Branches Provision) (t k : ℕ) → Stands at number t k (branch p below) → (k ≡ i → ⊥) → bytes_eq p.wid w ≡ false
    not_wid p below t k s other = other_text p.wid w (λ same. let one : Some k ≡ Some i = sym s.1.0 ∙ ap number same ∙ leads in let it : k ≡ i = cc in other it)

    mutual
      pub nested_in : (b : Branch Provision) (t k : ℕ) → Stands at number t k b → (k ≡ i → ⊥) → renewed_in own more w (renewed_in q.own new q.wid b) ≡ renewed_in q.own (renewed own more w new) q.wid b
      nested_in (branch p below) t k s other =
          elim (cases_eq k u) [
            | inl it ↦
                let P : ℕ → Type 0 = λ j. Stands at number t j (branch p below) in
                let same : branch p below ≡ branch q bs = one_branch at number (branch p below) (branch q bs) t (above_in (at u)) u (subst P it s) stands in
                let of_it : bytes_eq q.wid q.wid ≡ true = equal_text q.wid q.wid refl in
                ap (λ b. renewed_in own more w (renewed_in q.own new q.wid b)) same
                ∙ ap (λ t. renewed_in own more w (cond t (branch q new) (branch q (renewed q.own new q.wid bs)))) of_it
                ∙ ap (λ t. cond t (branch (record q { own = own }) more) (branch q (renewed own more w new))) (not_wid q bs (above_in (at u)) u stands apart)
                ∙ sym (ap (λ t. cond t (branch q (renewed own more w new)) (branch q (renewed q.own (renewed own more w new) q.wid bs))) of_it)
                ∙ sym (ap (renewed_in q.own (renewed own more w new) q.wid) same)
            | inr far ↦
                let not_over : bytes_eq p.wid q.wid ≡ false = other_text p.wid q.wid (λ same. let one : Some k ≡ Some u = sym s.1.0 ∙ ap number same ∙ stands.1.0 in let it : k ≡ u = cc in far it) in
                ap (λ t. renewed_in own more w (cond t (branch (record p { own = q.own }) new) (branch p (renewed q.own new q.wid below)))) not_over
                ∙ ap (λ t. cond t (branch (record p { own = own }) more) (branch p (renewed own more w (renewed q.own new q.wid below)))) (not_wid p below t k s other)
                ∙ ap (branch p) (nested_all below k (below_in (at k)) s.1.1 far)
                ∙ sym (ap (λ t. cond t (branch (record p { own = q.own }) (renewed own more w new)) (branch p (renewed q.own (renewed own more w new) q.wid below))) not_over)
          ]

      nested_all : (cs : Branches Provision) (k : ℕ) (ks : List ℕ) → StandAll at number k ks cs → (k ≡ u → ⊥) → renewed own more w (renewed q.own new q.wid cs) ≡ renewed q.own (renewed own more w new) q.wid cs
      nested_all no_branches k ks s far = refl
      nested_all (more_branches b cs) k [] s far = absurd s
      nested_all (more_branches b cs) k (j ∷ ks) s far =
          ap (λ c. more_branches c (renewed own more w (renewed q.own new q.wid cs))) (nested_in b k j s.0 (λ it. far (sym (stands_below at number b k j s.0) ∙ ap (λ l. above_in (at l)) it ∙ over)))
          ∙ ap (more_branches (renewed_in q.own (renewed own more w new) q.wid b)) (nested_all cs k ks s.1 far)
