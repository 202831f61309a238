-- A provision is taken off, or all of them: the list right above is another, and the text is without them.
use Rattle.std.proofs.Common.{◌≡◌, ◌∙◌, sym, ap, refl, subst, ℕ, ◌-◌, ◌<◌, ◌≤◌, ◌==◌, true, false, not, ◌||◌, ◌&&◌, get_or, cond, List, [], ◌∷◌, ◌++◌, filter, Option, Some, None, inl, inr, arith}
use Rattle.std.specs.List.{list_any, All}
use Rattle.std.specs.Str.{bytes_eq}
use Rattle.std.proofs.lemmas.Bool.{cases_eq, or_cases, and_parts, eqb-true, eq-eqb, ne_eqb}
use Rattle.act_tree.specs.declared.arena.Arena.{Arena}
use Rattle.act_tree.specs.Branches.{Branch, Branches, branch, no_branches, more_branches, heights}
use Rattle.act_tree.specs.Provisions.{Own, Provision}
use Rattle.act_tree.specs.Changes.{Step, changed, inside_changed, joined, put_in, among_children, grafted, removed, without, any_holds, root_wid}
use Rattle.eid_paths.specs.Nums.{is_num}
use Rattle.act_tree.specs.Wids.{all_wids, one_twice}
use Rattle.act_tree.specs.Arena.{Laid, provision_in, above_in, below_in, name_in, branches_below, branch_from, hangs_on, climbs, number_twice, Stands, IsWhole}
use Rattle.act_tree.specs.Relisted.{IsRelisted}
use Rattle.act_tree.specs.Planted.{Each}
use Rattle.act_tree.specs.Slots.{at, number, size}
use Rattle.act_tree.specs.TakenOff.{with_above, with_below, IsTakenOff}
use Rattle.act_tree.proofs.Texts.{equal_text, other_text}
use Rattle.act_tree.proofs.Frames.{none_left, none_right, neither}
use Rattle.act_tree.proofs.Building.{Holds, held}
use Rattle.act_tree.proofs.Climbing.{climbs_step, climbs_more, listed_above}
use Rattle.act_tree.proofs.TreeNodes.{node_stands, node_laid, children_climb, root_climbs}
use Rattle.act_tree.proofs.LaidDown.{laid_past, laid_within}
use Rattle.act_tree.proofs.PutIn.{not_beneath, any_holds-joined}
use Rattle.act_tree.proofs.Renewals.{renewed_in, renewed, renewing, renewed_root}
use Rattle.act_tree.proofs.Standing.{one_branch}
use Rattle.act_tree.proofs.Relistings.{Apart, Move, not_itself, each_joined, each_apart, says_stay, text_moved}
use Rattle.act_tree.proofs.Sound.{Text, text_of}
use Rattle.act_tree.proofs.Spots.{Spot, spot, said, Alone, alone, alone_changed, local_in}
use Rattle.act_tree.proofs.Times.{times, times-append, once_few, only_one, other_one, Between, between, filter_between}
use Rattle.act_tree.proofs.WidsDiffer.{differ}

not_own : (i : ℕ) (o : Option Laid) (x : Laid) → o ≡ Some x → hangs_on i o ≡ true → above_in o ≡ i → ⊥
not_own i None x is hangs own = cc
not_own i (Some y) x is hangs own = let told : (y.above == i) ≡ true = eq-eqb y.above i own in let never : not (y.above == i) ≡ false = ap not told in cc

-- the number above one that is not the root climbs too, and is another
pub above_climbs : (at : ℕ → Option Laid) (size i : ℕ) → climbs size at i ≡ true → (i ≡ 0 → ⊥) → 0 < size → (hangs_on i (at i) ≡ true) × (climbs size at (above_in (at i)) ≡ true)
above_climbs at size i climbed other some =
    elim (or_cases (i == 0) (hangs_on i (at i) && climbs (size - 1) at (above_in (at i))) (sym (climbs_step size at i some) ∙ climbed)) [
      | inl root ↦ absurd (other (eqb-true i 0 root))
      | inr on ↦
          let parts : (hangs_on i (at i) ≡ true) × (climbs (size - 1) at (above_in (at i)) ≡ true) = and_parts _ _ on in
          (parts.0, climbs_more (size - 1) size at (above_in (at i)) (omega arith) parts.1)
    ]

pub leads_there : (at : ℕ → Option Laid) (number : List ℕ → Option ℕ) (b : Branch Provision) (u i : ℕ) → Stands at number u i b → number (provision_in (at i)).wid ≡ Some i
leads_there at number (branch p below) u i s = ap (λ o. number (provision_in o).wid) s.0 ∙ s.1.0

pub named_there : (o : Option Laid) (x : Laid) → o ≡ Some x → name_in o ≡ Some (provision_in o).wid
named_there None x is = absurd cc
named_there (Some y) x is = refl

-- a provision among those right below the number above it
pub record Sits (at : ℕ → Option Laid) (number : List ℕ → Option ℕ) (i : ℕ) : Type 0 where
  pub over : Provision
  pub siblings : Branches Provision
  pub stands : Stands at number (above_in (at (above_in (at i)))) (above_in (at i)) (branch over siblings)
  pub apart : above_in (at i) ≡ i → ⊥
  pub listed : list_any (λ j. j == i) (below_in (at (above_in (at i)))) ≡ true
  pub once : number_twice (below_in (at (above_in (at i)))) ≡ false
  pub unlike : one_twice (all_wids siblings) ≡ false
  pub leads : number (provision_in (at i)).wid ≡ Some i

pub sits : (at : ℕ → Option Laid) (number : List ℕ → Option ℕ) (size : ℕ) → IsWhole at number size → (i : ℕ) → climbs size at i ≡ true → (i ≡ 0 → ⊥) → Sits at number i
sits at number size whole i climbed other =
    let u : ℕ = above_in (at i) in
    let low : heights (branches_below size at (below_in (at 0))) < size = whole.low in
    let up : (hangs_on i (at i) ≡ true) × (climbs size at u ≡ true) = above_climbs at size i climbed other (omega arith) in
    let here : (x : Laid) × (at i ≡ Some x) = node_laid at number size whole i climbed in
    let stands : Stands at number (above_in (at u)) u (branch_from size at u) = node_stands at number size whole u up.1 in
    record {
      over = provision_in (at u);
      siblings = branches_below size at (below_in (at u));
      stands = stands;
      apart = not_own i (at i) here.0 here.1 up.0;
      listed = listed_above at i (at i) up.0 (whole.hung i);
      once = whole.once u;
      unlike = differ at number size whole (branches_below size at (below_in (at u))) u (below_in (at u)) up.1 stands.1.1 (whole.once u) (λ j found. found);
      leads = leads_there at number (branch_from size at i) u i (node_stands at number size whole i climbed);
    }

pub spot_of : (at : ℕ → Option Laid) (number : List ℕ → Option ℕ) (i : ℕ) (it : Sits at number i) → Spot at number (above_in (at i)) i (below_in (at (above_in (at i)))) it.siblings
spot_of at number i it = spot at number (above_in (at i)) i (below_in (at (above_in (at i)))) it.siblings it.stands.1.1 it.listed

module _ (at : ℕ → Option Laid) (number : List ℕ → Option ℕ) (i : ℕ) (it : Sits at number i) (m : Spot at number (above_in (at i)) i (below_in (at (above_in (at i)))) it.siblings) where
  pub once_of : Between i m.front m.back
  once_of = between i m.front m.back (sym (ap number_twice m.list) ∙ it.once)

  pub says_of_spot : m.says ≡ provision_in (at i)
  says_of_spot = said at number (above_in (at i)) i m.says m.below i m.stands refl

  pub alone_of : Alone m.before m.says m.below m.after
  alone_of = alone m.before m.says m.below m.after (sym (ap (λ bs. one_twice (all_wids bs)) m.text) ∙ it.unlike)

  -- the one above is none of those below it, nor deeper
  pub none_under : any_holds it.over.wid it.siblings ≡ false
  none_under = not_beneath at number it.over it.siblings (above_in (at (above_in (at i)))) (above_in (at i)) it.stands

  pub none_parts : (any_holds it.over.wid m.before || any_holds it.over.wid (more_branches (branch m.says m.below) m.after)) ≡ false
  none_parts = sym (any_holds-joined it.over.wid m.before (more_branches (branch m.says m.below) m.after)) ∙ sym (ap (any_holds it.over.wid) m.text) ∙ none_under

  pub front_apart : Each (Apart at number it.over.wid) m.front m.before
  front_apart = each_apart at number it.over.wid (above_in (at i)) m.front m.before m.front_stand (none_left _ _ none_parts)

  pub back_apart : Each (Apart at number it.over.wid) m.back m.after
  back_apart = each_apart at number it.over.wid (above_in (at i)) m.back m.after m.back_stand (none_right _ _ (none_right _ _ none_parts))

  -- what a step at the provision makes of the text is what it makes of the list right below the number above
  pub step_there : (step : Step) (b : Branch Provision) (t k : ℕ) → Stands at number t k b
      → inside_changed step (provision_in (at i)).wid b ≡ renewed_in it.over.own (joined m.before (step (branch m.says m.below) m.after)) it.over.wid b
  step_there step b t k s =
      let w : List ℕ = (provision_in (at i)).wid in
      sym (local_in at number (above_in (at i)) i it.over it.siblings it.stands w it.leads refl step b t k s)
      ∙ ap (λ v. renewed_in it.over.own (changed step v it.siblings) it.over.wid b) (ap (λ (p : Provision). p.wid) (sym says_of_spot))
      ∙ ap (λ bs. renewed_in it.over.own (changed step m.says.wid bs) it.over.wid b) m.text
      ∙ ap (λ bs. renewed_in it.over.own bs it.over.wid b) (alone_changed step m.before m.says m.below m.after alone_of)

-- what stands below a branch
abbrev pub below_of : Branch Provision → Branches Provision
below_of (branch p below) = below

-- what a branch says of itself
abbrev pub says_of : Branch Provision → Provision
says_of (branch p below) = p

-- a node that is not the root and says and has other things below it: the text has the step that makes them of it
pub renewed_as : (at : ℕ → Option Laid) (number : List ℕ → Option ℕ) (size : ℕ) → IsWhole at number size → (i : ℕ) → climbs size at i ≡ true → (i ≡ 0 → ⊥) → (own : Own) (new : Branches Provision) (step : Step)
    → ((rest : Branches Provision) → step (branch_from size at i) rest ≡ more_branches (branch (record (provision_in (at i)) { own = own }) new) rest)
    → renewed_in own new (provision_in (at i)).wid (branch_from size at 0) ≡ inside_changed step (provision_in (at i)).wid (branch_from size at 0)
renewed_as at number size whole i climbed other own new step does =
    let w : List ℕ = (provision_in (at i)).wid in
    let r : Provision = provision_in (at 0) in
    let body : Branches Provision = branches_below size at (below_in (at 0)) in
    let it : Sits at number i = sits at number size whole i climbed other in
    let m : Spot at number (above_in (at i)) i (below_in (at (above_in (at i)))) it.siblings = spot_of at number i it in
    let same : branch m.says m.below ≡ branch_from size at i =
    one_branch at number (branch m.says m.below) (branch_from size at i) (above_in (at i)) (above_in (at i)) i m.stands (node_stands at number size whole i climbed) in
    let not_root : bytes_eq r.wid w ≡ false = other_text r.wid w (λ equal.
    let one : Some 0 ≡ Some i = sym whole.stands.1.0 ∙ ap number equal ∙ it.leads in
    let zero_is : 0 ≡ i = cc in
    other (sym zero_is)) in
    let made : renewing own new (branch m.says m.below) m.after ≡ step (branch m.says m.below) m.after =
    ap (λ b. renewing own new b m.after) same ∙ sym (does m.after) ∙ sym (ap (λ b. step b m.after) same) in
    renewed_root own new w r body not_root
    ∙ step_there at number i it m (renewing own new) (branch_from size at 0) 0 0 whole.stands
    ∙ ap (λ bs. renewed_in it.over.own (joined m.before bs) it.over.wid (branch_from size at 0)) made
    ∙ sym (step_there at number i it m step (branch_from size at 0) 0 0 whole.stands)

-- others among the children of a node, or of the root, are what the text has below it then
pub grafted_as : (at : ℕ → Option Laid) (number : List ℕ → Option ℕ) (size : ℕ) → IsWhole at number size → (i : ℕ) → climbs size at i ≡ true → (place : ℕ) (new : Branches Provision)
    → renewed_in (provision_in (at i)).own (put_in place new (branches_below size at (below_in (at i)))) (provision_in (at i)).wid (branch_from size at 0)
    ≡ branch (provision_in (at 0)) (grafted (provision_in (at i)).wid place new (branches_below size at (below_in (at 0))))
grafted_as at number size whole i climbed place new =
    let w : List ℕ = (provision_in (at i)).wid in
    let own : Own = (provision_in (at i)).own in
    let under : Branches Provision = branches_below size at (below_in (at i)) in
    let r : Provision = provision_in (at 0) in
    let body : Branches Provision = branches_below size at (below_in (at 0)) in
    let root_is : r.wid ≡ root_wid = ap (λ p. p.wid) whole.root in
    elim (cases_eq i 0) [
      | inl zero_is ↦
          let says : provision_in (at i) ≡ r = ap (λ j. provision_in (at j)) zero_is in
          let same : under ≡ body = ap (λ j. branches_below size at (below_in (at j))) zero_is in
          let wid : w ≡ root_wid = ap (λ (p : Provision). p.wid) says ∙ root_is in
          ap (λ t. cond t (branch (record r { own = own }) (put_in place new under)) (branch r (renewed own (put_in place new under) w body))) (equal_text r.wid w (root_is ∙ sym wid))
          ∙ ap (λ (p : Provision). branch (record r { own = p.own }) (put_in place new under)) says
          ∙ ap (λ cs. branch r (put_in place new cs)) same
          ∙ sym (ap (λ t. branch r (cond t (put_in place new body) (changed (among_children place new) w body))) (equal_text w root_wid wid))
      | inr other ↦
          let not_root : bytes_eq w root_wid ≡ false = other_text w root_wid (λ wid.
          let one : Some 0 ≡ Some i = sym whole.stands.1.0 ∙ ap number (root_is ∙ sym wid) ∙ leads_there at number (branch_from size at i) (above_in (at i)) i (node_stands at number size whole i climbed) in
          let zero_is : 0 ≡ i = cc in
          other (sym zero_is)) in
          renewed_as at number size whole i climbed other own (put_in place new under) (among_children place new) (λ rest. refl)
          ∙ sym (ap (λ t. branch r (cond t (put_in place new body) (changed (among_children place new) w body))) not_root)
    ]

-- what is asked of a provision before it is taken off
pub may_be_taken : (old : Arena) (i : ℕ) → IsWhole (at old) (number old) (size old) → climbs (size old) (at old) i ≡ true → (i ≡ 0 → ⊥)
    → (i < size old) × ((above_in (at old i) < size old) × (above_in (at old i) ≡ i → ⊥))
may_be_taken old i whole climbed other =
    let it : Sits (at old) (number old) i = sits (at old) (number old) (size old) whole i climbed other in
    let here : (x : Laid) × (at old i ≡ Some x) = node_laid (at old) (number old) (size old) whole i climbed in
    (laid_within old.slots.items i here.0 here.1, (laid_within old.slots.items (above_in (at old i)) _ it.stands.0, it.apart))

-- the step that leaves a provision out
abbrev pub gone : Step
gone b rest = rest

pub gone_without : (w : List ℕ) (bs : Branches Provision) → changed gone w bs ≡ without w bs
gone_without w no_branches = refl
gone_without w (more_branches (branch p below) bs) =
    ap (λ c. cond (bytes_eq p.wid w) (changed gone w bs) (more_branches (branch p c) (changed gone w bs))) (gone_without w below)
    ∙ ap (λ cs. cond (bytes_eq p.wid w) cs (more_branches (branch p (without w below)) cs)) (gone_without w bs)

pub list_given : (ks : List ℕ) (o : Option Laid) (x : Laid) → o ≡ Some x
    → with_below ks o ≡ Some (record { provision = record (provision_in o) { own = x.provision.own }; above = above_in o; below = ks })
list_given ks o x is =
    ap (with_below ks) is ∙ sym (ap (λ p. Some (record { provision = record (provision_in p) { own = x.provision.own }; above = above_in p; below = ks })) is)

module _ (at next : ℕ → Option Laid) (number : List ℕ → Option ℕ) (size : ℕ) (whole : IsWhole at number size) (empty : (k : ℕ) → size ≤ k → at k ≡ None) where
  module _ (i : ℕ) (it : Sits at number i) (m : Spot at number (above_in (at i)) i (below_in (at (above_in (at i)))) it.siblings) (t : IsTakenOff at next i) where
    abbrev u : ℕ
    u = above_in (at i)

    abbrev left : Branches Provision
    left = joined m.before m.after

    -- the one above has the others below it, and the number is off
    taken_relisted : IsRelisted at next u it.over.own (i ∷ []) [] (m.front ++ m.back)
    taken_relisted =
        let P : List ℕ → Type 0 = λ ks. IsRelisted at next u it.over.own (i ∷ []) [] ks in
        subst P (ap (filter (λ k. not (k == i))) m.list ∙ filter_between i m.front m.back (once_of at number i it m)) (record {
          here = t.over ∙ list_given (filter (λ k. not (k == i)) (below_in (at u))) (at u) _ it.stands.0;
          left = λ k found. (let same : i ≡ k = only_one i k found in ap next (sym same) ∙ t.here ∙ ap (λ j. with_above j (at j)) same);
          came = λ k found. absurd cc;
          others = λ k far none _. t.others k (other_one i k none) far;
        })

    pub taken : Move at next number u it.over.own (i ∷ []) [] (m.front ++ m.back) it.over it.siblings left
    taken =
        let all : (k : ℕ) → times k (below_in (at u)) ≡ times k (m.front ++ i ∷ m.back) = λ k. ap (times k) m.list in
        record {
          relisted = taken_relisted;
          swaps = record {
            there = (_, it.stands.0);
            balance = λ k. omega (arith, all k, times-append k m.front (i ∷ m.back), times-append k m.front m.back);
            fewer = λ k. omega (arith, all k, times-append k m.front (i ∷ m.back));
            fresh = λ k. omega (arith, once_few (below_in (at u)) k it.once);
            not_gone = neither (i == u) false (ne_eqb i u (λ same. it.apart (sym same))) refl;
            not_come = refl;
          };
          stands = it.stands;
          off = λ k never. absurd cc;
          each = each_joined (Apart at number it.over.wid) m.front m.back m.before m.after (front_apart at number i it m) (back_apart at number i it m);
        }

    pub text_taken : Text next number size (renewed_in it.over.own left it.over.wid (branch_from size at 0))
    text_taken = text_moved taken (sym (ap (λ o. is_num (provision_in o).own.num) it.stands.0) ∙ whole.nums u) refl (text_of at number size whole empty)

    pub text_without : Text next number size (branch (provision_in (at 0)) (without (provision_in (at i)).wid (branches_below size at (below_in (at 0)))))
    text_without =
        let P : Branch Provision → Type 0 = λ b. Text next number size b in
        subst P
        (sym (step_there at number i it m gone (branch_from size at 0) 0 0 whole.stands)
        ∙ ap (branch (provision_in (at 0))) (gone_without (provision_in (at i)).wid (branches_below size at (below_in (at 0))))) text_taken

    -- what each number says stays
    pub says_without : (k : ℕ) → provision_in (next k) ≡ provision_in (at k)
    says_without k = elim (cases_eq k u) [
      | inl same ↦ ap (λ j. provision_in (next j)) same ∙ ap provision_in taken_relisted.here ∙ ap (λ (p : Provision). record (provision_in (at u)) { own = p.own }) (sym (ap provision_in it.stands.0)) ∙ sym (ap (λ j. provision_in (at j)) same)
      | inr far ↦ says_stay at next u it.over.own (i ∷ []) [] (m.front ++ m.back) taken_relisted k far
    ]

  module _ (e : IsRelisted at next 0 (provision_in (at 0)).own (below_in (at 0)) [] []) where
    emptied : Move at next number 0 (provision_in (at 0)).own (below_in (at 0)) [] [] (provision_in (at 0)) (branches_below size at (below_in (at 0))) no_branches
    emptied = record {
      relisted = e;
      swaps = record {
        there = (_, whole.stands.0);
        balance = λ k. omega arith;
        fewer = λ k. omega arith;
        fresh = λ k. omega (arith, once_few (below_in (at 0)) k (whole.once 0));
        not_gone = not_itself at number (provision_in (at 0)) (branches_below size at (below_in (at 0))) 0 0 whole.stands;
        not_come = refl;
      };
      stands = node_stands at number size whole 0 (root_climbs at number size whole);
      off = λ k never. absurd cc;
      each = tt;
    }

    pub text_emptied : Text next number size (branch (provision_in (at 0)) no_branches)
    text_emptied =
        let r : Provision = provision_in (at 0) in
        let P : Branch Provision → Type 0 = λ b. Text next number size b in
        subst P (ap (λ t. cond t (branch r no_branches) (branch r (renewed r.own no_branches r.wid (branches_below size at (below_in (at 0)))))) (equal_text r.wid r.wid refl))
        (text_moved emptied (whole.nums 0) refl (text_of at number size whole empty))

    pub says_emptied : (k : ℕ) → provision_in (next k) ≡ provision_in (at k)
    says_emptied k = elim (cases_eq k 0) [
      | inl same ↦ ap (λ j. provision_in (next j)) same ∙ ap provision_in e.here ∙ sym (ap (λ j. provision_in (at j)) same)
      | inr far ↦ says_stay at next 0 (provision_in (at 0)).own (below_in (at 0)) [] [] e k far
    ]

-- after a change the arena holds what the removal of a wId leaves of the text, and each number says what it said
pub record Left (old new : Arena) (wid : List ℕ) : Type 0 where
  pub holds : Holds new (removed wid (branches_below (size old) (at old) (below_in (at old 0))))
  pub says : (k : ℕ) → provision_in (at new k) ≡ provision_in (at old k)

-- a provision was taken off
pub left_removed : (old new : Arena) (i : ℕ) → IsWhole (at old) (number old) (size old) → climbs (size old) (at old) i ≡ true → (i ≡ 0 → ⊥)
    → new.numbers ≡ old.numbers → size new ≡ size old → IsTakenOff (at old) (at new) i → Left old new (provision_in (at old i)).wid
left_removed old new i whole climbed other numbers sizes t =
    let w : List ℕ = (provision_in (at old i)).wid in
    let body : Branches Provision = branches_below (size old) (at old) (below_in (at old 0)) in
    let it : Sits (at old) (number old) i = sits (at old) (number old) (size old) whole i climbed other in
    let m : Spot (at old) (number old) (above_in (at old i)) i (below_in (at old (above_in (at old i)))) it.siblings = spot_of (at old) (number old) i it in
    let not_root : bytes_eq w root_wid ≡ false = other_text w root_wid (λ same.
    let one : Some 0 ≡ Some i = sym whole.stands.1.0 ∙ ap (λ p. number old p.wid) whole.root ∙ sym (ap (number old) same) ∙ it.leads in
    let zero_is : 0 ≡ i = cc in
    other (sym zero_is)) in
    let P : Branches Provision → Type 0 = λ bs. Holds new bs in
    record {
      holds = subst P (sym (ap (λ t. cond t no_branches (without w body)) not_root)) (held old new (provision_in (at old 0)) (without w body) numbers sizes whole.root (text_without (at old) (at new) (number old) (size old) whole (laid_past old.slots.items) i it m t));
      says = says_without (at old) (at new) (number old) (size old) whole (laid_past old.slots.items) i it m t;
    }

module _ (old : Arena) (i : ℕ) (root : i ≡ 0) (whole : IsWhole (at old) (number old) (size old)) where
  -- what is asked of the root before all provisions are taken off
  pub may_be_emptied : (i < size old) × (All (λ k. k < size old) (below_in (at old i)) × (list_any (λ j. j == i) (below_in (at old i)) ≡ false))
  may_be_emptied =
      let P : ℕ → Type 0 = λ k. (k < size old) × (All (λ k. k < size old) (below_in (at old k)) × (list_any (λ j. j == k) (below_in (at old k)) ≡ false)) in
      let climb : All (λ k. climbs (size old) (at old) k ≡ true) (below_in (at old 0)) = children_climb (at old) (number old) (size old) whole 0 (root_climbs (at old) (number old) (size old) whole) in
      subst P (sym root) (
        laid_within old.slots.items 0 _ whole.stands.0,
        (
          λ n d within.
              let here : (x : Laid) × (at old (get_or (below_in (at old 0)) n d) ≡ Some x) = node_laid (at old) (number old) (size old) whole (get_or (below_in (at old 0)) n d) (climb n d within) in
              laid_within old.slots.items (get_or (below_in (at old 0)) n d) here.0 here.1,
          not_itself (at old) (number old) (provision_in (at old 0)) (branches_below (size old) (at old) (below_in (at old 0))) 0 0 whole.stands,
        ),
      )

  -- all provisions were taken off
  pub left_emptied : (new : Arena) → new.numbers ≡ old.numbers → size new ≡ size old → IsRelisted (at old) (at new) i (provision_in (at old i)).own (below_in (at old i)) [] [] → Left old new (provision_in (at old 0)).wid
  left_emptied new numbers sizes r =
      let body : Branches Provision = branches_below (size old) (at old) (below_in (at old 0)) in
      let P : Branches Provision → Type 0 = λ bs. Holds new bs in
      let Q : ℕ → Type 0 = λ k. IsRelisted (at old) (at new) k (provision_in (at old k)).own (below_in (at old k)) [] [] in
      let e : IsRelisted (at old) (at new) 0 (provision_in (at old 0)).own (below_in (at old 0)) [] [] = subst Q root r in
      record {
        holds = subst P (sym (ap (λ t. cond t no_branches (without (provision_in (at old 0)).wid body)) (equal_text _ root_wid (ap (λ p. p.wid) whole.root)))) (held old new (provision_in (at old 0)) no_branches numbers sizes whole.root (text_emptied (at old) (at new) (number old) (size old) whole (laid_past old.slots.items) e));
        says = says_emptied (at old) (at new) (number old) (size old) whole (laid_past old.slots.items) e;
      }
