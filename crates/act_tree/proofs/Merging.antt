-- A number takes the one right behind it in: that one is taken off and lets those below it go, and then the number is relisted with both.
use Rattle.std.proofs.Common.{◌≡◌, ◌∙◌, sym, ap, refl, subst, ℕ, ◌≤◌, ◌==◌, true, false, List, [], ◌∷◌, ◌++◌, append_assoc, Option, Some, None, inl, inr, arith}
use Rattle.std.specs.List.{list_any}
use Rattle.std.specs.Str.{bytes_eq}
use Rattle.std.proofs.lemmas.Bool.{cases_Bool}
use Rattle.act_tree.specs.Branches.{Branch, Branches, branch, no_branches, more_branches}
use Rattle.act_tree.specs.Provisions.{Own, Provision}
use Rattle.act_tree.specs.Changes.{changed, inside_changed, joined, merged, holds, any_holds}
use Rattle.act_tree.specs.Arena.{Laid, provision_in, above_in, below_in, branches_below, branch_from, number_twice, Stands, StandAll, IsWhole}
use Rattle.act_tree.specs.Relisted.{IsRelisted}
use Rattle.act_tree.specs.Siblings.{first_number, number_behind}
use Rattle.act_tree.specs.Slots.{at, number}
use Rattle.act_tree.specs.TakenOff.{IsTakenOff}
use Rattle.eid_paths.specs.Nums.{is_num}
use Rattle.act_tree.specs.Wids.{all_wids, one_twice}
use Rattle.act_tree.proofs.Texts.{equal_text, other_text}
use Rattle.act_tree.proofs.Frames.{none_left, none_right, neither}
use Rattle.act_tree.proofs.ChangeLaws as changes
use Rattle.act_tree.proofs.PutIn.{stand_join, not_beneath, any_holds-joined}
use Rattle.act_tree.proofs.Relistings.{Apart, Move, not_itself, each_joined, each_apart, lists_stay, above_given, below_kept, text_moved, text_apart, apart_still, all_still}
use Rattle.act_tree.proofs.Renewals.{renewed_in, renewed, renewing, stepped, step_at}
use Rattle.act_tree.proofs.Sound.{Text, laid_standing}
use Rattle.act_tree.proofs.Spots.{Spot, said, Alone, alone, alone_changed, local_in, nested_in}
use Rattle.act_tree.proofs.Standing.{stands_below, Among, among}
use Rattle.act_tree.proofs.TakingAway.{Sits, gone, gone_without, taken, text_taken, none_parts, step_there}
use Rattle.act_tree.proofs.Times.{times, times-append, none_times, once_few, between, next_between}

joined_assoc : (xs bs cs : Branches Provision) → joined (joined xs bs) cs ≡ joined xs (joined bs cs)
joined_assoc no_branches bs cs = refl
joined_assoc (more_branches a xs) bs cs = ap (more_branches a) (joined_assoc xs bs cs)

-- the number right behind a spot, with its branch
pub record Next (at : ℕ → Option Laid) (number : List ℕ → Option ℕ) (u x : ℕ) (back : List ℕ) (after : Branches Provision) : Type 0 where
  pub last : List ℕ
  pub says : Provision
  pub below : Branches Provision
  pub rest : Branches Provision
  pub list : back ≡ x ∷ last
  pub text : after ≡ more_branches (branch says below) rest
  pub stands : Stands at number u x (branch says below)
  pub rest_stand : StandAll at number u last rest

next_spot : (at : ℕ → Option Laid) (number : List ℕ → Option ℕ) (u x : ℕ) (back : List ℕ) (after : Branches Provision) → StandAll at number u back after → first_number back ≡ Some x → Next at number u x back after
next_spot at number u x [] after s first = absurd cc
next_spot at number u x (k ∷ ks) no_branches s first = absurd s
next_spot at number u x (k ∷ ks) (more_branches (branch p below) bs) s first =
    let it : k ≡ x = cc in
    let P : ℕ → Type 0 = λ j. Stands at number u j (branch p below) in
    record { last = ks; says = p; below = below; rest = bs; list = ap (λ j. j ∷ ks) it; text = refl; stands = subst P it s.0; rest_stand = s.1 }

-- a number i of the wId w, and the number x right behind it
pub record Follows (at : ℕ → Option Laid) (number : List ℕ → Option ℕ) (i x : ℕ) : Type 0 where
  pub it : Sits at number x
  pub above : above_in (at i) ≡ above_in (at x)
  pub listed : list_any (λ j. j == i) (below_in (at (above_in (at x)))) ≡ true
  pub behind : number_behind i (below_in (at (above_in (at x)))) ≡ Some x
  pub leads : number (provision_in (at i)).wid ≡ Some i
  pub other : i ≡ x → ⊥
  pub not_root : x ≡ 0 → ⊥
  pub not_zero : i ≡ 0 → ⊥

over_apart : (at : ℕ → Option Laid) (number : List ℕ → Option ℕ) (i x : ℕ) → Follows at number i x → i ≡ above_in (at x) → ⊥
over_apart at number i x f same =
    let u : ℕ = above_in (at x) in
    let never : list_any (λ l. l == u) (below_in (at u)) ≡ false = not_itself at number f.it.over f.it.siblings (above_in (at u)) u f.it.stands in
    let told : list_any (λ l. l == u) (below_in (at u)) ≡ true = sym (ap (λ k. list_any (λ l. l == k) (below_in (at u))) same) ∙ f.listed in
    cc

module _ (at : ℕ → Option Laid) (number : List ℕ → Option ℕ) (i x : ℕ) (f : Follows at number i x) (m : Spot at number (above_in (at x)) i (below_in (at (above_in (at x)))) f.it.siblings) where
  pub next_of_spot : Next at number (above_in (at x)) x m.back m.after
  next_of_spot =
      next_spot at number (above_in (at x)) x m.back m.after m.back_stand
      (sym (next_between i m.front m.back (between i m.front m.back (sym (ap number_twice m.list) ∙ f.it.once))) ∙ sym (ap (number_behind i) m.list) ∙ f.behind)

  -- what the two say, as the spots have it
  pub behind_says : (n : Next at number (above_in (at x)) x m.back m.after) (content : List ℕ) (refs : List (List ℕ)) → refs ≡ (provision_in (at i)).own.refs ++ (provision_in (at x)).own.refs
      → record (provision_in (at i)).own { content = content; refs = refs } ≡ record m.says.own { content = content; refs = m.says.own.refs ++ n.says.own.refs }
  behind_says n content refs are =
      ap (λ rs. record (provision_in (at i)).own { content = content; refs = rs }) are
      ∙ ap {B = Own} (λ (p : Provision). record p.own { content = content; refs = p.own.refs ++ (provision_in (at x)).own.refs }) (sym (said at number (above_in (at x)) i m.says m.below i m.stands refl))
      ∙ ap {B = Own} (λ (p : Provision). record m.says.own { content = content; refs = m.says.own.refs ++ p.own.refs }) (sym (said at number (above_in (at x)) x n.says n.below x n.stands refl))

-- the two keep their lists until the number is relisted
pub own_lists : (at one two : ℕ → Option Laid) (number : List ℕ → Option ℕ) (i x : ℕ) → Follows at number i x → IsTakenOff at one x → IsRelisted one two x (provision_in (one x)).own (below_in (one x)) [] []
    → below_in (at i) ++ below_in (at x) ≡ below_in (two i) ++ below_in (one x)
own_lists at one two number i x f j e =
    ap (λ ks. ks ++ below_in (at x)) (sym (lists_stay one two x (provision_in (one x)).own (below_in (one x)) [] [] e i f.other ∙ ap below_in (j.others i f.other (over_apart at number i x f))))
    ∙ ap (λ ks. below_in (two i) ++ ks) (sym (ap below_in j.here ∙ below_kept x (at x)))

module _ (at one two new : ℕ → Option Laid) (number : List ℕ → Option ℕ) (size : ℕ) (whole : IsWhole at number size) (empty : (k : ℕ) → size ≤ k → at k ≡ None) (i x : ℕ) (f : Follows at number i x)
    (m : Spot at number (above_in (at x)) i (below_in (at (above_in (at x)))) f.it.siblings) (n : Next at number (above_in (at x)) x m.back m.after) where
  abbrev u : ℕ
  u = above_in (at x)

  -- the spot of the next one
  abbrev nx : Spot at number u x (below_in (at u)) f.it.siblings
  nx = record {
    front = m.front ++ i ∷ [];
    back = n.last;
    before = joined m.before (more_branches (branch m.says m.below) no_branches);
    says = n.says;
    below = n.below;
    after = n.rest;
    list = m.list ∙ ap (λ ks. m.front ++ i ∷ ks) n.list ∙ sym (append_assoc m.front (i ∷ []) (x ∷ n.last));
    text = m.text ∙ ap (λ bs. joined m.before (more_branches (branch m.says m.below) bs)) n.text ∙ sym (joined_assoc m.before (more_branches (branch m.says m.below) no_branches) (more_branches (branch n.says n.below) n.rest));
    front_stand = stand_join at number u m.before (more_branches (branch m.says m.below) no_branches) m.front (i ∷ []) m.front_stand (m.stands, tt);
    stands = n.stands;
    back_stand = n.rest_stand;
  }

  mine : Alone m.before m.says m.below m.after
  mine = alone m.before m.says m.below m.after (sym (ap (λ bs. one_twice (all_wids bs)) m.text) ∙ f.it.unlike)

  its : Alone nx.before n.says n.below n.rest
  its = alone nx.before n.says n.below n.rest (sym (ap (λ bs. one_twice (all_wids bs)) nx.text) ∙ f.it.unlike)

  after_none : (any_holds m.says.wid (more_branches (branch n.says n.below) n.rest)) ≡ false
  after_none = sym (ap (any_holds m.says.wid) n.text) ∙ mine.none_after

  -- neither of the two is in the other, nor is the one above in them
  x_not_in_i : holds n.says.wid (branch m.says m.below) ≡ false
  x_not_in_i = none_left _ false (none_right _ _ (sym (any_holds-joined n.says.wid m.before (more_branches (branch m.says m.below) no_branches)) ∙ its.none_before))

  u_not_in_i : holds f.it.over.wid (branch m.says m.below) ≡ false
  u_not_in_i = none_left _ false (none_right _ _ (sym (any_holds-joined f.it.over.wid m.before (more_branches (branch m.says m.below) no_branches)) ∙ none_left _ _ (none_parts at number x f.it nx)))

  u_not_in_x : holds f.it.over.wid (branch n.says n.below) ≡ false
  u_not_in_x = none_left _ _ (none_right _ _ (none_parts at number x f.it nx))

  i_not_under_x : any_holds m.says.wid n.below ≡ false
  i_not_under_x = none_right _ _ (none_left _ _ after_none)

  -- the text without the next one
  abbrev root1 : Branch Provision
  root1 = renewed_in f.it.over.own (joined nx.before n.rest) f.it.over.wid (branch_from size at 0)

  x_gone : holds n.says.wid root1 ≡ false
  x_gone =
      let says : n.says ≡ provision_in (at x) = said at number u x n.says n.below x n.stands refl in
      let wid : n.says.wid ≡ (provision_in (at x)).wid = ap (λ (p : Provision). p.wid) says in
      let body : Branches Provision = branches_below size at (below_in (at 0)) in
      let not_root : bytes_eq (provision_in (at 0)).wid (provision_in (at x)).wid ≡ false = other_text (provision_in (at 0)).wid (provision_in (at x)).wid (λ same.
      let equal : Some 0 ≡ Some x = sym whole.stands.1.0 ∙ ap number same ∙ f.it.leads in
      let zero_is : 0 ≡ x = cc in
      f.not_root (sym zero_is)) in
      ap (λ v. holds v root1) wid
      ∙ ap (holds (provision_in (at x)).wid) (sym (step_there at number x f.it nx gone (branch_from size at 0) 0 0 whole.stands) ∙ ap (branch (provision_in (at 0))) (gone_without (provision_in (at x)).wid body))
      ∙ neither _ _ not_root (changes.none_left (provision_in (at x)).wid body)

  module _ (j : IsTakenOff at one x) (e : IsRelisted one two x (provision_in (one x)).own (below_in (one x)) [] []) where
    one_move : Move at one number u f.it.over.own (x ∷ []) [] (nx.front ++ nx.back) f.it.over f.it.siblings (joined nx.before n.rest)
    one_move = taken at one number size whole empty x f.it nx j

    text1 : Text one number size root1
    text1 = text_taken at one number size whole empty x f.it nx j

    x_on_one : Stands one number (above_in (one x)) x (branch n.says n.below)
    x_on_one = apart_still one_move (branch n.says n.below) u x n.stands u_not_in_x

    i_on_one : Stands one number (above_in (one i)) i (branch m.says m.below)
    i_on_one = apart_still one_move (branch m.says m.below) u i m.stands u_not_in_i

    abbrev list_x : List ℕ
    list_x = below_in (one x)

    -- the next one lets those below it go
    two_move : Move one two number x (provision_in (one x)).own list_x [] [] n.says n.below no_branches
    two_move = record {
      relisted = e;
      swaps = record {
        there = (_, x_on_one.0);
        balance = λ k. omega arith;
        fewer = λ k. omega arith;
        fresh = λ k. omega (arith, once_few list_x k (text1.sound.once x));
        not_gone = not_itself one number n.says n.below (above_in (one x)) x x_on_one;
        not_come = refl;
      };
      stands = x_on_one;
      off = λ k never. absurd cc;
      each = tt;
    }

    text2 : Text two number size root1
    text2 = text_apart two_move (text1.sound.nums x) refl x_gone text1

    i_on_two : Stands two number (above_in (two i)) i (branch m.says m.below)
    i_on_two = apart_still two_move (branch m.says m.below) (above_in (one i)) i i_on_one x_not_in_i

    x_above : (k : ℕ) → list_any (λ l. l == k) list_x ≡ true → (above_in (one k) ≡ x) × (above_in (two k) ≡ k)
    x_above k found =
        let child : Among one number x k n.below = among one number n.below x k list_x x_on_one.1.1 found in
        let here : (y : Laid) × (one k ≡ Some y) = laid_standing one number child.it x k child.stands in
        (stands_below one number child.it x k child.stands, ap above_in (e.left k found) ∙ above_given k (one k) here.0 here.1)

    not_x : (k : ℕ) → (above_in (one k) ≡ x → ⊥) → list_any (λ l. l == k) list_x ≡ false
    not_x k other = elim (cases_Bool (list_any (λ l. l == k) list_x)) [ inl found ↦ absurd (other (x_above k found).0) | inr none ↦ none ]

    i_above : above_in (one i) ≡ u
    i_above = ap above_in (j.others i f.other (over_apart at number i x f)) ∙ f.above

    module _ (content : List ℕ) (own : Own) (own_is : own ≡ record m.says.own { content = content; refs = m.says.own.refs ++ n.says.own.refs }) (r : IsRelisted two new i own [] list_x (below_in (two i) ++ list_x)) where
      -- and the number takes them in
      new_move : Move two new number i own [] list_x (below_in (two i) ++ list_x) m.says m.below (joined m.below n.below)
      new_move = record {
        relisted = r;
        swaps = record {
          there = (_, i_on_two.0);
          balance = λ k. omega (arith, times-append k (below_in (two i)) list_x);
          fewer = λ k. omega arith;
          fresh = λ k.
              let few : times k (below_in (two i)) ≤ 1 = once_few (below_in (two i)) k (text2.sound.once i) in
              let less : times k list_x ≤ 1 = once_few list_x k (text1.sound.once x) in
              elim (cases_Bool (list_any (λ l. l == k) (below_in (two i)))) [
                | inl found ↦ (let none : times k list_x ≡ 0 = none_times k list_x (not_x k (λ up. f.other (sym (i_child k found) ∙ up))) in omega arith)
                | inr none ↦ (let zero_times : times k (below_in (two i)) ≡ 0 = none_times k (below_in (two i)) none in omega arith)
              ];
          not_gone = refl;
          not_come = not_x i (λ up. f.it.apart (sym i_above ∙ up));
        };
        stands = i_on_two;
        off = λ k found. inl (x_above k found).1;
        each = each_joined (Apart two number m.says.wid) (below_in (two i)) list_x m.below n.below
            (each_apart two number m.says.wid i (below_in (two i)) m.below i_on_two.1.1 (not_beneath two number m.says m.below (above_in (two i)) i i_on_two))
            (all_still two_move _ list_x n.below (each_apart one number m.says.wid x list_x n.below x_on_one.1.1 i_not_under_x) its.none_below);
      }
        where
          i_child : (k : ℕ) → list_any (λ l. l == k) (below_in (two i)) ≡ true → above_in (one k) ≡ i
          i_child k found =
              let same : below_in (two i) ≡ below_in (one i) = lists_stay one two x (provision_in (one x)).own list_x [] [] e i f.other in
              let child : Among one number i k m.below = among one number m.below i k (below_in (one i)) i_on_one.1.1 (sym (ap (list_any (λ l. l == k)) same) ∙ found) in
              stands_below one number child.it i k child.stands

      -- the text is merged
      merged_text : renewed_in own (joined m.below n.below) m.says.wid root1 ≡ inside_changed (merged content) (provision_in (at i)).wid (branch_from size at 0)
      merged_text =
          let b : Branch Provision = branch m.says m.below in
          let root : Branch Provision = branch_from size at 0 in
          let both : Branches Provision = joined m.below n.below in
          let says : m.says ≡ provision_in (at i) = said at number u i m.says m.below i m.stands refl in
          let wid : m.says.wid ≡ (provision_in (at i)).wid = ap (λ (p : Provision). p.wid) says in
          let leads : number m.says.wid ≡ Some i = ap number wid ∙ f.leads in
          let left : joined nx.before n.rest ≡ joined m.before (more_branches b n.rest) = joined_assoc m.before (more_branches b no_branches) n.rest in
          let new_list : renewed own both m.says.wid (joined nx.before n.rest) ≡ joined m.before (more_branches (branch (record m.says { own = own }) both) n.rest) =
          ap (renewed own both m.says.wid) left ∙ stepped own both m.says.wid (joined m.before (more_branches b n.rest))
          ∙ step_at (renewing own both) m.says.wid m.before m.says m.below n.rest mine.none_before (equal_text m.says.wid m.says.wid refl) mine.none_below (none_right _ _ after_none) in
          let after_is : changed (merged content) m.says.wid f.it.siblings ≡ joined m.before (more_branches (branch (record m.says { own = own }) both) n.rest) =
          ap (changed (merged content) m.says.wid) m.text ∙ alone_changed (merged content) m.before m.says m.below m.after mine
          ∙ ap (λ bs. joined m.before (merged content b bs)) n.text
          ∙ ap (λ (o : Own). joined m.before (more_branches (branch (record m.says { own = o }) both) n.rest)) (sym own_is) in
          nested_in at number u i f.it.over f.it.siblings f.it.stands m.says.wid leads f.above (λ same. over_apart at number i x f (sym same)) own (joined nx.before n.rest) both root 0 0 whole.stands (λ zero_is. f.not_zero (sym zero_is))
          ∙ ap (λ bs. renewed_in f.it.over.own bs f.it.over.wid root) (new_list ∙ sym after_is)
          ∙ local_in at number u i f.it.over f.it.siblings f.it.stands m.says.wid leads f.above (merged content) root 0 0 whole.stands
          ∙ ap (λ v. inside_changed (merged content) v root) wid

      pub text_merged : Text new number size (branch (provision_in (at 0)) (changed (merged content) (provision_in (at i)).wid (branches_below size at (below_in (at 0)))))
      text_merged =
          let P : Branch Provision → Type 0 = λ b. Text new number size b in
          subst P merged_text (text_moved new_move (ap (λ (o : Own). is_num o.num) own_is ∙ sym (ap (λ o. is_num (provision_in o).own.num) i_on_two.0) ∙ text2.sound.nums i)
          (not_x 0 (λ up. f.not_root (sym up ∙ stands_below one number root1 0 0 text1.stands))) text2)
