-- A number is parted: a new one is laid down, gets the last of those below the number, and is listed right behind it.
use Rattle.std.proofs.Common.{◌≡◌, ◌∙◌, sym, ap, refl, subst, ℕ, zero, suc, ◌+◌, ◌<◌, ◌≤◌, ◌==◌, true, false, cond, ◌||◌, List, [], ◌∷◌, ◌++◌, take, drop, Option, Some, inl, inr, arith}
use Rattle.std.specs.List.{list_any}
use Rattle.std.specs.Str.{bytes_eq}
use Rattle.std.proofs.lemmas.Bool.{cases_Bool, eqb-true}
use Rattle.eid_paths.specs.Nums.{is_num}
use Rattle.act_tree.specs.declared.arena.Arena.{Arena}
use Rattle.act_tree.specs.Branches.{Branch, Branches, branch, no_branches, more_branches}
use Rattle.act_tree.specs.Provisions.{Own, Provision}
use Rattle.act_tree.specs.Changes.{Step, changed, inside_changed, joined, parted, first, behind, holds, any_holds}
use Rattle.act_tree.specs.Arena.{Laid, provision_in, above_in, below_in, branch_from, number_twice, Stands, StandAll, IsWhole}
use Rattle.act_tree.specs.Relisted.{IsRelisted}
use Rattle.act_tree.specs.Siblings.{put_behind}
use Rattle.act_tree.specs.Planted.{Each, HasGrown}
use Rattle.act_tree.specs.Parted.{IsParted}
use Rattle.act_tree.specs.Slots.{at, number, size}
use Rattle.act_tree.specs.Wids.{all_wids, one_twice}
use Rattle.act_tree.proofs.Texts.{equal_text, other_text, same_text, bytes_eq_sym}
use Rattle.act_tree.proofs.Frames.{or_left, or_right, none_left, none_right, neither, put_down}
use Rattle.act_tree.proofs.GraftedTrees.{AreFresh, body_of, fresh_one, still, text_still}
use Rattle.act_tree.proofs.Grown.{grown_added}
use Rattle.act_tree.proofs.LaidDown.{laid_within}
use Rattle.act_tree.proofs.PutIn.{not_beneath, any_holds-joined}
use Rattle.act_tree.proofs.Relistings.{Apart, Move, not_itself, each_joined, each_first, each_behind, each_apart, lists_stay, says_stay, above_given, stands_renewed, text_moved, text_apart, apart_still, all_still, it_moved}
use Rattle.act_tree.proofs.Renewals.{renewed_in, renewed, renewing, renewed_root, none_in, again_in}
use Rattle.act_tree.proofs.Sound.{Text, laid_standing}
use Rattle.act_tree.proofs.Spots.{Spot, spot, said, Alone, alone, alone_changed, local_in}
use Rattle.act_tree.proofs.Standing.{stands_below, Among, among}
use Rattle.act_tree.proofs.TakingAway.{Sits}
use Rattle.act_tree.proofs.Times.{one_if, times, times-append, times-parts, named_times, none_times, times_named, times_none, once_few, only_one, not_this, between, put_between}
use Rattle.act_tree.proofs.TreeNodes.{is_in-holds}

first-behind : (n : ℕ) (bs : Branches Provision) → joined (first n bs) (behind n bs) ≡ bs
first-behind zero bs = refl
first-behind (suc n) no_branches = refl
first-behind (suc n) (more_branches b bs) = ap (more_branches b) (first-behind n bs)

-- a wId that is not in branches is in neither part of them
none_first : (w : List ℕ) (n : ℕ) (bs : Branches Provision) → any_holds w bs ≡ false → (any_holds w (first n bs) ≡ false) × (any_holds w (behind n bs) ≡ false)
none_first w n bs none =
    let parts : (any_holds w (first n bs) || any_holds w (behind n bs)) ≡ false = sym (any_holds-joined w (first n bs) (behind n bs)) ∙ ap (any_holds w) (first-behind n bs) ∙ none in
    (none_left _ _ parts, none_right (any_holds w (first n bs)) _ parts)

-- a number that stands below another one was parted: a new number was laid down; those below the number from a place on left it, and it says something else; then they came below the new one; and that came below the other one
pub record Setting (old new : Arena) (i place : ℕ) (head : List ℕ) (second : Provision) (moved : List ℕ) : Type 0 where
  pub parts : IsParted old new i place head second moved
  pub are : moved ≡ drop place (below_in (at old i))
  pub whole : IsWhole (at old) (number old) (size old)
  pub it : Sits (at old) (number old) i
  pub not_zero : i ≡ 0 → ⊥
  pub inside : (v : List ℕ) → holds v (branch it.over it.siblings) ≡ true → holds v (branch_from (size old) (at old) 0) ≡ true
  pub free : holds second.wid (branch_from (size old) (at old) 0) ≡ false
  pub num : is_num second.own.num ≡ true

module _ (old new : Arena) (i place : ℕ) (head : List ℕ) (second : Provision) (moved : List ℕ) (f : Setting old new i place head second moved) where
  abbrev p : IsParted old new i place head second moved
  p = f.parts

  abbrev it : Sits (at old) (number old) i
  it = f.it

  abbrev one : Arena
  one = f.parts.added

  abbrev two : Arena
  two = f.parts.given.kept

  abbrev three : Arena
  three = f.parts.given.had

  abbrev after : List ℕ → Option ℕ
  after = number f.parts.added

  abbrev n : ℕ
  n = size old

  abbrev u : ℕ
  u = above_in (at old i)

  abbrev root : Branch Provision
  root = branch_from (size old) (at old) 0

  fresh : AreFresh old (second.wid ∷ [])
  fresh = fresh_one old second.wid (is_in-holds (at old) (number old) n f.whole second.wid ∙ f.free)

  grown : HasGrown old one (second.wid ∷ [])
  grown = grown_added old one second p.adds f.num

  text1 : Text (at one) after (size one) root
  text1 = text_still old one (second.wid ∷ []) f.whole fresh grown

  u_low : u < n
  u_low = laid_within old.slots.items u _ it.stands.0

  u_one : at one u ≡ at old u
  u_one = grown.kept u u_low

  -- the number above stands beside the new one, with all that is below it
  over_one : Stands (at one) after (above_in (at one u)) u (branch it.over it.siblings)
  over_one =
      let P : ℕ → Type 0 = λ v. Stands (at one) after v u (branch it.over it.siblings) in
      subst P (sym (ap above_in u_one)) (still old one (second.wid ∷ []) f.whole fresh grown (branch it.over it.siblings) (above_in (at old u)) u it.stands f.inside)

  second_one : Stands (at one) after n n (branch second no_branches)
  second_one =
      put_down (at one) after n n second [] no_branches p.adds.here (p.adds.numbers second.wid ∙ ap (λ t. cond t (Some n) (number old second.wid)) (equal_text second.wid second.wid refl)) tt

  free_siblings : any_holds second.wid it.siblings ≡ false
  free_siblings = elim (cases_Bool (any_holds second.wid it.siblings)) [
    | inl held ↦ absurd (let told : holds second.wid root ≡ true = f.inside second.wid (or_right (bytes_eq it.over.wid second.wid) _ held) in cc)
    | inr none ↦ none
  ]

  over_free : bytes_eq second.wid it.over.wid ≡ false
  over_free = elim (cases_Bool (bytes_eq second.wid it.over.wid)) [
    | inl same ↦ absurd (let told : holds second.wid root ≡ true = f.inside second.wid (or_left _ _ (equal_text it.over.wid second.wid (sym (same_text second.wid it.over.wid same)))) in cc)
    | inr none ↦ none
  ]

  module _ (m : Spot (at one) after u i (below_in (at old u)) it.siblings) where
    abbrev w : List ℕ
    w = m.says.wid

    abbrev own1 : Own
    own1 = record (provision_in (at one i)).own { content = head }

    abbrev list_i : List ℕ
    list_i = below_in (at one i)

    mine : Alone m.before m.says m.below m.after
    mine = alone m.before m.says m.below m.after (sym (ap (λ bs. one_twice (all_wids bs)) m.text) ∙ it.unlike)

    -- what is known of a wId that is not among the siblings
    record Off (v : List ℕ) : Type 0 where
      pub before : any_holds v m.before ≡ false
      pub here : holds v (branch m.says m.below) ≡ false
      pub after : any_holds v m.after ≡ false

    off : (v : List ℕ) → any_holds v it.siblings ≡ false → Off v
    off v none =
        let parts : (any_holds v m.before || any_holds v (more_branches (branch m.says m.below) m.after)) ≡ false =
        sym (any_holds-joined v m.before (more_branches (branch m.says m.below) m.after)) ∙ sym (ap (any_holds v) m.text) ∙ none in
        let rest : (holds v (branch m.says m.below) || any_holds v m.after) ≡ false = none_right (any_holds v m.before) _ parts in
        record { before = none_left _ _ parts; here = none_left _ _ rest; after = none_right (holds v (branch m.says m.below)) _ rest }

    off_second : Off second.wid
    off_second = off second.wid free_siblings

    off_over : Off it.over.wid
    off_over = off it.over.wid (not_beneath (at one) after it.over it.siblings (above_in (at one u)) u over_one)

    i_one : Stands (at one) after (above_in (at one i)) i (branch m.says m.below)
    i_one = let P : ℕ → Type 0 = λ v. Stands (at one) after v i (branch m.says m.below) in subst P (sym (stands_below (at one) after (branch m.says m.below) u i m.stands)) m.stands

    second_apart : holds w (branch second no_branches) ≡ false
    second_apart = neither (bytes_eq second.wid w) false (other_text second.wid w (λ same. let never : bytes_eq m.says.wid second.wid ≡ false = none_left _ _ off_second.here in let told : bytes_eq m.says.wid second.wid ≡ true = equal_text w second.wid (sym same) in cc)) refl

    -- what is below the number, in its place among them
    i_child : (k : ℕ) → 1 ≤ times k list_i → (above_in (at one k) ≡ i) × ((x : Laid) × (at one k ≡ Some x))
    i_child k some =
        let child : Among (at one) after i k m.below = among (at one) after m.below i k list_i i_one.1.1 (times_named k list_i some) in
        (stands_below (at one) after child.it i k child.stands, laid_standing (at one) after child.it i k child.stands)

    n_not_i : n ≡ i → ⊥
    n_not_i same =
        let says : m.says ≡ second = sym (ap provision_in m.stands.0) ∙ ap (λ k. provision_in (at one k)) (sym same) ∙ ap provision_in p.adds.here in
        let told : bytes_eq second.wid w ≡ true = equal_text second.wid w (ap (λ (o : Provision). o.wid) (sym says)) in
        let never : bytes_eq second.wid w ≡ false = none_left _ false second_apart in
        cc

    at_i : at one i ≡ at old i
    at_i = p.adds.others i (λ same. n_not_i (sym same))

    are : moved ≡ drop place list_i
    are = f.are ∙ sym (ap (λ o. drop place (below_in o)) at_i)

    all_moved : (k : ℕ) → times k (take place list_i) + times k moved ≡ times k list_i
    all_moved k = omega (arith, times-parts k place list_i, ap (times k) are)

    -- those from a place on leave the number
    two_move : Move (at one) (at two) after i own1 moved [] (take place list_i) m.says m.below (first place m.below)
    two_move =
        let zero_times : times i list_i ≡ 0 = none_times i list_i (not_itself (at one) after m.says m.below (above_in (at one i)) i i_one) in
        record {
          relisted = p.given.cut;
          swaps = record {
            there = (_, i_one.0);
            balance = λ k. omega (arith, all_moved k);
            fewer = λ k. omega (arith, all_moved k);
            fresh = λ k. omega (arith, once_few list_i k (text1.sound.once i));
            not_gone = times_none i moved (omega (arith, all_moved i));
            not_come = refl;
          };
          stands = i_one;
          off = λ k never. absurd cc;
          each = each_first (Apart (at one) after w) place list_i m.below (each_apart (at one) after w i list_i m.below i_one.1.1 mine.none_below);
        }

    abbrev text2 : Branch Provision
    text2 = renewed_in own1 (first place m.below) w root

    text_two : Text (at two) after (size one) text2
    text_two = text_moved two_move (text1.sound.nums i) refl text1

    abbrev b1 : Branch Provision
    b1 = branch (record m.says { own = own1 }) (first place m.below)

    second_two : Stands (at two) after (above_in (at two n)) n (branch second no_branches)
    second_two = apart_still two_move (branch second no_branches) n n second_one second_apart

    moved_child : (k : ℕ) → list_any (λ l. l == k) moved ≡ true → (above_in (at one k) ≡ i) × ((x : Laid) × (at one k ≡ Some x))
    moved_child k found = i_child k (omega (arith, named_times k moved found, all_moved k))

    moved_own : (k : ℕ) → list_any (λ l. l == k) moved ≡ true → above_in (at two k) ≡ k
    moved_own k found = let child : (above_in (at one k) ≡ i) × ((x : Laid) × (at one k ≡ Some x)) = moved_child k found in ap above_in (p.given.cut.left k found) ∙ above_given k (at one k) child.1.0 child.1.1

    not_moved : (k : ℕ) → (above_in (at one k) ≡ i → ⊥) → list_any (λ l. l == k) moved ≡ false
    not_moved k other = elim (cases_Bool (list_any (λ l. l == k) moved)) [ inl found ↦ absurd (other (moved_child k found).0) | inr none ↦ none ]

    n_unmoved : list_any (λ l. l == n) moved ≡ false
    n_unmoved = not_moved n (λ up. n_not_i (sym (ap above_in p.adds.here) ∙ up))

    n_list : below_in (at two n) ≡ []
    n_list = lists_stay (at one) (at two) i own1 moved [] (take place list_i) p.given.cut n n_not_i ∙ ap below_in p.adds.here

    -- they come below the new one
    three_move : Move (at two) (at three) after n (provision_in (at two n)).own [] moved moved second no_branches (behind place m.below)
    three_move =
        let Q : List ℕ → Type 0 = λ ks. Each (Apart (at one) after second.wid) ks (behind place m.below) in
        record {
          relisted = p.given.given;
          swaps = record {
            there = (_, second_two.0);
            balance = λ k. omega (arith, ap (times k) n_list);
            fewer = λ k. omega arith;
            fresh = λ k. omega (arith, ap (times k) n_list, all_moved k, once_few list_i k (text1.sound.once i));
            not_gone = refl;
            not_come = n_unmoved;
          };
          stands = second_two;
          off = λ k found. inl (moved_own k found);
          each = all_still two_move _ moved (behind place m.below)
              (subst Q (sym are) (each_behind (Apart (at one) after second.wid) place list_i m.below (each_apart (at one) after second.wid i list_i m.below i_one.1.1 (none_right (bytes_eq m.says.wid second.wid) _ off_second.here))))
              (none_first w place m.below mine.none_below).1;
        }

    free_first : any_holds second.wid (first place m.below) ≡ false
    free_first = (none_first second.wid place m.below (none_right (bytes_eq m.says.wid second.wid) _ off_second.here)).0

    free_b1 : holds second.wid b1 ≡ false
    free_b1 = neither (bytes_eq m.says.wid second.wid) _ (none_left _ _ off_second.here) free_first

    text_three : Text (at three) after (size one) text2
    text_three =
        text_apart three_move (text_two.sound.nums n) (not_moved 0 (λ up. f.not_zero (sym up ∙ stands_below (at one) after root 0 0 text1.stands)))
        (none_in own1 (first place m.below) w second.wid root free_first f.free) text_two

    second_three : Stands (at three) after (above_in (at three n)) n (branch second (behind place m.below))
    second_three =
        let P : Own → Type 0 = λ o. Stands (at three) after (above_in (at three n)) n (branch (record second { own = o }) (behind place m.below)) in
        subst P (ap (λ (o : Provision). o.own) (ap provision_in second_two.0)) (it_moved three_move)

    -- the number above stands still, and those below it stand there
    over_two : Stands (at three) after (above_in (at three u)) u (renewed_in own1 (first place m.below) w (branch it.over it.siblings))
    over_two =
        apart_still three_move (renewed_in own1 (first place m.below) w (branch it.over it.siblings)) (above_in (at two u)) u
        (stands_renewed (at one) (at two) i own1 moved [] (take place list_i) p.given.cut two_move.swaps after m.says m.below i_one two_move.off (first place m.below) two_move.each (branch it.over it.siblings) (above_in (at one u)) u over_one)
        (none_in own1 (first place m.below) w second.wid (branch it.over it.siblings) free_first (neither (bytes_eq it.over.wid second.wid) _ (bytes_eq_sym it.over.wid second.wid ∙ over_free) free_siblings))

    u_not_w : bytes_eq it.over.wid w ≡ false
    u_not_w = other_text it.over.wid w (λ same. (let told : bytes_eq m.says.wid it.over.wid ≡ true = equal_text w it.over.wid (sym same) in let never : bytes_eq m.says.wid it.over.wid ≡ false = none_left _ _ off_over.here in cc))

    list_three : below_in (at three u) ≡ below_in (at old u)
    list_three = lists_stay (at two) (at three) n (provision_in (at two n)).own [] moved moved p.given.given u (λ same. omega (arith, u_low, same))
        ∙ lists_stay (at one) (at two) i own1 moved [] (take place list_i) p.given.cut u (λ same. it.apart same) ∙ ap below_in u_one

    n_unlisted : times n (below_in (at old u)) ≡ 0
    n_unlisted = none_times n (below_in (at old u)) (elim (cases_Bool (list_any (λ l. l == n) (below_in (at old u)))) [
      | inl found ↦ absurd (
          let child : Among (at old) (number old) u n it.siblings = among (at old) (number old) it.siblings u n (below_in (at old u)) it.stands.1.1 found in
          let here : (x : Laid) × (at old n ≡ Some x) = laid_standing (at old) (number old) child.it u n child.stands in
          let low : n < n = laid_within old.slots.items n here.0 here.1 in
          omega arith)
      | inr none ↦ none
    ])

    -- two siblings that are not the number, nor in it, stand as they stood
    beside : (ks : List ℕ) (bs : Branches Provision) → StandAll (at one) after u ks bs → any_holds it.over.wid bs ≡ false → any_holds w bs ≡ false → any_holds second.wid bs ≡ false → Each (Apart (at three) after it.over.wid) ks bs
    beside ks bs s none_over none_w none_second = all_still three_move _ ks bs (all_still two_move _ ks bs (each_apart (at one) after it.over.wid u ks bs s none_over) none_w) none_second

    abbrev list4 : List ℕ
    list4 = m.front ++ i ∷ n ∷ m.back

    abbrev new4 : Branches Provision
    new4 = joined m.before (more_branches b1 (more_branches (branch second (behind place m.below)) m.after))

    listed : IsRelisted (at three) (at new) u (provision_in (at three u)).own [] (n ∷ []) list4
    listed =
        let P : List ℕ → Type 0 = λ ks. IsRelisted (at three) (at new) u (provision_in (at three u)).own [] (n ∷ []) ks in
        subst P (ap (put_behind i n) m.list ∙ put_between i n m.front m.back (between i m.front m.back (sym (ap number_twice m.list) ∙ it.once))) p.given.listed

    -- the new one comes right behind the number
    new_move : Move (at three) (at new) after u (provision_in (at three u)).own [] (n ∷ []) list4 it.over (renewed own1 (first place m.below) w it.siblings) new4
    new_move =
        let all : (k : ℕ) → times k (below_in (at old u)) ≡ times k (m.front ++ i ∷ m.back) = λ k. ap (times k) m.list in
        let P : Branch Provision → Type 0 = λ b. Stands (at three) after (above_in (at three u)) u b in
        let none_b1 : holds it.over.wid b1 ≡ false = neither (bytes_eq m.says.wid it.over.wid) _ (none_left _ _ off_over.here) (none_first it.over.wid place m.below (none_right (bytes_eq m.says.wid it.over.wid) _ off_over.here)).0 in
        let none_second : holds it.over.wid (branch second (behind place m.below)) ≡ false = neither (bytes_eq second.wid it.over.wid) _ over_free (none_first it.over.wid place m.below (none_right (bytes_eq m.says.wid it.over.wid) _ off_over.here)).1 in
        record {
          relisted = listed;
          swaps = record {
            there = (_, over_two_is.0);
            balance = λ k. omega (arith, ap (times k) list_three, all k, times-append k m.front (i ∷ n ∷ m.back), times-append k m.front (i ∷ m.back));
            fewer = λ k. omega arith;
            fresh = λ k. elim (cases_Bool (n == k)) [
              | inl same ↦ (let is : n ≡ k = eqb-true n k same in let none : times k (below_in (at old u)) ≡ 0 = ap (λ l. times l (below_in (at old u))) (sym is) ∙ n_unlisted in let one_time : one_if (n == k) ≡ 1 = ap one_if same in omega (arith, ap (times k) list_three))
              | inr other ↦ (let none : one_if (n == k) ≡ 0 = ap one_if other in omega (arith, ap (times k) list_three, once_few (below_in (at old u)) k it.once))
            ];
            not_gone = refl;
            not_come = not_this n u (λ same. omega (arith, u_low, same));
          };
          stands = over_two_is;
          off = λ k found. inl (let same : n ≡ k = only_one n k found in ap (λ j. above_in (at three j)) (sym same) ∙ n_above ∙ same);
          each = each_joined (Apart (at three) after it.over.wid) m.front (i ∷ n ∷ m.back) m.before _ (beside m.front m.before m.front_stand off_over.before mine.none_before off_second.before)
              ((apart_still three_move b1 (above_in (at two i)) i (it_moved two_move) free_b1, none_b1), ((second_three, none_second), beside m.back m.after m.back_stand off_over.after mine.none_after off_second.after));
        }
      where
        over_two_is : Stands (at three) after (above_in (at three u)) u (branch it.over (renewed own1 (first place m.below) w it.siblings))
        over_two_is =
            let P : Branch Provision → Type 0 = λ b. Stands (at three) after (above_in (at three u)) u b in
            subst P (ap (λ t. cond t (branch (record it.over { own = own1 }) (first place m.below)) (branch it.over (renewed own1 (first place m.below) w it.siblings))) u_not_w) over_two

        n_above : above_in (at three n) ≡ n
        n_above = ap above_in p.given.given.here ∙ ap above_in (p.given.cut.others n n_not_i n_unmoved refl) ∙ ap above_in p.adds.here

    -- the text is parted
    text4 : renewed_in it.over.own new4 it.over.wid text2 ≡ inside_changed (parted place head second) (provision_in (at old i)).wid root
    text4 =
        let says : m.says ≡ provision_in (at one i) = said (at one) after u i m.says m.below i m.stands refl in
        let wid : w ≡ (provision_in (at old i)).wid = ap (λ (o : Provision). o.wid) (says ∙ ap provision_in at_i) in
        let own_is : own1 ≡ record m.says.own { content = head } = ap {B = Own} (λ (o : Provision). record o.own { content = head }) (sym says) in
        let up : above_in (at one i) ≡ u = stands_below (at one) after (branch m.says m.below) u i m.stands in
        let leads : after w ≡ Some i = m.stands.1.0 in
        let not_root : bytes_eq (provision_in (at old 0)).wid w ≡ false = other_text (provision_in (at old 0)).wid w (λ same. let equal : Some 0 ≡ Some i = sym text1.stands.1.0 ∙ ap after same ∙ leads in let zero_is : 0 ≡ i = cc in f.not_zero (sym zero_is)) in
        let to_list : (step : Step) → inside_changed step w root ≡ renewed_in it.over.own (joined m.before (step (branch m.says m.below) m.after)) it.over.wid root = λ step.
        sym (local_in (at one) after u i it.over it.siblings over_one w leads up step root 0 0 text1.stands)
        ∙ ap (λ bs. renewed_in it.over.own bs it.over.wid root) (ap (changed step w) m.text ∙ alone_changed step m.before m.says m.below m.after mine) in
        ap (renewed_in it.over.own new4 it.over.wid) (renewed_root own1 (first place m.below) w (provision_in (at old 0)) (body_of old) not_root ∙ to_list (renewing own1 (first place m.below)))
        ∙ again_in it.over.own it.over.own (joined m.before (more_branches b1 m.after)) new4 it.over.wid root
        ∙ ap (λ (o : Own). renewed_in it.over.own (joined m.before (more_branches (branch (record m.says { own = o }) (first place m.below)) (more_branches (branch second (behind place m.below)) m.after))) it.over.wid root) own_is
        ∙ sym (to_list (parted place head second))
        ∙ ap (λ v. inside_changed (parted place head second) v root) wid

    text_four : Text (at new) after (size one) (branch (provision_in (at old 0)) (changed (parted place head second) (provision_in (at old i)).wid (body_of old)))
    text_four =
        let P : Branch Provision → Type 0 = λ b. Text (at new) after (size one) b in
        let Q : Own → Type 0 = λ o. Text (at new) after (size one) (renewed_in o new4 it.over.wid text2) in
        let own_u : (provision_in (at three u)).own ≡ it.over.own = ap (λ (o : Provision). o.own) (says_stay (at two) (at three) n (provision_in (at two n)).own [] moved moved p.given.given u (λ same. omega (arith, u_low, same))
        ∙ says_stay (at one) (at two) i own1 moved [] (take place list_i) p.given.cut u (λ same. it.apart same) ∙ ap provision_in over_one.0) in
        let first_other : list_any (λ l. l == 0) (n ∷ []) ≡ false = not_this n 0 (λ same. let some : 0 < n = laid_within old.slots.items 0 _ f.whole.stands.0 in omega arith) in
        subst P text4 (subst Q own_u (text_moved new_move (text_three.sound.nums u) first_other text_three))

  pub text_parted : Text (at new) after (size one) (branch (provision_in (at old 0)) (changed (parted place head second) (provision_in (at old i)).wid (body_of old)))
  text_parted =
      let P : List ℕ → Type 0 = λ ks. StandAll (at one) after u ks it.siblings in
      text_four (spot (at one) after u i (below_in (at old u)) it.siblings (subst P (ap below_in u_one) over_one.1.1) it.listed)
