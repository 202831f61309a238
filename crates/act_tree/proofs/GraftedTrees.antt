-- An arena after branches were put into it, or after that failed.
use Rattle.std.proofs.Common.{◌≡◌, ◌∙◌, sym, ap, refl, subst, ℕ, zero, suc, ◌<◌, ◌≤◌, ◌==◌, true, false, not, ◌||◌, ◌&&◌, List, [], ◌∷◌, ◌++◌, take, drop, Option, Some, None, inl, inr, arith}
use Rattle.std.specs.List.{list_any}
use Rattle.std.specs.Str.{bytes_eq}
use Rattle.std.proofs.lemmas.Bool.{cases_Bool, cases_eq, or_cases, and_parts, and_from}
use Rattle.eid_paths.specs.Nums.{is_num}
use Rattle.act_tree.specs.declared.arena.Arena.{Arena}
use Rattle.act_tree.specs.Branches.{Branch, Branches, branch}
use Rattle.act_tree.specs.Provisions.{Own, Provision}
use Rattle.act_tree.specs.Changes.{first, behind, joined, put_in, grafted, is_in, root_wid, holds, any_holds}
use Rattle.act_tree.specs.Arena.{Laid, provision_in, above_in, below_in, branches_below, branch_from, climbs, hangs_on, Stands, StandAll, IsWhole}
use Rattle.act_tree.specs.Grafted.{put_numbers, IsGrafted}
use Rattle.act_tree.specs.Planted.{Each, HasGrown}
use Rattle.act_tree.specs.Slots.{at, own_at, number, size}
use Rattle.act_tree.specs.Wids.{all_wids, is_among, one_twice}
use Rattle.act_tree.proofs.Texts.{equal_text, same_text}
use Rattle.act_tree.proofs.Frames.{or_left, or_right, still_stands}
use Rattle.act_tree.proofs.Building.{Holds, held}
use Rattle.act_tree.proofs.Climbing.{climbs_more}
use Rattle.act_tree.proofs.Growing.{not_laid}
use Rattle.act_tree.proofs.LaidDown.{laid_past, laid_within}
use Rattle.act_tree.proofs.PutIn.{wids_held, all_wids_held, not_beneath}
use Rattle.act_tree.proofs.Relistings.{Apart, Move, each_joined, each_first, each_behind, each_apart, each_alone, each_own, text_moved}
use Rattle.act_tree.proofs.Renewals.{renewed_in}
use Rattle.act_tree.proofs.Sound.{Text, text_of, laid_standing}
use Rattle.act_tree.proofs.Standing.{Among, among}
use Rattle.act_tree.proofs.Grown.{named_within}
use Rattle.act_tree.proofs.TakingAway.{grafted_as}
use Rattle.act_tree.proofs.Times.{times, times-put, none_times, once_few}
use Rattle.act_tree.proofs.TreeNodes.{node_stands, node_inside, node_laid}

-- the text below the root of an arena
abbrev pub body_of : Arena → Branches Provision
body_of a = branches_below (size a) (at a) (below_in (at a 0))

-- no wId of the text of an arena is among these, nor the root's
abbrev pub AreFresh : Arena → List (List ℕ) → Type 0
AreFresh a ws = (v : List ℕ) → is_among v (root_wid ∷ all_wids (body_of a)) ≡ true → is_among v ws ≡ false

pub fresh_one : (a : Arena) (w : List ℕ) → is_in w (body_of a) ≡ false → AreFresh a (w ∷ [])
fresh_one a w none v found =
    elim (cases_Bool (is_among v (w ∷ []))) [
      | inl same ↦ absurd (
          let equal : v ≡ w = only_text v w same in
          let told : is_among w (root_wid ∷ all_wids (body_of a)) ≡ true = ap (λ x. is_among x (root_wid ∷ all_wids (body_of a))) (sym equal) ∙ found in
          let never : is_among w (root_wid ∷ all_wids (body_of a)) ≡ false = ap (λ t. bytes_eq w root_wid || t) (all_wids_held w (body_of a)) ∙ none in
          cc)
      | inr other ↦ other
    ]
  where
    only_text : (u x : List ℕ) → is_among u (x ∷ []) ≡ true → u ≡ x
    only_text u x among = elim (or_cases (bytes_eq u x) false among) [ inl is ↦ same_text u x is | inr never ↦ absurd cc ]

-- an arena that holds another text, in which all nodes are left
pub record Regrown (old new : Arena) (body : Branches Provision) : Type 0 where
  pub holds : Holds new body
  pub nodes : (k : ℕ) → climbs (size old) (at old) k ≡ true → climbs (size new) (at new) k ≡ true
  pub says : (k : ℕ) → climbs (size old) (at old) k ≡ true → provision_in (at new k) ≡ provision_in (at old k)

pub held_there : (at : ℕ → Option Laid) (number : List ℕ → Option ℕ) (b : Branch Provision) (u i : ℕ) → Stands at number u i b → holds (provision_in (at i)).wid b ≡ true
held_there at number (branch p below) u i s = or_left _ _ (equal_text p.wid (provision_in (at i)).wid (sym (ap (λ o. (provision_in o).wid) s.0)))

-- where all that was there stays, what stood with wIds of the text still stands
module _ (old new : Arena) (ws : List (List ℕ)) (whole : IsWhole (at old) (number old) (size old)) (fresh : AreFresh old ws) (g : HasGrown old new ws) where
  is_fresh : (v : List ℕ) → holds v (branch_from (size old) (at old) 0) ≡ true → is_among v ws ≡ false
  is_fresh v held =
      fresh v (sym (ap (λ p. bytes_eq v p.wid || is_among v (all_wids (body_of old))) whole.root) ∙ wids_held v (branch_from (size old) (at old) 0) ∙ held)

  pub still : (b : Branch Provision) (u k : ℕ) → Stands (at old) (number old) u k b → ((v : List ℕ) → holds v b ≡ true → holds v (branch_from (size old) (at old) 0) ≡ true) → Stands (at new) (number new) u k b
  still b u k s inside = still_stands (at old) (at new) (number old) (number new) b u k (record {
    numbers = λ v found. g.numbers v (is_fresh v (inside v (sym (wids_held v b) ∙ found)));
    laid = λ j v found leads named. g.kept j (named_within old.slots.items j v named);
  }) s

  pub text_still : Text (at new) (number new) (size new) (branch_from (size old) (at old) 0)
  text_still = record {
    sound = g.sound (text_of (at old) (number old) (size old) whole (laid_past old.slots.items)).sound;
    stands = still (branch_from (size old) (at old) 0) 0 0 whole.stands (λ v among. among);
  }

-- the way up from a number that had one is the same
climbs_still : (at next : ℕ → Option Laid) → ((k : ℕ) (x : Laid) → at k ≡ Some x → (hangs_on k (next k) ≡ hangs_on k (at k)) × (above_in (next k) ≡ above_in (at k)))
    → (f k : ℕ) → climbs f at k ≡ true → climbs f next k ≡ true
climbs_still at next same zero k climbed = climbed
climbs_still at next same (suc f) k climbed =
    elim (or_cases (k == 0) (hangs_on k (at k) && climbs f at (above_in (at k))) climbed) [
      | inl root ↦ or_left _ _ root
      | inr further ↦
          let parts : (hangs_on k (at k) ≡ true) × (climbs f at (above_in (at k)) ≡ true) = and_parts _ _ further in
          let it : (x : Laid) × (at k ≡ Some x) = hangs_laid (at k) parts.0 in
          let is : (hangs_on k (next k) ≡ hangs_on k (at k)) × (above_in (next k) ≡ above_in (at k)) = same k it.0 it.1 in
          or_right (k == 0) _ (and_from _ _ (is.0 ∙ parts.0) (ap (climbs f next) is.1 ∙ climbs_still at next same f (above_in (at k)) parts.1))
    ]
  where
    hangs_laid : (o : Option Laid) → hangs_on k o ≡ true → (x : Laid) × (o ≡ Some x)
    hangs_laid None hangs = absurd cc
    hangs_laid (Some x) hangs = (x, refl)

-- branches were laid down and put among those below a node
module _ (old new : Arena) (i place : ℕ) (bs : Branches Provision) (whole : IsWhole (at old) (number old) (size old)) (climbed : climbs (size old) (at old) i ≡ true) (g : IsGrafted old new i place bs)
    (unlike : one_twice (all_wids bs) ≡ false) (fresh : AreFresh old (all_wids bs)) where
  abbrev mid : Arena
  mid = g.between

  abbrev w : List ℕ
  w = (provision_in (at old i)).wid

  abbrev under : Branches Provision
  under = branches_below (size old) (at old) (below_in (at old i))

  abbrev list : List ℕ
  list = put_numbers place g.ids (below_in (at old i))

  i_low : i < size old
  i_low = let here : (x : Laid) × (at old i ≡ Some x) = node_laid (at old) (number old) (size old) whole i climbed in laid_within old.slots.items i here.0 here.1

  kept_i : at mid i ≡ at old i
  kept_i = g.laid.grown.kept i i_low

  -- the node still stands where they were laid down
  stands_i : Stands (at mid) (number mid) (above_in (at mid i)) i (branch (provision_in (at old i)) under)
  stands_i =
      let P : ℕ → Type 0 = λ u. Stands (at mid) (number mid) u i (branch_from (size old) (at old) i) in
      subst P (sym (ap above_in kept_i))
      (still old mid (all_wids bs) whole fresh g.laid.grown (branch_from (size old) (at old) i) (above_in (at old i)) i (node_stands (at old) (number old) (size old) whole i climbed) (node_inside (at old) (number old) (size old) whole i climbed))

  new_stand : Each (λ k b. Stands (at mid) (number mid) k k b) g.ids bs
  new_stand = g.laid.stands unlike

  not_id : (k : ℕ) → k < size old → list_any (λ j. j == k) g.ids ≡ false
  not_id = not_laid old mid g.ids bs g.laid

  old_low : (k : ℕ) → list_any (λ j. j == k) (below_in (at old i)) ≡ true → k < size old
  old_low k found =
      let stands : Stands (at old) (number old) (above_in (at old i)) i (branch (provision_in (at old i)) under) = node_stands (at old) (number old) (size old) whole i climbed in
      let child : Among (at old) (number old) i k under = among (at old) (number old) under i k (below_in (at old i)) stands.1.1 found in
      let here : (x : Laid) × (at old k ≡ Some x) = laid_standing (at old) (number old) child.it i k child.stands in
      laid_within old.slots.items k here.0 here.1

  move : Move (at mid) (at new) (number mid) i (own_at mid i) [] g.ids list (provision_in (at old i)) under (put_in place bs under)
  move =
      let ks : List ℕ = below_in (at old i) in
      let P : List ℕ → Type 0 = λ js. StandAll (at mid) (number mid) i js under in
      let old_each : Each (Apart (at mid) (number mid) w) ks under =
      each_apart (at mid) (number mid) w i ks under (subst P (ap below_in kept_i) stands_i.1.1) (not_beneath (at mid) (number mid) (provision_in (at old i)) under (above_in (at mid i)) i stands_i) in
      let free : any_holds w bs ≡ false =
      sym (all_wids_held w bs) ∙ is_fresh old mid (all_wids bs) whole fresh g.laid.grown w (node_inside (at old) (number old) (size old) whole i climbed w (or_left _ _ (equal_text w w refl))) in
      record {
        relisted = g.relisted;
        swaps = record {
          there = (_, stands_i.0);
          balance = λ k. omega (arith, times-put k place g.ids ks, ap (times k) (ap below_in kept_i));
          fewer = λ k. omega arith;
          fresh = λ k.
              let same : times k (below_in (at mid i)) ≡ times k ks = ap (times k) (ap below_in kept_i) in
              let few : times k ks ≤ 1 = once_few ks k (whole.once i) in
              let once : times k g.ids ≤ 1 = once_few g.ids k g.laid.differ in
              elim (cases_Bool (list_any (λ j. j == k) ks)) [
                | inl found ↦ (let none : times k g.ids ≡ 0 = none_times k g.ids (not_id k (old_low k found)) in omega arith)
                | inr none ↦ (let zero_times : times k ks ≡ 0 = none_times k ks none in omega arith)
              ];
          not_gone = refl;
          not_come = not_id i i_low;
        };
        stands = stands_i;
        off = λ k found. inl (each_own (at mid) (number mid) g.ids bs new_stand k found);
        each = each_joined (Apart (at mid) (number mid) w) (take place ks) (g.ids ++ drop place ks) (first place under) (joined bs (behind place under)) (each_first (Apart (at mid) (number mid) w) place ks under old_each)
            (each_joined (Apart (at mid) (number mid) w) g.ids (drop place ks) bs (behind place under) (each_alone (at mid) (number mid) w g.ids bs new_stand free)
            (each_behind (Apart (at mid) (number mid) w) place ks under old_each));
      }

  text_new : Text (at new) (number mid) (size mid) (branch (provision_in (at old 0)) (grafted w place bs (body_of old)))
  text_new =
      let P : Own → Type 0 = λ o. Text (at new) (number mid) (size mid) (renewed_in o (put_in place bs under) w (branch_from (size old) (at old) 0)) in
      let Q : Branch Provision → Type 0 = λ b. Text (at new) (number mid) (size mid) b in
      subst Q (grafted_as (at old) (number old) (size old) whole i climbed place bs) (subst P (ap (λ o. (provision_in o).own) kept_i)
      (text_moved move (ap (λ o. is_num (provision_in o).own.num) kept_i ∙ whole.nums i) (not_id 0 (laid_within old.slots.items 0 _ whole.stands.0)) (text_still old mid (all_wids bs) whole fresh g.laid.grown)))

  pub regrown : Regrown old new (grafted (provision_in (at old i)).wid place bs (body_of old))
  regrown =
      let same : (k : ℕ) → (k ≡ i → ⊥) → k < size old → at new k ≡ at old k = λ k far low. g.relisted.others k far refl (not_id k low) ∙ g.laid.grown.kept k low in
      let way : (k : ℕ) (x : Laid) → at old k ≡ Some x → (hangs_on k (at new k) ≡ hangs_on k (at old k)) × (above_in (at new k) ≡ above_in (at old k)) = λ k x is. elim (cases_eq k i) [
        | inl it ↦
            let now = ap (at new) it ∙ g.relisted.here in
            let up : above_in (at mid i) ≡ x.above = ap above_in kept_i ∙ sym (ap (λ j. above_in (at old j)) it) ∙ ap above_in is in
            (ap (hangs_on k) now ∙ ap (λ v. not (v == k)) up ∙ sym (ap (hangs_on k) is), ap above_in now ∙ up ∙ sym (ap above_in is))
        | inr far ↦ (let now : at new k ≡ at old k = same k far (laid_within old.slots.items k x is) in (ap (hangs_on k) now, ap above_in now))
      ] in
      record {
        holds = held mid new (provision_in (at old 0)) (grafted w place bs (body_of old)) g.numbers g.sizes whole.root text_new;
        nodes = λ k up. climbs_more (size old) (size new) (at new) k (let rises : size old ≤ size mid = g.laid.grown.rises in let equal : size new ≡ size mid = g.sizes in omega arith) (climbs_still (at old) (at new) way (size old) k up);
        says = λ k up.
            let some : (x : Laid) × (at old k ≡ Some x) = node_laid (at old) (number old) (size old) whole k up in
            elim (cases_eq k i) [
              | inl it ↦ ap (λ j. provision_in (at new j)) it ∙ ap provision_in g.relisted.here ∙ ap provision_in kept_i ∙ sym (ap (λ j. provision_in (at old j)) it)
              | inr far ↦ ap provision_in (same k far (laid_within old.slots.items k some.0 some.1))
            ];
      }

-- it failed, and the text is as it was
pub left_whole : (old new : Arena) (ws : List (List ℕ)) → IsWhole (at old) (number old) (size old) → HasGrown old new ws → AreFresh old ws → Holds new (body_of old)
left_whole old new ws whole g fresh = held new new (provision_in (at old 0)) (body_of old) refl refl whole.root (text_still old new ws whole fresh g)
