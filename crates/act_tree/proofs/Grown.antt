-- An arena that has grown keeps what it had.
use Rattle.std.proofs.Common.{◌≡◌, ◌∙◌, sym, ap, refl, subst, ℕ, ◌==◌, ◌+◌, ◌<◌, ◌≤◌, true, false, ◌||◌, cond, List, [], ◌∷◌, length, take, map, zero, suc, get_or, Option, Some, None, inl, inr, arith}
use Rattle.std.specs.Prelude.{Result, Ok, Err, OnOk, OnErr}
use Rattle.std.specs.Str.{bytes_eq}
use Rattle.std.specs.List.{list_any}
use Rattle.std.proofs.lemmas.Bool.{cases_eq, cases_lt, eq-eqb}
use Rattle.std.proofs.lemmas.List.Folds.{list_any-append}
use Rattle.act_tree.specs.declared.arena.Slot.{Slot}
use Rattle.act_tree.specs.declared.arena.Arena.{Arena}
use Rattle.act_tree.specs.Branches.{Branch, Branches, branch, branches_of}
use Rattle.act_tree.specs.Provisions.{Own, Provision}
use Rattle.eid_paths.specs.declared.numbering.Numbering.{Numbering}
use Rattle.act_tree.specs.declared.node_spec.NodeSpec.{NodeSpec}
use Rattle.act_tree.specs.Eids.{eid_below, enacted, all_enacted}
use Rattle.act_tree.specs.Specs.{spec_view, own_of}
use Rattle.act_tree.specs.Wids.{wids, all_wids, is_among}
use Rattle.eid_paths.specs.Nums.{is_num}
use Rattle.act_tree.specs.Arena.{provision_in, below_in, name_in, is_hung, number_twice}
use Rattle.act_tree.specs.Planted.{IsAdded, HasGrown, AreLaid}
use Rattle.act_tree.specs.Slots.{laid, at, number, size}
use Rattle.act_tree.proofs.Texts.{equal_text, other_text, text_cases, bytes_eq_sym}
use Rattle.act_tree.proofs.Frames.{or_left, none_left, none_right, neither, still_hung}
use Rattle.act_tree.proofs.LaidDown.{laid_past}

-- what is so holds of a failure too
pub on_err : {A E : Type 0} → (r : Result A E) (X : Type 0) → X → OnErr r X
on_err (Ok a) X held = tt
on_err (Err e) X held = held

-- texts that are not among some are not among others either
abbrev pub Covers : List (List ℕ) → List (List ℕ) → Type 0
Covers ws vs = (w : List ℕ) → is_among w ws ≡ false → is_among w vs ≡ false

-- of more wIds less is said
pub grown_wider : (old new : Arena) (vs ws : List (List ℕ)) → HasGrown old new vs → Covers ws vs → HasGrown old new ws
grown_wider old new vs ws g covers = record { kept = g.kept; numbers = λ w none. g.numbers w (covers w none); sound = g.sound; rises = g.rises; own = g.own }

-- it has grown, and has grown again
pub grown_on : (old one new : Arena) (us vs ws : List (List ℕ)) → HasGrown old one us → HasGrown one new vs → Covers ws us → Covers ws vs → HasGrown old new ws
grown_on old one new us vs ws first second covers_us covers_vs =
    let rises : size old ≤ size one = first.rises in
    let further : size one ≤ size new = second.rises in
    record {
      kept = λ k low. second.kept k (omega arith) ∙ first.kept k low;
      numbers = λ w none. second.numbers w (covers_vs w none) ∙ first.numbers w (covers_us w none);
      sound = λ s. second.sound (first.sound s);
      rises = omega arith;
      own = λ o. second.own (first.own o);
    }

pub named_within : (ss : List Slot) (k : ℕ) (w : List ℕ) → name_in (laid ss k) ≡ Some w → k < length ss
named_within ss k w named =
    elim (cases_lt k (length ss)) [
      | inl within ↦ within
      | inr past ↦ absurd (let none : name_in (laid ss k) ≡ None = ap name_in (laid_past ss k past) in cc)
    ]

pub list_within : (ss : List Slot) (j k : ℕ) → list_any (λ l. l == k) (below_in (laid ss j)) ≡ true → j < length ss
list_within ss j k found =
    elim (cases_lt j (length ss)) [
      | inl within ↦ within
      | inr past ↦ absurd (let none : list_any (λ l. l == k) (below_in (laid ss j)) ≡ false = ap (λ o. list_any (λ l. l == k) (below_in o)) (laid_past ss j past) in cc)
    ]

-- a provision was laid down right above itself, and noted
pub grown_added : (old one : Arena) (p : Provision) → IsAdded old one p → is_num p.own.num ≡ true → HasGrown old one (p.wid ∷ [])
grown_added old one p a num =
    let n : ℕ = size old in
    let sizes : size one ≡ size old + 1 = a.sizes in
    record {
      kept = λ k low. a.others k (λ same. omega arith);
      numbers = λ w none. a.numbers w ∙ ap (λ t. cond t (Some (size old)) (number old w)) (bytes_eq_sym p.wid w ∙ none_left _ _ none);
      sound = λ s. record {
        hung = λ k. elim (cases_eq k n) [
          | inl same ↦ ap (λ j. is_hung (at one) j (at one j)) same ∙ ap (is_hung (at one) n) a.here ∙ or_left _ _ (eq-eqb n n refl)
          | inr other ↦ still_hung (at old) (at one) (number old) (number one) k (a.others k other)
              (λ j found. ap below_in (a.others j (λ same. let low : j < size old = list_within old.slots.items j k found in omega arith))) (s.hung k)
        ];
        once = λ k. elim (cases_eq k n) [
          | inl same ↦ ap (λ j. number_twice (below_in (at one j))) same ∙ ap (λ o. number_twice (below_in o)) a.here
          | inr other ↦ ap (λ o. number_twice (below_in o)) (a.others k other) ∙ s.once k
        ];
        nums = λ k. elim (cases_eq k n) [
          | inl same ↦ ap (λ j. is_num (provision_in (at one j)).own.num) same ∙ ap (λ o. is_num (provision_in o).own.num) a.here ∙ num
          | inr other ↦ ap (λ o. is_num (provision_in o).own.num) (a.others k other) ∙ s.nums k
        ];
        named = λ w k leads. elim (text_cases p.wid w) [
          | inl same ↦
              let equal : Some n ≡ Some k = sym (a.numbers w ∙ ap (λ t. cond t (Some (size old)) (number old w)) (equal_text p.wid w same)) ∙ leads in
              let is : n ≡ k = cc in
              ap (λ j. name_in (at one j)) (sym is) ∙ ap name_in a.here ∙ ap (λ v. Some v) same
          | inr other ↦
              let was : name_in (at old k) ≡ Some w = s.named w k (sym (a.numbers w ∙ ap (λ t. cond t (Some (size old)) (number old w)) (other_text p.wid w other)) ∙ leads) in
              ap name_in (a.others k (λ same. let low : k < size old = named_within old.slots.items k w was in omega arith)) ∙ was
        ];
        empty = λ k past. a.others k (λ same. omega arith) ∙ laid_past old.slots.items k (omega arith);
        fits = a.fits;
      };
      rises = omega arith;
      own = λ _. a.own;
    }

-- the wIds of a branch and of those below it
pub covers_node : (v : List ℕ) (vs : List (List ℕ)) → Covers (v ∷ vs) (v ∷ [])
covers_node v vs w none = neither _ false (none_left _ _ none) refl

pub covers_below : (v : List ℕ) (vs : List (List ℕ)) → Covers (v ∷ vs) vs
covers_below v vs w none = none_right (bytes_eq w v) _ none

module _ (f : Branch Own → Branch Provision) where
  -- the wIds of branches, and those of one of them, or of the first of them
  pub covers_item : (ns : List NodeSpec) (i : ℕ) (d : NodeSpec) → i < length ns → Covers (all_wids (branches_of (map f (map spec_view ns)))) (wids (f (spec_view (get_or ns i d))))
  covers_item [] i d within = absurd (omega arith)
  covers_item (n ∷ ns) zero d within = λ w none. none_left _ _ (sym (list_any-append (bytes_eq w) (wids (f (spec_view n))) (all_wids (branches_of (map f (map spec_view ns))))) ∙ none)
  covers_item (n ∷ ns) (suc i) d within =
      λ w none.
      covers_item ns i d (omega arith) w (none_right (is_among w (wids (f (spec_view n)))) _ (sym (list_any-append (bytes_eq w) (wids (f (spec_view n))) (all_wids (branches_of (map f (map spec_view ns))))) ∙ none))

  pub covers_front : (ns : List NodeSpec) (i : ℕ) → Covers (all_wids (branches_of (map f (map spec_view ns)))) (all_wids (branches_of (map f (map spec_view (take i ns)))))
  covers_front [] zero = λ w none. refl
  covers_front [] (suc i) = λ w none. refl
  covers_front (n ∷ ns) zero = λ w none. refl
  covers_front (n ∷ ns) (suc i) =
      λ w none.
      let both : (is_among w (wids (f (spec_view n))) || is_among w (all_wids (branches_of (map f (map spec_view ns))))) ≡ false =
      sym (list_any-append (bytes_eq w) (wids (f (spec_view n))) (all_wids (branches_of (map f (map spec_view ns))))) ∙ none in
      list_any-append (bytes_eq w) (wids (f (spec_view n))) (all_wids (branches_of (map f (map spec_view (take i ns)))))
      ∙ neither _ _ (none_left _ _ both) (covers_front ns i w (none_right (is_among w (wids (f (spec_view n)))) _ both))

  module _ (ns : List NodeSpec) (i : ℕ) (old one : Arena) (ids : List ℕ) (all : Branches Provision) (are : branches_of (map f (map spec_view ns)) ≡ all) where
    -- the first of some branches were laid down
    pub stopped_between : AreLaid old one ids (branches_of (map f (map spec_view (take i ns)))) → HasGrown old one (all_wids all)
    stopped_between laid =
        let P : Branches Provision → Type 0 = λ bs. HasGrown old one (all_wids bs) in
        subst P are (grown_wider old one _ _ laid.grown (covers_front ns i))

    -- and part of the next
    pub stopped_within : (new : Arena) (d : NodeSpec) (b : Branch Provision) → AreLaid old one ids (branches_of (map f (map spec_view (take i ns)))) → i < length ns → d ≡ get_or ns i d → b ≡ f (spec_view d)
        → HasGrown one new (wids b) → HasGrown old new (all_wids all)
    stopped_within new d b laid within it same more =
        let P : Branches Provision → Type 0 = λ bs. HasGrown old new (all_wids bs) in
        let Q : Branch Provision → Type 0 = λ c. HasGrown one new (wids c) in
        subst P are (grown_on old one new _ _ _ laid.grown (subst Q (same ∙ ap (λ n. f (spec_view n)) it) more) (covers_front ns i) (covers_item ns i d within))

-- a provision that was made of a node, and what is laid down below it, is what the node becomes
pub node_enacted : (numbering : Numbering) (above : Option (List ℕ)) (node : NodeSpec) (p : Provision) (name : List ℕ)
    → p ≡ record { wid = eid_below numbering above node.element node.num; own = own_of node } → name ≡ p.wid
    → branch p (all_enacted numbering (Some name) (branches_of node.children)) ≡ enacted numbering above (spec_view node)
node_enacted numbering above node p name is named =
    ap (λ w. branch p (all_enacted numbering (Some w) (branches_of node.children))) (named ∙ ap (λ q. q.wid) is)
    ∙ ap (λ q. branch q (all_enacted numbering (Some (eid_below numbering above node.element node.num)) (branches_of node.children))) is

pub on_err_map : {A E : Type 0} → (r : Result A E) (X Y : Type 0) → (X → Y) → OnErr r X → OnErr r Y
on_err_map (Ok a) X Y f held = tt
on_err_map (Err e) X Y f held = f held

pub on_ok_map : {A E : Type 0} → (r : Result A E) (X Y : Type 0) → (X → Y) → OnOk r X → OnOk r Y
on_ok_map (Ok a) X Y f held = f held
on_ok_map (Err e) X Y f held = tt

-- what holds whether it succeeds or fails
pub either_way : {A E : Type 0} → (r : Result A E) (X Y Z : Type 0) → (X → Z) → (Y → Z) → OnOk r X → OnErr r Y → Z
either_way (Ok a) X Y Z f g ok err = f ok
either_way (Err e) X Y Z f g ok err = g err
