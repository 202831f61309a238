-- eIds differ exactly where the levels do that they are made of.
use Rattle.std.proofs.Common.{◌≡◌, ◌∙◌, sym, ap, refl, subst, ℕ, ◌+◌, ◌<◌, Bool, true, false, ◌||◌, cond, List, [], ◌∷◌, ◌++◌, length, Some, None, ◌⊎◌, inl, inr, append_assoc, length-append, arith, Ok}
use Rattle.std.specs.Str.{bytes_eq}
use Rattle.std.proofs.lemmas.Bool.{cases_Bool, cond_both, or_cases, and_parts}
use Rattle.std.proofs.lemmas.List.{append_cancel_left}
use Rattle.std.proofs.lemmas.List.Folds.{list_any-append, list_all-append}
use Rattle.eid_paths.specs.declared.level.Level.{Level}
use Rattle.eid_paths.specs.declared.numbering.Numbering.{Numbering}
use Rattle.eid_paths.specs.Eids.{eid_of, eid_text}
use Rattle.eid_paths.specs.Elements.{is_throughout}
use Rattle.eid_paths.specs.Levels.{level_text, have_nums}
use Rattle.eid_paths.specs.Nums.{is_num}
use Rattle.eid_paths.proofs.EidLaws.{eid_is_read}
use Rattle.act_tree.specs.Branches.{Branch, Branches, branch, no_branches, more_branches}
use Rattle.act_tree.specs.EidLevels.{begins, own_level, beginning, all_beginning, going_on, all_going_on, alike_inside, alike_beneath}
use Rattle.act_tree.specs.Eids.{eid_below}
use Rattle.act_tree.specs.EidsOfWids.{level_of_own, levels_with}
use Rattle.act_tree.specs.Faults.{owns, all_owns, eids, all_eids}
use Rattle.act_tree.specs.Numbered.{is_numbered, are_numbered}
use Rattle.act_tree.specs.Provisions.{Own, Provision}
use Rattle.act_tree.specs.Wids.{is_among, one_twice}
use Rattle.act_tree.proofs.Frames.{or_left, or_right, none_left, none_right, neither, once_together, Apart, twice_apart}
use Rattle.act_tree.proofs.Nums.{both}
use Rattle.act_tree.proofs.Texts.{same_text, equal_text}
use Rattle.act_tree.proofs.Ways.{spelled, spelled_with, below_is, text_behind}

-- a text is among others in front or behind
among_front : (w : List ℕ) (vs ws : List (List ℕ)) → is_among w vs ≡ true → is_among w (vs ++ ws) ≡ true
among_front w vs ws found = list_any-append (bytes_eq w) vs ws ∙ or_left _ _ found

among_back : (w : List ℕ) (vs ws : List (List ℕ)) → is_among w ws ≡ true → is_among w (vs ++ ws) ≡ true
among_back w vs ws found = list_any-append (bytes_eq w) vs ws ∙ or_right (is_among w vs) _ found

not_front : (w : List ℕ) (vs ws : List (List ℕ)) → is_among w (vs ++ ws) ≡ false → is_among w vs ≡ false
not_front w vs ws none = none_left _ _ (sym (list_any-append (bytes_eq w) vs ws) ∙ none)

not_back : (w : List ℕ) (vs ws : List (List ℕ)) → is_among w (vs ++ ws) ≡ false → is_among w ws ≡ false
not_back w vs ws none = none_right (is_among w vs) _ (sym (list_any-append (bytes_eq w) vs ws) ∙ none)

-- no levels stand above: that is right below the root
abbrev pub top_of : List Level → Bool
top_of [] = true
top_of (level ∷ levels) = false

-- how the first level is spelled
abbrev pub first_text : List Level → List ℕ
first_text [] = []
first_text (level ∷ levels) = level_text level.element level.num

top_more : (above more : List Level) → top_of above ≡ false → top_of (above ++ more) ≡ false
top_more [] more under = absurd cc
top_more (level ∷ above) more under = refl

first_more : (above more : List Level) → top_of above ≡ false → first_text (above ++ more) ≡ first_text above
first_more [] more under = absurd cc
first_more (level ∷ above) more under = refl

pub text_more : (above : List Level) (last : Level) → top_of above ≡ false → eid_text (above ++ last ∷ []) ≡ eid_text above ++ 95 ∷ 95 ∷ level_text last.element last.num
text_more [] last under = absurd cc
text_more (level ∷ above) last under = text_behind level above last

-- levels that spell one text are the same
pub same_levels : (one other : List Level) → eid_text one ≡ eid_text other → have_nums one ≡ true → have_nums other ≡ true → 0 < length one → 0 < length other → one ≡ other
same_levels one other same good good_too some some_too =
    let read : Ok one ≡ Ok other = sym (eid_is_read one some good) ∙ ap eid_of same ∙ eid_is_read other some_too good_too in
    cc

same_next : (above : List Level) (one other : Level) (rest more : List Level) → above ++ one ∷ rest ≡ above ++ other ∷ more → one ≡ other
same_next above one other rest more same = let left : one ∷ rest ≡ other ∷ more = append_cancel_left above (one ∷ rest) (other ∷ more) same in cc

not_longer : (levels : List Level) (one : Level) (rest : List Level) → levels ≡ levels ++ one ∷ rest → ⊥
not_longer levels one rest same =
    let longer : length levels ≡ length levels + length (one ∷ rest) = ap length same ∙ length-append levels (one ∷ rest) in
    omega arith

-- a provision below these levels begins an eId
pub record Begins (n : Numbering) (above : List Level) (own : Own) : Type 0 where
  pub does : begins n (top_of above) own ≡ true
  pub levels : levels_with n above own ≡ level_of_own own ∷ []

-- it goes on behind them
pub record GoesOn (n : Numbering) (above : List Level) (own : Own) : Type 0 where
  pub does : begins n (top_of above) own ≡ false
  pub under : top_of above ≡ false
  pub levels : levels_with n above own ≡ above ++ level_of_own own ∷ []

pub either : (n : Numbering) (above : List Level) (own : Own) → Begins n above own ⊎ GoesOn n above own
either n [] own =
    inl (record {
      does = refl;
      levels = cond_both (is_throughout n own.element) (level_of_own own ∷ []) (level_of_own own ∷ []) (λ levels. levels ≡ level_of_own own ∷ []) (λ _. refl) (λ _. refl);
    })
either n (level ∷ above) own =
    elim (cases_Bool (is_throughout n own.element)) [
      | inl does ↦ inl (record { does = does; levels = ap (λ t. cond t (level_of_own own ∷ []) ((level ∷ above) ++ level_of_own own ∷ [])) does })
      | inr not_so ↦ inr (record { does = not_so; under = refl; levels = ap (λ t. cond t (level_of_own own ∷ []) ((level ∷ above) ++ level_of_own own ∷ [])) not_so })
    ]

module _ (n : Numbering) where
  pub good_with : (above : List Level) (own : Own) → have_nums above ≡ true → is_num own.num ≡ true → have_nums (levels_with n above own) ≡ true
  good_with above own good num =
      let last : have_nums (level_of_own own ∷ []) ≡ true = both (is_num own.num) true num refl in
      elim (either n above own) [
        | inl it ↦ ap have_nums it.levels ∙ last
        | inr on ↦ ap have_nums on.levels ∙ list_all-append (λ level. is_num level.num) above (level_of_own own ∷ []) ∙ both (have_nums above) _ good last
      ]

  pub some_with : (above : List Level) (own : Own) → 0 < length (levels_with n above own)
  some_with above own =
      elim (either n above own) [
        | inl it ↦ (let one : length (levels_with n above own) ≡ length (level_of_own own ∷ []) = ap length it.levels in omega arith)
        | inr on ↦
            let more : length (levels_with n above own) ≡ length above + length (level_of_own own ∷ []) = ap length on.levels ∙ length-append above (level_of_own own ∷ []) in
            omega arith
      ]

  pub top_with : (above : List Level) (own : Own) → top_of (levels_with n above own) ≡ false
  top_with above own =
      elim (either n above own) [
        | inl it ↦ ap top_of it.levels
        | inr on ↦ ap top_of on.levels ∙ top_more above (level_of_own own ∷ []) on.under
      ]

  -- the levels that begin an eId at or below a provision, and the level that goes on
  begun : (above : List Level) (own : Own) (below : Branches Own) → Begins n above own → beginning n (top_of above) (branch own below) ≡ own_level own ∷ all_beginning n false below
  begun above own below it = ap (λ t. cond t (own_level own ∷ []) [] ++ all_beginning n false below) it.does

  none_begun : (above : List Level) (own : Own) (below : Branches Own) → GoesOn n above own → beginning n (top_of above) (branch own below) ≡ all_beginning n false below
  none_begun above own below on = ap (λ t. cond t (own_level own ∷ []) [] ++ all_beginning n false below) on.does

  none_on : (above : List Level) (own : Own) (below : Branches Own) → Begins n above own → going_on n (top_of above) (branch own below) ≡ []
  none_on above own below it = ap (λ t. cond t [] (own_level own ∷ [])) it.does

  gone_on : (above : List Level) (own : Own) (below : Branches Own) → GoesOn n above own → going_on n (top_of above) (branch own below) ≡ own_level own ∷ []
  gone_on above own below on = ap (λ t. cond t [] (own_level own ∷ [])) on.does

  -- an eId goes on behind these levels by one of some levels
  pub record Goes (above : List Level) (goings : List (List ℕ)) (levels : List Level) : Type 0 where
    pub level : Level
    pub rest : List Level
    pub split : levels ≡ above ++ level ∷ rest
    pub under : top_of above ≡ false
    pub among : is_among (level_text level.element level.num) goings ≡ true

  -- an eId begins with one of some levels, or goes on behind those above
  pub record Placed (above : List Level) (heads goings : List (List ℕ)) (e : List ℕ) : Type 0 where
    pub levels : List Level
    pub is : e ≡ eid_text levels
    pub good : have_nums levels ≡ true
    pub some : 0 < length levels
    pub kind : (is_among (first_text levels) heads ≡ true) ⊎ Goes above goings levels

  wider : (above : List Level) (heads goings more_heads more_goings : List (List ℕ)) (e : List ℕ) → ((w : List ℕ) → is_among w heads ≡ true → is_among w more_heads ≡ true)
      → ((w : List ℕ) → is_among w goings ≡ true → is_among w more_goings ≡ true) → Placed above heads goings e → Placed above more_heads more_goings e
  wider above heads goings more_heads more_goings e wide wide_too it =
      record {
        levels = it.levels;
        is = it.is;
        good = it.good;
        some = it.some;
        kind = elim it.kind [
          | inl first ↦ inl (wide (first_text it.levels) first)
          | inr on ↦ inr (record { level = on.level; rest = on.rest; split = on.split; under = on.under; among = wide_too (level_text on.level.element on.level.num) on.among })
        ];
      }

  own_goes : (above : List Level) (own : Own) (below : Branches Own) (levels rest : List Level) → GoesOn n above own → levels ≡ above ++ level_of_own own ∷ rest → Goes above (going_on n (top_of above) (branch own below)) levels
  own_goes above own below levels rest on split =
      record {
        level = level_of_own own;
        rest = rest;
        split = split;
        under = on.under;
        among = ap (is_among (own_level own)) (gone_on above own below on) ∙ or_left _ _ (equal_text (own_level own) (own_level own) refl);
      }

  own_placed : (above : List Level) (own : Own) (below : Branches Own) (e : List ℕ) → have_nums (levels_with n above own) ≡ true → e ≡ eid_text (levels_with n above own)
      → Placed above (beginning n (top_of above) (branch own below)) (going_on n (top_of above) (branch own below)) e
  own_placed above own below e good is =
      record {
        levels = levels_with n above own;
        is = is;
        good = good;
        some = some_with above own;
        kind = elim (either n above own) [
          | inl it ↦ inl (ap (is_among (first_text (levels_with n above own))) (begun above own below it) ∙ or_left _ _ (equal_text _ _ (ap first_text it.levels)))
          | inr on ↦ inr (own_goes above own below (levels_with n above own) [] on on.levels)
        ];
      }

  raised : (above : List Level) (own : Own) (below : Branches Own) (e : List ℕ) → Placed (levels_with n above own) (all_beginning n false below) (all_going_on n false below) e
      → Placed above (beginning n (top_of above) (branch own below)) (going_on n (top_of above) (branch own below)) e
  raised above own below e it =
      record {
        levels = it.levels;
        is = it.is;
        good = it.good;
        some = it.some;
        kind = elim (either n above own) [
          | inl here ↦ inl (ap (is_among (first_text it.levels)) (begun above own below here) ∙ elim it.kind [
            | inl first ↦ or_right (bytes_eq (first_text it.levels) (own_level own)) _ first
            | inr on ↦ or_left _ _ (equal_text _ _ (ap first_text (on.split ∙ ap (λ levels. levels ++ on.level ∷ on.rest) here.levels)))
          ])
          | inr further ↦ elim it.kind [
            | inl first ↦ inl (ap (is_among (first_text it.levels)) (none_begun above own below further) ∙ first)
            | inr on ↦ inr (own_goes above own below it.levels (on.level ∷ on.rest) further
                (on.split ∙ ap (λ levels. levels ++ on.level ∷ on.rest) further.levels ∙ append_assoc above (level_of_own own ∷ []) (on.level ∷ on.rest)))
          ]
        ];
      }

  -- the eId of a provision below these levels, as the levels with its own spell it
  pub up_is : (above : List Level) (own : Own) → Some (eid_below n (spelled above) own.element own.num) ≡ spelled (levels_with n above own)
  up_is above own = ap (λ t. Some t) (below_is n above own) ∙ sym (spelled_with n above own)

  mutual
    placed_in : (b : Branch Provision) (above : List Level) (e : List ℕ) → have_nums above ≡ true → is_numbered b ≡ true → is_among e (eids n (spelled above) (owns b)) ≡ true
        → Placed above (beginning n (top_of above) (owns b)) (going_on n (top_of above) (owns b)) e
    placed_in (branch p below) above e good nums found =
        let own : List ℕ = eid_below n (spelled above) p.own.element p.own.num in
        let all : List Level = levels_with n above p.own in
        let good_too : have_nums all ≡ true = good_with above p.own good (and_parts _ _ nums).0 in
        let P : Bool → Type 0 = λ t. Placed all (all_beginning n t (all_owns below)) (all_going_on n t (all_owns below)) e in
        elim (or_cases (bytes_eq e own) (is_among e (all_eids n (Some own) (all_owns below))) found) [
          | inl it ↦ own_placed above p.own (all_owns below) e good_too (same_text e own it ∙ below_is n above p.own)
          | inr beneath ↦ raised above p.own (all_owns below) e
              (subst P (top_with above p.own)
              (placed_among below all e good_too (and_parts _ _ nums).1 (sym (ap (λ a. is_among e (all_eids n a (all_owns below))) (up_is above p.own)) ∙ beneath)))
        ]

    pub placed_among : (bs : Branches Provision) (above : List Level) (e : List ℕ) → have_nums above ≡ true → are_numbered bs ≡ true → is_among e (all_eids n (spelled above) (all_owns bs)) ≡ true
        → Placed above (all_beginning n (top_of above) (all_owns bs)) (all_going_on n (top_of above) (all_owns bs)) e
    placed_among no_branches above e good nums found = absurd cc
    placed_among (more_branches b bs) above e good nums found =
        let t : Bool = top_of above in
        let first : List (List ℕ) = beginning n t (owns b) in
        let later : List (List ℕ) = all_beginning n t (all_owns bs) in
        let on : List (List ℕ) = going_on n t (owns b) in
        let others : List (List ℕ) = all_going_on n t (all_owns bs) in
        elim (or_cases (is_among e (eids n (spelled above) (owns b))) (is_among e (all_eids n (spelled above) (all_owns bs)))
        (sym (list_any-append (bytes_eq e) (eids n (spelled above) (owns b)) (all_eids n (spelled above) (all_owns bs))) ∙ found)) [
          | inl here ↦ wider above first on (first ++ later) (on ++ others) e (λ w. among_front w first later) (λ w. among_front w on others) (placed_in b above e good (and_parts _ _ nums).0 here)
          | inr there ↦ wider above later others (first ++ later) (on ++ others) e (λ w. among_back w first later) (λ w. among_back w on others) (placed_among bs above e good (and_parts _ _ nums).1 there)
        ]

  -- of two lists of provisions side by side no eId is in both, if no level is that begins one or goes on
  parted_eids : (above : List Level) (e : List ℕ) (heads goings more_heads more_goings : List (List ℕ)) → Placed above heads goings e → Placed above more_heads more_goings e
      → ((w : List ℕ) → is_among w heads ≡ true → is_among w more_heads ≡ false) → ((w : List ℕ) → is_among w goings ≡ true → is_among w more_goings ≡ false)
      → (top_of above ≡ false → is_among (first_text above) heads ≡ false) → (top_of above ≡ false → is_among (first_text above) more_heads ≡ false) → ⊥
  parted_eids above e heads goings more_heads more_goings one other apart apart_too out out_too =
      let same : one.levels ≡ other.levels = same_levels one.levels other.levels (sym one.is ∙ other.is) one.good other.good one.some other.some in
      elim one.kind [
        | inl first ↦ elim other.kind [
          | inl again ↦
              let never : is_among (first_text one.levels) more_heads ≡ false = apart (first_text one.levels) first in
              let told : is_among (first_text one.levels) more_heads ≡ true = ap (λ levels. is_among (first_text levels) more_heads) same ∙ again in
              cc
          | inr on ↦
              let begins_so : first_text one.levels ≡ first_text above = ap first_text (same ∙ on.split) ∙ first_more above (on.level ∷ on.rest) on.under in
              let never : is_among (first_text above) heads ≡ false = out on.under in
              let told : is_among (first_text above) heads ≡ true = sym (ap (λ t. is_among t heads) begins_so) ∙ first in
              cc
        ]
        | inr on ↦ elim other.kind [
          | inl again ↦
              let begins_so : first_text other.levels ≡ first_text above = ap first_text (sym same ∙ on.split) ∙ first_more above (on.level ∷ on.rest) on.under in
              let never : is_among (first_text above) more_heads ≡ false = out_too on.under in
              let told : is_among (first_text above) more_heads ≡ true = sym (ap (λ t. is_among t more_heads) begins_so) ∙ again in
              cc
          | inr on_too ↦
              let next : on.level ≡ on_too.level = same_next above on.level on_too.level on.rest on_too.rest (sym on.split ∙ same ∙ on_too.split) in
              let never : is_among (level_text on.level.element on.level.num) more_goings ≡ false = apart_too (level_text on.level.element on.level.num) on.among in
              let told : is_among (level_text on.level.element on.level.num) more_goings ≡ true = ap (λ l. is_among (level_text l.element l.num) more_goings) next ∙ on_too.among in
              cc
        ]
      ]

  -- no provision below another has its eId
  own_apart : (above : List Level) (heads goings : List (List ℕ)) (e : List ℕ) → have_nums above ≡ true → 0 < length above → e ≡ eid_text above → is_among (first_text above) heads ≡ false → Placed above heads goings e → ⊥
  own_apart above heads goings e good some is out it =
      let same : above ≡ it.levels = same_levels above it.levels (sym is ∙ it.is) good it.good some it.some in
      elim it.kind [
        | inl first ↦ (let told : is_among (first_text above) heads ≡ true = ap (λ levels. is_among (first_text levels) heads) same ∙ first in cc)
        | inr on ↦ not_longer above on.level on.rest (same ∙ on.split)
      ]

  mutual
    differ_in : (b : Branch Provision) (above : List Level) → have_nums above ≡ true → is_numbered b ≡ true → (top_of above ≡ false → is_among (first_text above) (beginning n (top_of above) (owns b)) ≡ false)
        → one_twice (beginning n (top_of above) (owns b)) ≡ false → alike_inside n (owns b) ≡ false → one_twice (eids n (spelled above) (owns b)) ≡ false
    differ_in (branch p below) above good nums out once unlike =
        let own : List ℕ = eid_below n (spelled above) p.own.element p.own.num in
        let all : List Level = levels_with n above p.own in
        let heads : List (List ℕ) = all_beginning n false (all_owns below) in
        let good_too : have_nums all ≡ true = good_with above p.own good (and_parts _ _ nums).0 in
        let top : top_of all ≡ false = top_with above p.own in
        let out_below : is_among (first_text all) heads ≡ false = elim (either n above p.own) [
          | inl it ↦ ap (λ levels. is_among (first_text levels) heads) it.levels ∙ none_left _ _ (sym (ap one_twice (begun above p.own (all_owns below) it)) ∙ once)
          | inr on ↦ ap (λ t. is_among t heads) (ap first_text on.levels ∙ first_more above (level_of_own p.own ∷ []) on.under)
              ∙ sym (ap (is_among (first_text above)) (none_begun above p.own (all_owns below) on)) ∙ out on.under
        ] in
        let once_below : one_twice heads ≡ false = elim (either n above p.own) [
          | inl it ↦ none_right (is_among (own_level p.own) heads) _ (sym (ap one_twice (begun above p.own (all_owns below) it)) ∙ once)
          | inr on ↦ sym (ap one_twice (none_begun above p.own (all_owns below) on)) ∙ once
        ] in
        let inner : one_twice (all_eids n (spelled all) (all_owns below)) ≡ false =
        differ_among below all good_too (and_parts _ _ nums).1 (λ _. ap (λ t. is_among (first_text all) (all_beginning n t (all_owns below))) top ∙ out_below)
        (ap (λ t. one_twice (all_beginning n t (all_owns below))) top ∙ once_below) (ap (λ t. one_twice (all_going_on n t (all_owns below))) top ∙ none_left _ _ unlike)
        (none_right (one_twice (all_going_on n false (all_owns below))) _ unlike) in
        let up : Some own ≡ spelled all = up_is above p.own in
        let P : Bool → Type 0 = λ t. Placed all (all_beginning n t (all_owns below)) (all_going_on n t (all_owns below)) own in
        neither (is_among own (all_eids n (Some own) (all_owns below))) _
        (elim (cases_Bool (is_among own (all_eids n (Some own) (all_owns below)))) [
          | inl found ↦ absurd (own_apart all heads (all_going_on n false (all_owns below)) own good_too (some_with above p.own) (below_is n above p.own) out_below
              (subst P top (placed_among below all own good_too (and_parts _ _ nums).1 (sym (ap (λ a. is_among own (all_eids n a (all_owns below))) up) ∙ found))))
          | inr none ↦ none
        ])
        (ap (λ a. one_twice (all_eids n a (all_owns below))) up ∙ inner)

    -- where the levels differ, the eIds do
    pub differ_among : (bs : Branches Provision) (above : List Level) → have_nums above ≡ true → are_numbered bs ≡ true → (top_of above ≡ false → is_among (first_text above) (all_beginning n (top_of above) (all_owns bs)) ≡ false)
        → one_twice (all_beginning n (top_of above) (all_owns bs)) ≡ false → one_twice (all_going_on n (top_of above) (all_owns bs)) ≡ false → alike_beneath n (all_owns bs) ≡ false
        → one_twice (all_eids n (spelled above) (all_owns bs)) ≡ false
    differ_among no_branches above good nums out once once_on unlike = refl
    differ_among (more_branches b bs) above good nums out once once_on unlike =
        let t : Bool = top_of above in
        let first : List (List ℕ) = beginning n t (owns b) in
        let later : List (List ℕ) = all_beginning n t (all_owns bs) in
        let heads : Apart first later = twice_apart first later once in
        let goings : Apart (going_on n t (owns b)) (all_going_on n t (all_owns bs)) = twice_apart (going_on n t (owns b)) (all_going_on n t (all_owns bs)) once_on in
        let out_here : t ≡ false → is_among (first_text above) first ≡ false = λ under. not_front (first_text above) first later (out under) in
        let out_there : t ≡ false → is_among (first_text above) later ≡ false = λ under. not_back (first_text above) first later (out under) in
        once_together (eids n (spelled above) (owns b)) (all_eids n (spelled above) (all_owns bs))
        (differ_in b above good (and_parts _ _ nums).0 out_here heads.first (none_left _ _ unlike))
        (differ_among bs above good (and_parts _ _ nums).1 out_there heads.second goings.second (none_right (alike_inside n (owns b)) _ unlike))
        (λ e found. elim (cases_Bool (is_among e (all_eids n (spelled above) (all_owns bs)))) [
          | inl again ↦ absurd (parted_eids above e first (going_on n t (owns b)) later (all_going_on n t (all_owns bs))
              (placed_in b above e good (and_parts _ _ nums).0 found) (placed_among bs above e good (and_parts _ _ nums).1 again) heads.between goings.between out_here out_there)
          | inr none ↦ none
        ])

  mutual
    begun_in : (b : Branch Provision) (above : List Level) (w : List ℕ) → is_among w (beginning n (top_of above) (owns b)) ≡ true → is_among w (eids n (spelled above) (owns b)) ≡ true
    begun_in (branch p below) above w found =
        let own : List ℕ = eid_below n (spelled above) p.own.element p.own.num in
        let beneath : is_among w (all_beginning n false (all_owns below)) ≡ true → is_among w (all_eids n (Some own) (all_owns below)) ≡ true = λ is. begun_below below above p.own w is in
        elim (either n above p.own) [
          | inl it ↦ elim (or_cases (bytes_eq w (own_level p.own)) (is_among w (all_beginning n false (all_owns below))) (sym (ap (is_among w) (begun above p.own (all_owns below) it)) ∙ found)) [
            | inl same ↦ or_left _ _ (equal_text w own (same_text w (own_level p.own) same ∙ sym (below_is n above p.own ∙ ap eid_text it.levels)))
            | inr under ↦ or_right (bytes_eq w own) _ (beneath under)
          ]
          | inr on ↦ or_right (bytes_eq w own) _ (beneath (sym (ap (is_among w) (none_begun above p.own (all_owns below) on)) ∙ found))
        ]

    begun_below : (below : Branches Provision) (above : List Level) (own : Own) (w : List ℕ) → is_among w (all_beginning n false (all_owns below)) ≡ true
        → is_among w (all_eids n (Some (eid_below n (spelled above) own.element own.num)) (all_owns below)) ≡ true
    begun_below no_branches above own w found = absurd cc
    begun_below (more_branches b bs) above own w found =
        ap (λ a. is_among w (all_eids n a (all_owns (more_branches b bs)))) (up_is above own)
        ∙ elim (or_cases (is_among w (beginning n false (owns b))) (is_among w (all_beginning n false (all_owns bs))) (sym (list_any-append (bytes_eq w) (beginning n false (owns b)) (all_beginning n false (all_owns bs))) ∙ found)) [
          | inl here ↦ among_front w (eids n (spelled (levels_with n above own)) (owns b)) (all_eids n (spelled (levels_with n above own)) (all_owns bs))
              (begun_in b (levels_with n above own) w (ap (λ t. is_among w (beginning n t (owns b))) (top_with above own) ∙ here))
          | inr there ↦ among_back w (eids n (spelled (levels_with n above own)) (owns b)) (all_eids n (spelled (levels_with n above own)) (all_owns bs))
              (sym (ap (λ a. is_among w (all_eids n a (all_owns bs))) (up_is above own)) ∙ begun_below bs above own w there)
        ]

  begun_among : (bs : Branches Provision) (above : List Level) (w : List ℕ) → is_among w (all_beginning n (top_of above) (all_owns bs)) ≡ true → is_among w (all_eids n (spelled above) (all_owns bs)) ≡ true
  begun_among no_branches above w found = absurd cc
  begun_among (more_branches b bs) above w found =
      elim (or_cases (is_among w (beginning n (top_of above) (owns b))) (is_among w (all_beginning n (top_of above) (all_owns bs)))
      (sym (list_any-append (bytes_eq w) (beginning n (top_of above) (owns b)) (all_beginning n (top_of above) (all_owns bs))) ∙ found)) [
        | inl here ↦ among_front w (eids n (spelled above) (owns b)) (all_eids n (spelled above) (all_owns bs)) (begun_in b above w here)
        | inr there ↦ among_back w (eids n (spelled above) (owns b)) (all_eids n (spelled above) (all_owns bs)) (begun_among bs above w there)
      ]

  -- what is in one of two lists that share no text is not in the other, if each is part of such a list
  part_apart : (w : List ℕ) (vs ws : List (List ℕ)) → (is_among w vs ≡ true → is_among w ws ≡ true) → is_among w ws ≡ false → is_among w vs ≡ false
  part_apart w vs ws part none =
      elim (cases_Bool (is_among w vs)) [
        | inl found ↦ absurd (let told : is_among w ws ≡ true = part found in cc)
        | inr out ↦ out
      ]

  mutual
    once_in : (b : Branch Provision) (above : List Level) → one_twice (eids n (spelled above) (owns b)) ≡ false → one_twice (beginning n (top_of above) (owns b)) ≡ false
    once_in (branch p below) above once =
        let own : List ℕ = eid_below n (spelled above) p.own.element p.own.num in
        let all : List Level = levels_with n above p.own in
        let top : top_of all ≡ false = top_with above p.own in
        let beneath : one_twice (all_beginning n false (all_owns below)) ≡ false =
        sym (ap (λ t. one_twice (all_beginning n t (all_owns below))) top)
        ∙ once_among below all (sym (ap (λ a. one_twice (all_eids n a (all_owns below))) (up_is above p.own)) ∙ none_right (is_among own (all_eids n (Some own) (all_owns below))) _ once) in
        elim (either n above p.own) [
          | inl it ↦ ap one_twice (begun above p.own (all_owns below) it) ∙ neither _ _
              (part_apart (own_level p.own) (all_beginning n false (all_owns below)) (all_eids n (Some own) (all_owns below)) (begun_below below above p.own (own_level p.own))
              (ap (λ t. is_among t (all_eids n (Some own) (all_owns below))) (sym (below_is n above p.own ∙ ap eid_text it.levels)) ∙ none_left _ _ once))
              beneath
          | inr on ↦ ap one_twice (none_begun above p.own (all_owns below) on) ∙ beneath
        ]

    -- where eIds differ, the levels do that begin them
    pub once_among : (bs : Branches Provision) (above : List Level) → one_twice (all_eids n (spelled above) (all_owns bs)) ≡ false → one_twice (all_beginning n (top_of above) (all_owns bs)) ≡ false
    once_among no_branches above once = refl
    once_among (more_branches b bs) above once =
        let apart : Apart (eids n (spelled above) (owns b)) (all_eids n (spelled above) (all_owns bs)) = twice_apart (eids n (spelled above) (owns b)) (all_eids n (spelled above) (all_owns bs)) once in
        once_together (beginning n (top_of above) (owns b)) (all_beginning n (top_of above) (all_owns bs)) (once_in b above apart.first) (once_among bs above apart.second)
        (λ w found. part_apart w (all_beginning n (top_of above) (all_owns bs)) (all_eids n (spelled above) (all_owns bs)) (begun_among bs above w) (apart.between w (begun_in b above w found)))

  -- the eId that goes on behind these levels
  abbrev behind_all : List Level → List ℕ → List ℕ
  behind_all above w = eid_text above ++ 95 ∷ 95 ∷ w

  on_in : (b : Branch Provision) (above : List Level) (w : List ℕ) → is_among w (going_on n (top_of above) (owns b)) ≡ true → is_among (behind_all above w) (eids n (spelled above) (owns b)) ≡ true
  on_in (branch p below) above w found =
      let own : List ℕ = eid_below n (spelled above) p.own.element p.own.num in
      elim (either n above p.own) [
        | inl it ↦ absurd (let none : is_among w (going_on n (top_of above) (branch p.own (all_owns below))) ≡ false = ap (is_among w) (none_on above p.own (all_owns below) it) in cc)
        | inr on ↦ elim (or_cases (bytes_eq w (own_level p.own)) false (sym (ap (is_among w) (gone_on above p.own (all_owns below) on)) ∙ found)) [
          | inl same ↦ or_left _ _ (equal_text (behind_all above w) own
              (ap (behind_all above) (same_text w (own_level p.own) same) ∙ sym (below_is n above p.own ∙ ap eid_text on.levels ∙ text_more above (level_of_own p.own) on.under)))
          | inr never ↦ absurd cc
        ]
      ]

  on_among : (bs : Branches Provision) (above : List Level) (w : List ℕ) → is_among w (all_going_on n (top_of above) (all_owns bs)) ≡ true → is_among (behind_all above w) (all_eids n (spelled above) (all_owns bs)) ≡ true
  on_among no_branches above w found = absurd cc
  on_among (more_branches b bs) above w found =
      elim (or_cases (is_among w (going_on n (top_of above) (owns b))) (is_among w (all_going_on n (top_of above) (all_owns bs)))
      (sym (list_any-append (bytes_eq w) (going_on n (top_of above) (owns b)) (all_going_on n (top_of above) (all_owns bs))) ∙ found)) [
        | inl here ↦ among_front (behind_all above w) (eids n (spelled above) (owns b)) (all_eids n (spelled above) (all_owns bs)) (on_in b above w here)
        | inr there ↦ among_back (behind_all above w) (eids n (spelled above) (owns b)) (all_eids n (spelled above) (all_owns bs)) (on_among bs above w there)
      ]

  one_on : (b : Branch Own) (t : Bool) → one_twice (going_on n t b) ≡ false
  one_on (branch own below) t = cond_both (begins n t own) [] (own_level own ∷ []) (λ ws. one_twice ws ≡ false) (λ _. refl) (λ _. refl)

  -- where eIds differ, the levels of siblings do that begin none
  pub once_on : (bs : Branches Provision) (above : List Level) → one_twice (all_eids n (spelled above) (all_owns bs)) ≡ false → one_twice (all_going_on n (top_of above) (all_owns bs)) ≡ false
  once_on no_branches above once = refl
  once_on (more_branches b bs) above once =
      let apart : Apart (eids n (spelled above) (owns b)) (all_eids n (spelled above) (all_owns bs)) = twice_apart (eids n (spelled above) (owns b)) (all_eids n (spelled above) (all_owns bs)) once in
      once_together (going_on n (top_of above) (owns b)) (all_going_on n (top_of above) (all_owns bs)) (one_on (owns b) (top_of above)) (once_on bs above apart.second)
      (λ w found. elim (cases_Bool (is_among w (all_going_on n (top_of above) (all_owns bs)))) [
        | inl again ↦ absurd (
            let never : is_among (behind_all above w) (all_eids n (spelled above) (all_owns bs)) ≡ false = apart.between (behind_all above w) (on_in b above w found) in
            let told : is_among (behind_all above w) (all_eids n (spelled above) (all_owns bs)) ≡ true = on_among bs above w again in
            cc)
        | inr none ↦ none
      ])

  mutual
    unlike_in : (b : Branch Provision) (above : List Level) → one_twice (eids n (spelled above) (owns b)) ≡ false → alike_inside n (owns b) ≡ false
    unlike_in (branch p below) above once =
        let own : List ℕ = eid_below n (spelled above) p.own.element p.own.num in
        let all : List Level = levels_with n above p.own in
        let inner : one_twice (all_eids n (spelled all) (all_owns below)) ≡ false =
        sym (ap (λ a. one_twice (all_eids n a (all_owns below))) (up_is above p.own)) ∙ none_right (is_among own (all_eids n (Some own) (all_owns below))) _ once in
        neither (one_twice (all_going_on n false (all_owns below))) _ (sym (ap (λ t. one_twice (all_going_on n t (all_owns below))) (top_with above p.own)) ∙ once_on below all inner) (unlike_beneath below all inner)

    pub unlike_beneath : (bs : Branches Provision) (above : List Level) → one_twice (all_eids n (spelled above) (all_owns bs)) ≡ false → alike_beneath n (all_owns bs) ≡ false
    unlike_beneath no_branches above once = refl
    unlike_beneath (more_branches b bs) above once =
        let apart : Apart (eids n (spelled above) (owns b)) (all_eids n (spelled above) (all_owns bs)) = twice_apart (eids n (spelled above) (owns b)) (all_eids n (spelled above) (all_owns bs)) once in
        neither _ _ (unlike_in b above apart.first) (unlike_beneath bs above apart.second)

  -- the children of the root begin an eId each
  none_at_top : (bs : Branches Provision) → all_going_on n true (all_owns bs) ≡ []
  none_at_top no_branches = refl
  none_at_top (more_branches (branch p below) bs) = none_at_top bs

  -- the eIds of a text differ exactly where the levels do
  pub levels_decide : (bs : Branches Provision) → are_numbered bs ≡ true
      → one_twice (all_eids n None (all_owns bs)) ≡ (one_twice (all_beginning n true (all_owns bs)) || alike_beneath n (all_owns bs))
  levels_decide bs nums =
      elim (cases_Bool (one_twice (all_eids n None (all_owns bs)))) [
        | inl twice ↦ elim (cases_Bool (one_twice (all_beginning n true (all_owns bs)) || alike_beneath n (all_owns bs))) [
          | inl told ↦ twice ∙ sym told
          | inr none ↦ absurd (
              let differ : one_twice (all_eids n None (all_owns bs)) ≡ false =
              differ_among bs [] refl nums (λ top. absurd cc) (none_left _ _ none) (ap one_twice (none_at_top bs)) (none_right (one_twice (all_beginning n true (all_owns bs))) _ none) in
              cc)
        ]
        | inr once ↦ once ∙ sym (neither _ _ (once_among bs [] once) (unlike_beneath bs [] once))
      ]
