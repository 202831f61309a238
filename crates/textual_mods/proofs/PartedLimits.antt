-- A split is held back as an insertion of its second part alone would be, and by the length of what it writes.
use Rattle.std.proofs.Common.{◌≡◌, ◌∙◌, sym, ap, refl, ℕ, ◌+◌, ◌≤◌, Bool, true, false, cond, ◌||◌, max, List, [], ◌∷◌, ◌++◌, nat_lt, length, inl, inr, arith}
use Rattle.std.specs.Str.{bytes_eq}
use Rattle.std.proofs.lemmas.Bool.{cases_Bool}
use Rattle.eid_paths.specs.declared.numbering.Numbering.{Numbering}
use Rattle.act_tree.specs.Branches.{Branches, branch, no_branches, more_branches, heights, counts}
use Rattle.act_tree.specs.Changes.{any_holds, changed, first, behind, parted, after}
use Rattle.act_tree.specs.EidLevels.{begins, own_level, all_beginning, all_going_on, alike_inside, alike_beneath}
use Rattle.act_tree.specs.Faults.{owns, all_owns, is_long, has_long, have_long}
use Rattle.act_tree.specs.Provisions.{Provision}
use Rattle.act_tree.specs.Wids.{all_wids, one_twice}
use Rattle.act_tree.proofs.Frames.{or_left, or_right, none_left, none_right, neither}
use Rattle.act_tree.proofs.Texts.{same_text}
use Rattle.textual_mods.proofs.InsertionLimits.{parts_join, for_each, on_joined, unlike_joined, short_parts}
use Rattle.textual_mods.proofs.JoinLimits.{times, times-append, few_once, once_few, begun_joined, heights_joined, counts_joined}
use Rattle.textual_mods.proofs.OnePlace.{AreDistinct, are_distinct, not_changed}
use Rattle.act_tree.specs.declared.limits.TheConstants.{MAX_TEXT_BYTES}

-- the second part with no texts and refs
abbrev pub bare : Provision → Provision
bare q = record q { own = record q.own { heading = []; content = []; refs = [] } }

-- it stands alone
abbrev pub alone : Provision → Branches Provision
alone q = more_branches (branch (bare q) no_branches) no_branches

module _ (n : Numbering) (k : ℕ) (head : List ℕ) (q : Provision) (w : List ℕ) where
  -- the text with the split
  abbrev pub split : Branches Provision → Branches Provision
  split bs = changed (parted k head q) w bs

  -- the text with the second part alone right behind the provision
  abbrev pub added : Branches Provision → Branches Provision
  added bs = changed (after (alone q)) w bs

  abbrev cut : Provision → Provision
  cut p = record p { own = record p.own { content = head } }

  pub begun_split : (x : List ℕ) (t : Bool) (bs : Branches Provision) → times x (all_beginning n t (all_owns (split bs))) ≡ times x (all_beginning n t (all_owns (added bs)))
  begun_split x t no_branches = refl
  begun_split x t (more_branches (branch p below) bs) =
      let own : List (List ℕ) = cond (begins n t p.own) (own_level p.own ∷ []) [] in
      let second : List (List ℕ) = cond (begins n t q.own) (own_level q.own ∷ []) [] in
      let front : List (List ℕ) = all_beginning n false (all_owns (first k (split below))) in
      let back : List (List ℕ) = all_beginning n false (all_owns (behind k (split below))) in
      let whole : times x (all_beginning n false (all_owns (split below))) ≡ times x front + times x back =
      ap (λ cs. times x (all_beginning n false (all_owns cs))) (sym (parts_join k (split below))) ∙ begun_joined n x false (first k (split below)) (behind k (split below)) in
      let inner : List (List ℕ) = all_beginning n false (all_owns (added below)) in
      let now : List (List ℕ) = all_beginning n t (all_owns (split bs)) in
      let then : List (List ℕ) = all_beginning n t (all_owns (added bs)) in
      elim (bytes_eq p.wid w) as (λ s. times x (all_beginning n t (all_owns (cond s (more_branches (branch (cut p) (first k (split below))) (more_branches (branch q (behind k (split below))) (split bs))) (more_branches (branch p (split below)) (split bs)))))
      ≡ times x (all_beginning n t (all_owns (cond s (more_branches (branch p (added below)) (more_branches (branch (bare q) no_branches) (added bs))) (more_branches (branch p (added below)) (added bs)))))) [
        | true ↦ omega (
          arith,
          whole,
          begun_split x false below,
          begun_split x t bs,
          times-append x (own ++ front) ((second ++ back) ++ now),
          times-append x own front,
          times-append x (second ++ back) now,
          times-append x second back,
          times-append x (own ++ inner) ((second ++ []) ++ then),
          times-append x own inner,
          times-append x (second ++ []) then,
          times-append x second [],
        )
        | false ↦
            let plain : List (List ℕ) = all_beginning n false (all_owns (split below)) in
            omega (arith, begun_split x false below, begun_split x t bs, times-append x (own ++ plain) now, times-append x own plain, times-append x (own ++ inner) then, times-append x own inner)
      ]

  pub on_split : (t : Bool) (bs : Branches Provision) → all_going_on n t (all_owns (split bs)) ≡ all_going_on n t (all_owns (added bs))
  on_split t no_branches = refl
  on_split t (more_branches (branch p below) bs) =
      let own : List (List ℕ) = cond (begins n t p.own) [] (own_level p.own ∷ []) in
      let second : List (List ℕ) = cond (begins n t q.own) [] (own_level q.own ∷ []) in
      elim (bytes_eq p.wid w) as (λ s. all_going_on n t (all_owns (cond s (more_branches (branch (cut p) (first k (split below))) (more_branches (branch q (behind k (split below))) (split bs))) (more_branches (branch p (split below)) (split bs))))
      ≡ all_going_on n t (all_owns (cond s (more_branches (branch p (added below)) (more_branches (branch (bare q) no_branches) (added bs))) (more_branches (branch p (added below)) (added bs))))) [
        | true ↦ ap (λ ls. own ++ (second ++ ls)) (on_split t bs)
        | false ↦ ap (λ ls. own ++ ls) (on_split t bs)
      ]

  pub heights_split : (bs : Branches Provision) → heights (all_owns (split bs)) ≤ heights (all_owns bs)
  heights_split no_branches = omega arith
  heights_split (more_branches (branch p below) bs) =
      let whole : heights (all_owns (split below)) ≡ max (heights (all_owns (first k (split below)))) (heights (all_owns (behind k (split below)))) =
      ap (λ cs. heights (all_owns cs)) (sym (parts_join k (split below))) ∙ heights_joined (first k (split below)) (behind k (split below)) in
      elim (bytes_eq p.wid w) as (λ s. heights (all_owns (cond s (more_branches (branch (cut p) (first k (split below))) (more_branches (branch q (behind k (split below))) (split bs))) (more_branches (branch p (split below)) (split bs))))
      ≤ max (heights (all_owns below) + 1) (heights (all_owns bs))) [
        | true ↦ omega (arith, whole, heights_split below, heights_split bs)
        | false ↦ omega (arith, heights_split below, heights_split bs)
      ]

  pub counts_split : (bs : Branches Provision) → counts (all_owns (split bs)) ≡ counts (all_owns bs) + for_each 1 w bs
  counts_split no_branches = refl
  counts_split (more_branches (branch p below) bs) =
      let whole : counts (all_owns (split below)) ≡ counts (all_owns (first k (split below))) + counts (all_owns (behind k (split below))) =
      ap (λ cs. counts (all_owns cs)) (sym (parts_join k (split below))) ∙ counts_joined (first k (split below)) (behind k (split below)) in
      elim (bytes_eq p.wid w) as (λ s. counts (all_owns (cond s (more_branches (branch (cut p) (first k (split below))) (more_branches (branch q (behind k (split below))) (split bs))) (more_branches (branch p (split below)) (split bs))))
      ≡ counts (all_owns below) + 1 + counts (all_owns bs) + (cond s 1 0 + for_each 1 w below + for_each 1 w bs)) [
        | true ↦ omega (arith, whole, counts_split below, counts_split bs)
        | false ↦ omega (arith, counts_split below, counts_split bs)
      ]

  -- what is written is too long
  abbrev pub writes_long : Bool
  writes_long = nat_lt MAX_TEXT_BYTES (length head) || is_long q.own

  pub short_split : (bs : Branches Provision) → writes_long ≡ false → have_long (all_owns bs) ≡ false → have_long (all_owns (split bs)) ≡ false
  short_split no_branches fine short = refl
  short_split (more_branches (branch p below) bs) fine short =
      let own : has_long (owns (branch p below)) ≡ false = none_left _ _ short in
      let inner : have_long (all_owns (split below)) ≡ false = short_split below fine (none_right (is_long p.own) _ own) in
      let later : have_long (all_owns (split bs)) ≡ false = short_split bs fine (none_right (has_long (owns (branch p below))) _ short) in
      let parts = short_parts k (split below) inner in
      elim (bytes_eq p.wid w) as (λ s. have_long (all_owns (cond s (more_branches (branch (cut p) (first k (split below))) (more_branches (branch q (behind k (split below))) (split bs))) (more_branches (branch p (split below)) (split bs)))) ≡ false) [
        | true ↦ neither _ _ (neither _ _ (neither _ _ (none_left (nat_lt MAX_TEXT_BYTES (length p.own.heading)) _ (none_left (is_long p.own) _ own)) (none_left (nat_lt MAX_TEXT_BYTES (length head)) _ fine)) parts.0)
            (neither _ _ (neither _ _ (none_right (nat_lt MAX_TEXT_BYTES (length head)) _ fine) parts.1) later)
        | false ↦ neither _ _ (neither _ _ (none_left (is_long p.own) _ own) inner) later
      ]

  pub long_split : (bs : Branches Provision) → writes_long ≡ true → any_holds w bs ≡ true → have_long (all_owns (split bs)) ≡ true
  long_split no_branches long held = absurd cc
  long_split (more_branches (branch p below) bs) long held =
      let after_all : Bool → Branches Provision = λ s. cond s (more_branches (branch (cut p) (first k (split below))) (more_branches (branch q (behind k (split below))) (split bs))) (more_branches (branch p (split below)) (split bs)) in
      elim (cases_Bool (bytes_eq p.wid w)) [
        | inl it ↦
            ap (λ s. have_long (all_owns (after_all s))) it
            ∙ elim (cases_Bool (nat_lt MAX_TEXT_BYTES (length head))) [
              | inl over ↦ or_left _ _ (or_left _ _ (or_right (nat_lt MAX_TEXT_BYTES (length p.own.heading)) _ over))
              | inr fine ↦ or_right (has_long (owns (branch (cut p) (first k (split below))))) _ (or_left _ _ (or_left _ _ (sym (ap (λ s. s || is_long q.own) fine) ∙ long)))
            ]
        | inr other ↦
            ap (λ s. have_long (all_owns (after_all s))) other
            ∙ elim (cases_Bool (any_holds w below)) [
              | inl under ↦ or_left _ _ (or_right (is_long p.own) _ (long_split below long under))
              | inr none ↦ or_right (has_long (owns (branch p (split below)))) _ (long_split bs long (sym (ap (λ s. (s || any_holds w below) || any_holds w bs) other ∙ ap (λ s. s || any_holds w bs) none) ∙ held))
            ]
      ]

  once_parts : (bs : Branches Provision) → one_twice (all_going_on n false (all_owns bs)) ≡ false → (one_twice (all_going_on n false (all_owns (first k bs))) ≡ false) × (one_twice (all_going_on n false (all_owns (behind k bs))) ≡ false)
  once_parts bs once =
      let sum : (x : List ℕ) → times x (all_going_on n false (all_owns bs)) ≡ times x (all_going_on n false (all_owns (first k bs))) + times x (all_going_on n false (all_owns (behind k bs))) =
      λ x. ap (λ cs. times x (all_going_on n false (all_owns cs))) (sym (parts_join k bs)) ∙ on_joined n x false (first k bs) (behind k bs) in (
        few_once (all_going_on n false (all_owns (first k bs))) (λ x. let few : times x (all_going_on n false (all_owns bs)) ≤ 1 = once_few (all_going_on n false (all_owns bs)) x once in omega (arith, sum x)),
        few_once (all_going_on n false (all_owns (behind k bs))) (λ x. let few : times x (all_going_on n false (all_owns bs)) ≤ 1 = once_few (all_going_on n false (all_owns bs)) x once in omega (arith, sum x)),
      )

  unlike_parts : (bs : Branches Provision) → alike_beneath n (all_owns bs) ≡ false → (alike_beneath n (all_owns (first k bs)) ≡ false) × (alike_beneath n (all_owns (behind k bs)) ≡ false)
  unlike_parts bs none =
      let whole : (alike_beneath n (all_owns (first k bs)) || alike_beneath n (all_owns (behind k bs))) ≡ false =
      sym (unlike_joined n (first k bs) (behind k bs)) ∙ ap (λ cs. alike_beneath n (all_owns cs)) (parts_join k bs) ∙ none in
      (none_left _ _ whole, none_right (alike_beneath n (all_owns (first k bs))) _ whole)

  pub alike_split : (bs : Branches Provision) → one_twice (all_wids bs) ≡ false → alike_beneath n (all_owns bs) ≡ false → alike_beneath n (all_owns (split bs)) ≡ alike_beneath n (all_owns (added bs))
  alike_split no_branches once none = refl
  alike_split (more_branches (branch p below) bs) once none =
      let d : AreDistinct p below bs = are_distinct p below bs once in
      let own : (one_twice (all_going_on n false (all_owns below)) || alike_beneath n (all_owns below)) ≡ false = none_left _ _ none in
      let later : alike_beneath n (all_owns (split bs)) ≡ alike_beneath n (all_owns (added bs)) =
      alike_split bs d.behind_once (none_right (one_twice (all_going_on n false (all_owns below)) || alike_beneath n (all_owns below)) _ none) in
      let inner : alike_beneath n (all_owns (split below)) ≡ alike_beneath n (all_owns (added below)) =
      alike_split below d.beneath_once (none_right (one_twice (all_going_on n false (all_owns below))) _ own) in
      let now : Bool → Branches Provision → Branches Provision = λ s cs. cond s (more_branches (branch (cut p) (first k cs)) (more_branches (branch q (behind k cs)) (split bs))) (more_branches (branch p cs) (split bs)) in
      let plain : Bool → Branches Provision → Branches Provision = λ s cs. cond s (more_branches (branch p cs) (more_branches (branch (bare q) no_branches) (added bs))) (more_branches (branch p cs) (added bs)) in
      elim (cases_Bool (bytes_eq p.wid w)) [
        | inl it ↦
            let none_below : any_holds w below ≡ false = sym (ap (λ v. any_holds v below) (same_text p.wid w it)) ∙ d.not_beneath in
            let levels = once_parts below (none_left _ _ own) in
            let deeper = unlike_parts below (none_right (one_twice (all_going_on n false (all_owns below))) _ own) in
            ap (λ s. alike_beneath n (all_owns (now s (split below)))) it
            ∙ ap (λ cs. alike_beneath n (all_owns (now true cs))) (not_changed (parted k head q) w below none_below)
            ∙ ap (λ s. s || (alike_inside n (owns (branch q (behind k below))) || alike_beneath n (all_owns (split bs)))) (neither (one_twice (all_going_on n false (all_owns (first k below)))) (alike_beneath n (all_owns (first k below))) levels.0 deeper.0)
            ∙ ap (λ s. s || alike_beneath n (all_owns (split bs))) (neither (one_twice (all_going_on n false (all_owns (behind k below)))) (alike_beneath n (all_owns (behind k below))) levels.1 deeper.1)
            ∙ later
            ∙ sym (ap (λ s. alike_beneath n (all_owns (plain s (added below)))) it
            ∙ ap (λ cs. alike_beneath n (all_owns (plain true cs))) (not_changed (after (alone q)) w below none_below)
            ∙ ap (λ s. s || alike_beneath n (all_owns (added bs))) own)
        | inr other ↦
            ap (λ s. alike_beneath n (all_owns (now s (split below)))) other
            ∙ ap (λ ls. (one_twice ls || alike_beneath n (all_owns (split below))) || alike_beneath n (all_owns (split bs))) (on_split false below)
            ∙ ap (λ s. (one_twice (all_going_on n false (all_owns (added below))) || s) || alike_beneath n (all_owns (split bs))) inner
            ∙ ap (λ s. (one_twice (all_going_on n false (all_owns (added below))) || alike_beneath n (all_owns (added below))) || s) later
            ∙ sym (ap (λ s. alike_beneath n (all_owns (plain s (added below)))) other)
      ]
