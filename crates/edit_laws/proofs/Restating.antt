-- Provisions that get another content or another num, by their wIds.
use Rattle.std.proofs.Common.{◌≡◌, ◌∙◌, sym, ap, refl, ℕ, zero, suc, true, false, cond, List, [], ◌∷◌, length, Option, Some, None, option_map, ◌⊎◌, inl, inr}
use Rattle.std.specs.Prelude.{map, is_some}
use Rattle.std.specs.Str.{bytes_eq}
use Rattle.std.proofs.lemmas.Bool.{cases_Bool}
use Rattle.act_tree.specs.Branches.{Branch, Branches, branch, no_branches, more_branches, listed}
use Rattle.act_tree.specs.Changes.{Step, has_wid, any_holds, changed, joined, first, behind, with_content, renumbered, num_given, found, sought, head_of, next_of, or_else}
use Rattle.act_tree.specs.Provisions.{Provision}
use Rattle.act_tree.specs.Wids.{is_among}
use Rattle.act_tree.proofs.Frames.{none_left, none_right}
use Rattle.textual_mods.proofs.Behind.{AllWids, HaveWids}
use Rattle.edit_laws.proofs.AtOnePlace.{Alone}
use Rattle.textual_mods.proofs.OnePlace.{at_place, elsewhere, held_found, first_found, found_past, beneath_it, behind_it, first_of}

-- of a provision's wId and a text of it, another text
abbrev pub Saying : Type 0
Saying = List ℕ → List ℕ → List ℕ

abbrev pub as_it_was : Saying
as_it_was w text = text

-- the provisions with other contents and nums
abbrev mutual
  pub inside_restated : Saying → Saying → Branch Provision → Branch Provision
  inside_restated content num (branch p below) =
      branch (record p { own = record p.own { content = content p.wid p.own.content; num = num p.wid p.own.num } }) (restated content num below)

  pub restated : Saying → Saying → Branches Provision → Branches Provision
  restated content num no_branches = no_branches
  restated content num (more_branches b bs) = more_branches (inside_restated content num b) (restated content num bs)

-- the wIds that pairs name
abbrev pub wids_of : List (List ℕ × List ℕ) → List (List ℕ)
wids_of pairs = map (λ pair. pair.0) pairs

-- a wId that no pair names keeps its num
pub num_kept : (pairs : List (List ℕ × List ℕ)) (w num : List ℕ) → is_among w (wids_of pairs) ≡ false → num_given pairs w num ≡ num
num_kept [] w num none = refl
num_kept (pair ∷ pairs) w num none =
    ap (λ t. cond t pair.1 (num_given pairs w num)) (none_left (bytes_eq w pair.0) _ none) ∙ num_kept pairs w num (none_right (bytes_eq w pair.0) _ none)

-- a renumbering gives other nums
pub nums_restate : (pairs : List (List ℕ × List ℕ)) (bs : Branches Provision) → renumbered pairs bs ≡ restated as_it_was (num_given pairs) bs
nums_restate pairs no_branches = refl
nums_restate pairs (more_branches (branch p below) bs) =
    let given : Provision = record p { own = record p.own { num = num_given pairs p.wid p.own.num } } in
    ap (λ cs. more_branches (branch given cs) (renumbered pairs bs)) (nums_restate pairs below)
    ∙ ap (more_branches (branch given (restated as_it_was (num_given pairs) below))) (nums_restate pairs bs)

-- another content at one wId
abbrev pub content_at : List ℕ → List ℕ → Saying
content_at v content w text = cond (bytes_eq w v) content text

pub content_restates : (v content : List ℕ) (bs : Branches Provision) → changed (with_content content) v bs ≡ restated (content_at v content) as_it_was bs
content_restates v content no_branches = refl
content_restates v content (more_branches (branch p below) bs) =
    let under : Branches Provision = restated (content_at v content) as_it_was below in
    let behind : Branches Provision = restated (content_at v content) as_it_was bs in
    ap (λ cs. cond (bytes_eq p.wid v) (with_content content (branch p cs) (changed (with_content content) v bs)) (more_branches (branch p cs) (changed (with_content content) v bs))) (content_restates v content below)
    ∙ ap (λ cs. cond (bytes_eq p.wid v) (with_content content (branch p under) cs) (more_branches (branch p under) cs)) (content_restates v content bs)
    ∙ elim (bytes_eq p.wid v) as (λ t. cond t (with_content content (branch p under) behind) (more_branches (branch p under) behind)
    ≡ more_branches (branch (record p { own = record p.own { content = cond t content p.own.content } }) under) behind) [ true ↦ refl | false ↦ refl ]

-- two of which each gives the same whatever the other gave
pub restated_both : (content num content_two num_two : Saying) → ((w x : List ℕ) → content w (content_two w x) ≡ content_two w (content w x)) → ((w x : List ℕ) → num w (num_two w x) ≡ num_two w (num w x))
    → (bs : Branches Provision) → restated content num (restated content_two num_two bs) ≡ restated content_two num_two (restated content num bs)
restated_both content num content_two num_two contents nums no_branches = refl
restated_both content num content_two num_two contents nums (more_branches (branch p below) bs) =
    let after : Branches Provision = restated content num (restated content_two num_two bs) in
    ap (λ x. more_branches (branch (record p { own = record p.own { content = x; num = num p.wid (num_two p.wid p.own.num) } }) (restated content num (restated content_two num_two below))) after) (contents p.wid p.own.content)
    ∙ ap (λ x. more_branches (branch (record p { own = record p.own { content = content_two p.wid (content p.wid p.own.content); num = x } }) (restated content num (restated content_two num_two below))) after) (nums p.wid p.own.num)
    ∙ ap (λ cs. more_branches (branch (record p { own = record p.own { content = content_two p.wid (content p.wid p.own.content); num = num_two p.wid (num p.wid p.own.num) } }) cs) after) (restated_both content num content_two num_two contents nums below)
    ∙ ap (more_branches (branch (record p { own = record p.own { content = content_two p.wid (content p.wid p.own.content); num = num_two p.wid (num p.wid p.own.num) } }) (restated content_two num_two (restated content num below))))
    (restated_both content num content_two num_two contents nums bs)

pub or_else_map : (f : Branch Provision → Branch Provision) (o u : Option (Branch Provision)) → option_map f (or_else o u) ≡ or_else (option_map f o) (option_map f u)
or_else_map f None u = refl
or_else_map f (Some b) u = refl

pub some_mapped : (f : Branch Provision → Branch Provision) (o : Option (Branch Provision)) → is_some (option_map f o) ≡ is_some o
some_mapped f None = refl
some_mapped f (Some b) = refl

abbrev pub content_of : Branch Provision → List ℕ
content_of (branch p below) = p.own.content

module _ (content num : Saying) where
  abbrev other : Branches Provision → Branches Provision
  other bs = restated content num bs

  abbrev inside : Branch Provision → Branch Provision
  inside b = inside_restated content num b

  pub restated_joined : (xs ys : Branches Provision) → other (joined xs ys) ≡ joined (other xs) (other ys)
  restated_joined no_branches ys = refl
  restated_joined (more_branches b xs) ys = ap (more_branches (inside b)) (restated_joined xs ys)

  -- what is read of them
  pub found_restated : (u : List ℕ) (bs : Branches Provision) → found u (restated content num bs) ≡ option_map (inside_restated content num) (found u bs)
  found_restated u no_branches = refl
  found_restated u (more_branches (branch p below) bs) =
      let given : Provision = record p { own = record p.own { content = content p.wid p.own.content; num = num p.wid p.own.num } } in
      ap (λ o. or_else (cond (bytes_eq p.wid u) (Some (branch given (other below))) o) (found u (other bs))) (found_restated u below)
      ∙ ap (or_else (cond (bytes_eq p.wid u) (Some (branch given (other below))) (option_map (inside_restated content num) (found u below)))) (found_restated u bs)
      ∙ ap (λ o. or_else o (option_map (inside_restated content num) (found u bs)))
      (elim (bytes_eq p.wid u) as (λ t. cond t (Some (branch given (other below))) (option_map (inside_restated content num) (found u below))
      ≡ option_map (inside_restated content num) (cond t (Some (branch p below)) (found u below))) [ true ↦ refl | false ↦ refl ])
      ∙ sym (or_else_map (inside_restated content num) (sought u (branch p below)) (found u bs))

  head_restated : (bs : Branches Provision) → head_of (other bs) ≡ option_map (inside_restated content num) (head_of bs)
  head_restated no_branches = refl
  head_restated (more_branches b bs) = refl

  pub next_restated : (v : List ℕ) (bs : Branches Provision) → next_of v (restated content num bs) ≡ option_map (inside_restated content num) (next_of v bs)
  next_restated v no_branches = refl
  next_restated v (more_branches (branch p below) bs) =
      let map_of : Option (Branch Provision) → Option (Branch Provision) = option_map (inside_restated content num) in
      ap (λ o. cond (bytes_eq p.wid v) o (or_else (next_of v (other below)) (next_of v (other bs)))) (head_restated bs)
      ∙ ap (λ o. cond (bytes_eq p.wid v) (map_of (head_of bs)) (or_else o (next_of v (other bs)))) (next_restated v below)
      ∙ ap (λ o. cond (bytes_eq p.wid v) (map_of (head_of bs)) (or_else (map_of (next_of v below)) o)) (next_restated v bs)
      ∙ elim (bytes_eq p.wid v) as (λ t. cond t (map_of (head_of bs)) (or_else (map_of (next_of v below)) (map_of (next_of v bs)))
      ≡ map_of (cond t (head_of bs) (or_else (next_of v below) (next_of v bs)))) [
        | true ↦ refl
        | false ↦ sym (or_else_map (inside_restated content num) (next_of v below) (next_of v bs))
      ]

  -- how many there are, and the first of them
  pub count_restated : (bs : Branches Provision) → length (listed (restated content num bs)) ≡ length (listed bs)
  count_restated no_branches = refl
  count_restated (more_branches b bs) = ap suc (count_restated bs)

  pub first_restated : (n : ℕ) (bs : Branches Provision) → other (first n bs) ≡ first n (other bs)
  first_restated zero bs = refl
  first_restated (suc n) no_branches = refl
  first_restated (suc n) (more_branches b bs) = ap (more_branches (inside b)) (first_restated n bs)

  pub behind_restated : (n : ℕ) (bs : Branches Provision) → other (behind n bs) ≡ behind n (other bs)
  behind_restated zero bs = refl
  behind_restated (suc n) no_branches = refl
  behind_restated (suc n) (more_branches b bs) = behind_restated n bs

  pub held_restated : (w : List ℕ) (bs : Branches Provision) → any_holds w (restated content num bs) ≡ any_holds w bs
  held_restated w bs =
      sym (held_found w (other bs)) ∙ ap is_some (found_restated w bs) ∙ some_mapped (inside_restated content num) (found w bs) ∙ held_found w bs

  -- nothing is given at a wId
  abbrev pub IsKept : List ℕ → Type 0
  IsKept w = (text : List ℕ) → (content w text ≡ text) × (num w text ≡ text)

  mutual
    inside_kept : (b : Branch Provision) → AllWids IsKept b → inside b ≡ b
    inside_kept (branch p below) kept =
        ap (λ x. branch (record p { own = record p.own { content = x; num = num p.wid p.own.num } }) (other below)) (kept.0 p.own.content).0
        ∙ ap (λ x. branch (record p { own = record p.own { num = x } }) (other below)) (kept.0 p.own.num).1
        ∙ ap (branch p) (all_kept below kept.1)

    pub all_kept : (bs : Branches Provision) → HaveWids IsKept bs → restated content num bs ≡ bs
    all_kept no_branches kept = refl
    all_kept (more_branches b bs) kept = ap (λ c. more_branches c (other bs)) (inside_kept b kept.0) ∙ ap (more_branches b) (all_kept bs kept.1)

  -- a change and they go in either order, if its step and they do
  pub restated_changed : (step : Step) (w : List ℕ) → ((b : Branch Provision) (rest : Branches Provision) → has_wid w b ≡ true → restated content num (step b rest) ≡ step (inside_restated content num b) (restated content num rest))
      → (bs : Branches Provision) → restated content num (changed step w bs) ≡ changed step w (restated content num bs)
  restated_changed step w steady no_branches = refl
  restated_changed step w steady (more_branches (branch p below) bs) =
      let given : Provision = record p { own = record p.own { content = content p.wid p.own.content; num = num p.wid p.own.num } } in
      let under : other (changed step w below) ≡ changed step w (other below) = restated_changed step w steady below in
      let after_it : other (changed step w bs) ≡ changed step w (other bs) = restated_changed step w steady bs in
      elim (cases_Bool (bytes_eq p.wid w)) [
        | inl it ↦
            ap (restated content num) (at_place step w (branch p below) bs it)
            ∙ steady (branch p (changed step w below)) (changed step w bs) it
            ∙ ap (λ cs. step (branch given cs) (other (changed step w bs))) under
            ∙ ap (step (branch given (changed step w (other below)))) after_it
            ∙ sym (at_place step w (branch given (other below)) (other bs) it)
        | inr not_it ↦
            ap (restated content num) (elsewhere step w (branch p below) bs not_it)
            ∙ ap (λ cs. more_branches (branch given cs) (other (changed step w bs))) under
            ∙ ap (more_branches (branch given (changed step w (other below)))) after_it
            ∙ sym (elsewhere step w (branch given (other below)) (other bs) not_it)
      ]

pub found_has : (v : List ℕ) (b : Branch Provision) (bs : Branches Provision) → found v bs ≡ Some b → has_wid v b ≡ true
found_has v b no_branches is = absurd cc
found_has v b (more_branches (branch p below) bs) is =
    elim (cases_Bool (bytes_eq p.wid v)) [
      | inl it ↦ (let same : Some (branch p below) ≡ Some b = sym (first_found v p below bs it) ∙ is in let one : branch p below ≡ b = cc in ap (has_wid v) (sym one) ∙ it)
      | inr not_it ↦ elim (first_of v b below bs (sym (found_past v p below bs not_it) ∙ is)) [ beneath_it here held ↦ found_has v b below here | behind_it none later ↦ found_has v b bs later ]
    ]

-- the content that a provision has, given to it, changes nothing; and what is so unchanged has it
pub content_is_there : (v : List ℕ) (p : Provision) (under bs : Branches Provision) → Alone v (branch p under) bs → restated (content_at v p.own.content) as_it_was bs ≡ bs
content_is_there v p under no_branches alone = refl
content_is_there v p under (more_branches (branch q below) bs) alone =
    ap (λ x. more_branches (branch (record q { own = record q.own { content = x } }) (restated (content_at v p.own.content) as_it_was below)) (restated (content_at v p.own.content) as_it_was bs)) (same (cases_Bool (bytes_eq q.wid v)))
    ∙ ap (λ cs. more_branches (branch q cs) (restated (content_at v p.own.content) as_it_was bs)) (content_is_there v p under below alone.1.0)
    ∙ ap (more_branches (branch q below)) (content_is_there v p under bs alone.1.1)
  where
    same : (bytes_eq q.wid v ≡ true) ⊎ (bytes_eq q.wid v ≡ false) → cond (bytes_eq q.wid v) p.own.content q.own.content ≡ q.own.content
    same (inl it) = ap (λ t. cond t p.own.content q.own.content) it ∙ ap content_of (sym (alone.0 it).is)
    same (inr none) = ap (λ t. cond t p.own.content q.own.content) none

pub content_found : (v content : List ℕ) (x : Branches Provision) → restated (content_at v content) as_it_was x ≡ x → any_holds v x ≡ true → option_map content_of (found v x) ≡ Some content
content_found v content x same held = by_found (found v x) refl
  where
    by_found : (o : Option (Branch Provision)) → found v x ≡ o → option_map content_of (found v x) ≡ Some content
    by_found None is = absurd (let never : true ≡ false = sym held ∙ sym (held_found v x) ∙ ap is_some is in cc)
    by_found (Some (branch p below)) is =
        ap (λ cs. option_map content_of (found v cs)) (sym same) ∙ ap (option_map content_of) (found_restated (content_at v content) as_it_was v x ∙ ap (option_map (inside_restated (content_at v content) as_it_was)) is)
        ∙ ap (λ t. Some (cond t content p.own.content)) (found_has v (branch p below) x is)
