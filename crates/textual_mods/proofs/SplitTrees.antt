-- What can be held against a split is told before it is made.
use Rattle.std.proofs.Common.{◌≡◌, ◌∙◌, sym, ap, refl, ℕ, ◌+◌, ◌≤◌, Bool, true, false, cond, ◌||◌, List, [], ◌∷◌, ◌++◌, nat_lt, Some, None, inl, inr, arith}
use Rattle.std.specs.Prelude.{Ok, Err, option_map, is_some}
use Rattle.std.proofs.lemmas.Bool.{cases_Bool, le-ltb}
use Rattle.desk_base.specs.declared.id.Id.{Id}
use Rattle.eid_paths.specs.declared.element.Element.{Element}
use Rattle.eid_paths.specs.declared.numbering.Numbering.{Numbering}
use Rattle.eid_paths.specs.Elements.{is_throughout}
use Rattle.eid_paths.specs.Levels.{level_text}
use Rattle.eid_paths.specs.Nums.{is_num}
use Rattle.act_tree.specs.declared.build_fault.BuildFault.{BuildFault}
use Rattle.act_tree.specs.declared.tree.Tree.{Tree}
use Rattle.act_tree.specs.Branches.{Branches, branch, no_branches, more_branches, heights, counts}
use Rattle.act_tree.specs.Brought.{bringer, brought, second_part}
use Rattle.act_tree.specs.Changes.{any_holds, parted, after}
use Rattle.act_tree.specs.EidLevels.{all_beginning, all_going_on, alike_beneath, levels_begun, levels_on}
use Rattle.act_tree.specs.Faults.{all_owns, all_eids, have_long, first_fault, first_cause, fault_cause}
use Rattle.act_tree.specs.Numbered.{are_numbered}
use Rattle.act_tree.specs.Provisions.{Own, Provision}
use Rattle.act_tree.specs.Seen.{tree_view, has_node, provision_at, below_at, with_body, grafted_at, changed_at}
use Rattle.act_tree.specs.Wids.{is_among, one_twice}
use Rattle.act_tree.proofs.BroughtWids.{none_throughout}
use Rattle.act_tree.proofs.FoundNodes.{found_at, nums_kept}
use Rattle.act_tree.proofs.Frames.{none_right}
use Rattle.act_tree.proofs.LevelsDiffer.{levels_decide}
use Rattle.act_tree.proofs.Nums.{KeepsNums, both, joined_kept, changed_kept, parted_keeps}
use Rattle.act_tree.proofs.Walking.{branch_is}
use Rattle.textual_mods.specs.Edits.{unless_for, within_limits}
use Rattle.textual_mods.specs.Insertions.{one_among, begins_again, goes_on_again, height_with, is_root, number_taken, insertion_fault, one_alone, split_fault}
use Rattle.textual_mods.proofs.InsertedTrees.{fault_of_insertion, counts_owns}
use Rattle.textual_mods.proofs.InsertionLimits.{for_one}
use Rattle.textual_mods.proofs.JoinLimits.{times, few_once, once_few, or_none}
use Rattle.textual_mods.proofs.Limits.{IsPlaced, is_placed, is_short, fault_by, faultless}
use Rattle.textual_mods.proofs.OnePlace.{held_found}
use Rattle.textual_mods.proofs.PartedLimits.{alone, split, added, begun_split, heights_split, counts_split, writes_long, short_split, long_split, alike_split}
use Rattle.act_tree.proofs.WidsDiffer.{wids_differ}
use Rattle.act_tree.specs.declared.limits.TheConstants.{MAX_DEPTH}
use Rattle.act_tree.specs.declared.limits.NodeLimit.{NodeLimit}
use Rattle.act_tree.specs.NodeLimits.{most_nodes}

-- texts that stand as often
same_twice : (xs ys : List (List ℕ)) → ((x : List ℕ) → times x xs ≡ times x ys) → one_twice xs ≡ one_twice ys
same_twice xs ys same =
    elim (cases_Bool (one_twice ys)) [
      | inr once ↦ few_once xs (λ x. let few : times x ys ≤ 1 = once_few ys x once in omega (arith, same x)) ∙ sym once
      | inl twice ↦ elim (cases_Bool (one_twice xs)) [
        | inl also ↦ also ∙ sym twice
        | inr once ↦ absurd (
            let never : one_twice ys ≡ false = few_once ys (λ x. let few : times x xs ≤ 1 = once_few xs x once in omega (arith, same x)) in
            cc)
      ]
    ]

-- the first of four tests is told by the cause
first_test : (a b c d a' b' c' d' : Bool) → option_map fault_cause (fault_by a b c d) ≡ option_map fault_cause (fault_by a' b' c' d') → a ≡ a'
first_test true b c d true b' c' d' is = refl
first_test false b c d false b' c' d' is = refl
first_test true b c d false true c' d' is = absurd cc
first_test true b c d false false true d' is = absurd cc
first_test true b c d false false false true is = absurd cc
first_test true b c d false false false false is = absurd cc
first_test false true c d true b' c' d' is = absurd cc
first_test false false true d true b' c' d' is = absurd cc
first_test false false false true true b' c' d' is = absurd cc
first_test false false false false true b' c' d' is = absurd cc

after_keeps : (new : Branches Provision) → are_numbered new ≡ true → KeepsNums (after new)
after_keeps new kept b rest one others = both _ _ one (joined_kept new rest kept others)

module _ (t : Tree) (id parent place : ℕ) (by : Id) (k : ℕ) (head num heading tail : List ℕ) (fits : first_cause (tree_view t) ≡ None) (node : has_node t id ≡ true) (other : id ≡ 0 → ⊥) (parent_node : has_node t parent ≡ true)
    (right_behind : (new : Branches Provision) → grafted_at t parent (place + 1) new ≡ changed_at t id (after new)) (kept : is_num num ≡ true) where
  abbrev n : Numbering
  n = (tree_view t).numbering

  abbrev limit : NodeLimit
  limit = (tree_view t).limit

  abbrev body : Branches Provision
  body = (tree_view t).body

  abbrev w : List ℕ
  w = (provision_at t id).wid

  abbrev element : Element
  element = (provision_at t id).own.element

  -- the second part
  abbrev pub q : Provision
  q = second_part by element num heading tail

  abbrev new : Branches Own
  new = one_alone element num

  is_brought : brought by new ≡ alone q
  is_brought =
      ap (λ s. more_branches (branch (the_second (cond s (level_text element num) (bringer by ++ 95 ∷ 95 ∷ level_text element num))) no_branches) no_branches) (none_throughout element)
    where
      the_second : List ℕ → Provision
      the_second wid = record { wid = wid; own = record { element = element; num = num; heading = []; content = []; refs = [] } }

  -- the text with the second part alone, and with the split
  abbrev plain : Branches Provision
  plain = added n k head q w body

  abbrev pub text : Branches Provision
  text = split n k head q w body

  plain_cause : first_cause (with_body t plain) ≡ option_map fault_cause (insertion_fault t parent new)
  plain_cause =
      ap (λ bs. first_cause (with_body t bs)) (sym (ap (grafted_at t parent (place + 1)) is_brought ∙ right_behind (alone q)))
      ∙ fault_of_insertion t by new fits refl (both (is_num num) true kept refl) parent (place + 1) parent_node

  alone_numbered : are_numbered (alone q) ≡ true
  alone_numbered = both _ _ (both _ _ kept refl) refl

  plain_taken : one_twice (all_eids n None (all_owns plain)) ≡ number_taken t parent new
  plain_taken =
      first_test (one_twice (all_eids n None (all_owns plain))) (nat_lt MAX_DEPTH (heights (all_owns plain))) (nat_lt (most_nodes limit) (counts (all_owns plain))) (have_long (all_owns plain))
      (number_taken t parent new) (nat_lt MAX_DEPTH (height_with (provision_at t parent).wid (heights new) body)) (nat_lt (most_nodes limit) (counts body + counts new)) false plain_cause

  faultless_body : first_fault n limit (all_owns body) ≡ None
  faultless_body = faultless (tree_view t) fits

  unlike_body : alike_beneath n (all_owns body) ≡ false
  unlike_body = none_right (one_twice (all_beginning n true (all_owns body))) _ (sym (levels_decide n body (nums_kept t)) ∙ (is_placed n limit (all_owns body) faultless_body).once)

  taken : one_twice (all_eids n None (all_owns text)) ≡ number_taken t parent new
  taken =
      levels_decide n text (changed_kept (parted k head q) w (parted_keeps k head q kept) body (nums_kept t))
      ∙ ap (λ s. s || alike_beneath n (all_owns text)) (same_twice (all_beginning n true (all_owns text)) (all_beginning n true (all_owns plain)) (λ x. begun_split n k head q w x true body))
      ∙ ap (λ s. one_twice (all_beginning n true (all_owns plain)) || s) (alike_split n k head q w body (wids_differ t) unlike_body)
      ∙ sym (levels_decide n plain (changed_kept (after (alone q)) w (after_keeps (alone q) alone_numbered) body (nums_kept t)))
      ∙ plain_taken

  held : any_holds w body ≡ true
  held = sym (held_found w body) ∙ ap is_some (found_at t id node other ∙ ap (λ b. Some b) (branch_is t id))

  low : nat_lt MAX_DEPTH (heights (all_owns text)) ≡ false
  low =
      let placed : IsPlaced n limit (all_owns body) = is_placed n limit (all_owns body) faultless_body in
      let most : heights (all_owns body) ≤ MAX_DEPTH = placed.low in
      le-ltb MAX_DEPTH (heights (all_owns text)) (omega (arith, heights_split n k head q w body))

  many : counts (all_owns text) ≡ counts body + 1
  many = counts_split n k head q w body ∙ ap (λ m. counts (all_owns body) + m) (for_one 1 w body (wids_differ t) held) ∙ ap (λ c. c + 1) (counts_owns body)

  long : have_long (all_owns text) ≡ writes_long n k head q w
  long =
      elim (cases_Bool (writes_long n k head q w)) [
        | inl over ↦ long_split n k head q w body over held ∙ sym over
        | inr fine ↦ short_split n k head q w body fine (is_short n limit (all_owns body) faultless_body) ∙ sym fine
      ]

  pub cause_of_split : first_cause (with_body t text) ≡ option_map fault_cause (fault_by (number_taken t parent new) false (nat_lt (most_nodes limit) (counts body + 1)) (writes_long n k head q w))
  cause_of_split =
      ap (λ s. option_map fault_cause (fault_by s (nat_lt MAX_DEPTH (heights (all_owns text))) (nat_lt (most_nodes limit) (counts (all_owns text))) (have_long (all_owns text)))) taken
      ∙ ap (λ s. option_map fault_cause (fault_by (number_taken t parent new) s (nat_lt (most_nodes limit) (counts (all_owns text))) (have_long (all_owns text)))) low
      ∙ ap (λ c. option_map fault_cause (fault_by (number_taken t parent new) false (nat_lt (most_nodes limit) c) (have_long (all_owns text)))) many
      ∙ ap (λ s. option_map fault_cause (fault_by (number_taken t parent new) false (nat_lt (most_nodes limit) (counts body + 1)) s)) long

  pub split_held : (fault : BuildFault) (long_told : Bool) → long_told ≡ writes_long n k head q w → Some fault ≡ split_fault t parent element num long_told → within_limits (tree_view t) (Ok text) ≡ Err (fault_cause fault)
  split_held fault long_told is_long_told is =
      ap (λ c. unless_for c text) (cause_of_split ∙ ap (λ s. option_map fault_cause (split_fault t parent element num s)) (sym is_long_told) ∙ ap (option_map fault_cause) (sym is))

  pub split_done : (long_told : Bool) → long_told ≡ writes_long n k head q w → None ≡ split_fault t parent element num long_told → within_limits (tree_view t) (Ok text) ≡ Ok text
  split_done long_told is_long_told is =
      ap (λ c. unless_for c text) (cause_of_split ∙ ap (λ s. option_map fault_cause (split_fault t parent element num s)) (sym is_long_told) ∙ ap (option_map fault_cause) (sym is))

-- whether the number of one provision is taken
pub level_taken_begun : (t : Tree) (parent : ℕ) (element : Element) (num : List ℕ) (told : Bool) → (is_root t parent || is_throughout (tree_view t).numbering element) ≡ true
    → told ≡ is_among (level_text element num) (levels_begun (tree_view t)) → told ≡ number_taken t parent (one_alone element num)
level_taken_begun t parent element num told begun is =
    let l : List ℕ = level_text element num in
    let levels : List (List ℕ) = levels_begun (tree_view t) in
    let siblings : List (List ℕ) = all_going_on (tree_view t).numbering (is_root t parent) (all_owns (below_at t parent)) in
    is ∙ sym (ap (λ s. (one_twice ((cond s (l ∷ []) [] ++ []) ++ []) || one_among ((cond s (l ∷ []) [] ++ []) ++ []) levels) || one_among (cond s [] (l ∷ []) ++ []) siblings) begun
    ∙ or_none (is_among l levels || false) ∙ or_none (is_among l levels))

pub level_taken_on : (t : Tree) (parent : ℕ) (element : Element) (num : List ℕ) (told : Bool) → is_root t parent ≡ false → is_throughout (tree_view t).numbering element ≡ false
    → told ≡ is_among (level_text element num) (levels_on (tree_view t).numbering (below_at t parent)) → told ≡ number_taken t parent (one_alone element num)
level_taken_on t parent element num told root through is =
    let l : List ℕ = level_text element num in
    let n : Numbering = (tree_view t).numbering in
    is ∙ sym (or_none (is_among l (levels_on n (below_at t parent))))
    ∙ sym (ap (λ r. begins_again n r (one_alone element num) (all_owns (tree_view t).body) || goes_on_again n r (one_alone element num) (all_owns (below_at t parent))) root
    ∙ ap (λ s. (one_twice ((cond s (l ∷ []) [] ++ []) ++ []) || one_among ((cond s (l ∷ []) [] ++ []) ++ []) (levels_begun (tree_view t))) || one_among (cond s [] (l ∷ []) ++ []) (all_going_on n false (all_owns (below_at t parent)))) through)
