-- A join of two nodes of a tree is held back by its levels first, and then by its content.
use Rattle.std.proofs.Common.{◌≡◌, ◌∙◌, sym, ap, nat_lt, ℕ, ◌<◌, ◌≤◌, Bool, true, false, List, length, Some, None}
use Rattle.std.specs.Prelude.{option_map, Ok, Err}
use Rattle.std.proofs.lemmas.Bool.{lt-ltb, le-ltb}
use Rattle.act_tree.specs.declared.cause.Cause.TheVariants.{NumberTaken, TextTooLong}
use Rattle.act_tree.specs.declared.tree.Tree.{Tree}
use Rattle.act_tree.specs.Branches.{Branches, branch}
use Rattle.act_tree.specs.Changes.{changed, joined, merged, next_of}
use Rattle.act_tree.specs.EidLevels.{levels_on}
use Rattle.act_tree.specs.Faults.{first_cause, fault_cause}
use Rattle.act_tree.specs.Provisions.{Provision}
use Rattle.act_tree.specs.Seen.{tree_view, has_node, provision_at, below_at}
use Rattle.act_tree.specs.Wids.{one_twice}
use Rattle.act_tree.proofs.FoundNodes.{found_at, nums_kept}
use Rattle.act_tree.proofs.Walking.{branch_is}
use Rattle.textual_mods.specs.Edits.{unless_for, within_limits}
use Rattle.textual_mods.proofs.JoinLimits.{fault_of_join}
use Rattle.textual_mods.proofs.Limits.{faultless, fault_by}
use Rattle.act_tree.proofs.WidsDiffer.{wids_differ}
use Rattle.act_tree.specs.declared.limits.TheConstants.{MAX_TEXT_BYTES}

module _ (t : Tree) (id next : ℕ) (content : List ℕ) (fits : first_cause (tree_view t) ≡ None) (node : has_node t id ≡ true) (other : id ≡ 0 → ⊥)
    (follows : next_of (provision_at t id).wid (tree_view t).body ≡ Some (branch (provision_at t next) (below_at t next))) where
  -- whether two children of both are alike
  abbrev pub alike : Bool
  alike = one_twice (levels_on (tree_view t).numbering (joined (below_at t id) (below_at t next)))

  -- the text with the join
  abbrev pub after : Branches Provision
  after = changed (merged content) (provision_at t id).wid (tree_view t).body

  cause : first_cause (record (tree_view t) { body = after }) ≡ option_map fault_cause (fault_by alike false false (nat_lt MAX_TEXT_BYTES (length content)))
  cause =
      ap (option_map fault_cause)
      (fault_of_join (tree_view t).numbering content (provision_at t id).wid (provision_at t id) (below_at t id) (provision_at t next) (below_at t next)
      (tree_view t).limit (tree_view t).body (nums_kept t) (faultless (tree_view t) fits) (wids_differ t) (found_at t id node other ∙ ap (λ b. Some b) (branch_is t id)) follows)

  pub join_taken : (told : Bool) → told ≡ alike → told ≡ true → within_limits (tree_view t) (Ok after) ≡ Err NumberTaken
  join_taken told is taken = ap (λ c. unless_for c after) (cause ∙ ap (λ s. option_map fault_cause (fault_by s false false (nat_lt MAX_TEXT_BYTES (length content)))) (sym is ∙ taken))

  pub join_long : (told : Bool) → told ≡ alike → told ≡ false → MAX_TEXT_BYTES < length content → within_limits (tree_view t) (Ok after) ≡ Err TextTooLong
  join_long told is free long =
      ap (λ c. unless_for c after)
      (cause ∙ ap (λ s. option_map fault_cause (fault_by s false false (nat_lt MAX_TEXT_BYTES (length content)))) (sym is ∙ free) ∙ ap (λ s. option_map fault_cause (fault_by false false false s)) (lt-ltb MAX_TEXT_BYTES (length content) long))

  pub join_done : (told : Bool) → told ≡ alike → told ≡ false → length content ≤ MAX_TEXT_BYTES → within_limits (tree_view t) (Ok after) ≡ Ok after
  join_done told is free short =
      ap (λ c. unless_for c after)
      (cause ∙ ap (λ s. option_map fault_cause (fault_by s false false (nat_lt MAX_TEXT_BYTES (length content)))) (sym is ∙ free) ∙ ap (λ s. option_map fault_cause (fault_by false false false s)) (le-ltb MAX_TEXT_BYTES (length content) short))
