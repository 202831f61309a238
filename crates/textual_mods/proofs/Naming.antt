-- The provisions that a wId names.
use Rattle.std.proofs.Common.{◌≡◌, ◌∙◌, sym, ap, refl, ℕ, Bool, true, false, cond, ◌||◌, List, length, map, Some, None, inl, inr}
use Rattle.std.specs.Prelude.{◌↔◌}
use Rattle.std.specs.Str.{bytes_eq}
use Rattle.std.proofs.lemmas.List.{length-map}
use Rattle.act_tree.proofs.Texts.{text_cases, equal_text, other_text}
use Rattle.act_tree.proofs.Walking.{branch_is, body_is}
use Rattle.act_tree.specs.declared.tree.Tree.{Tree}
use Rattle.act_tree.specs.Branches.{Branch, Branches, branch, no_branches, more_branches, branches_of, listed, listed-branches_of}
use Rattle.act_tree.specs.Changes.{holds, any_holds, is_in, found, sought, or_else, root_wid}
use Rattle.act_tree.specs.Provisions.{Provision}
use Rattle.act_tree.specs.Seen.{tree_view, branch_at, below_at}
use Rattle.textual_mods.specs.Targets.{provision_named, below, children_named}

neither : (s t : Bool) → (s || t) ≡ false → (s ≡ false) × (t ≡ false)
neither false t none = (refl, none)
neither true t none = absurd cc

mutual
  none_sought : (w : List ℕ) (b : Branch Provision) → holds w b ≡ false → sought w b ≡ None
  none_sought w (branch p under) none =
      let t = neither (bytes_eq p.wid w) (any_holds w under) none in
      ap (λ told. cond told (Some (branch p under)) (found w under)) t.0 ∙ none_found w under t.1

  none_found : (w : List ℕ) (bs : Branches Provision) → any_holds w bs ≡ false → found w bs ≡ None
  none_found w no_branches none = refl
  none_found w (more_branches b bs) none =
      let t = neither (holds w b) (any_holds w bs) none in
      ap (λ o. or_else o (found w bs)) (none_sought w b t.0) ∙ none_found w bs t.1

-- a wId that is not there names no provision
pub none_named : (w : List ℕ) (bs : Branches Provision) → is_in w bs ≡ false → provision_named w bs ≡ None
none_named w bs none =
    let t = neither (bytes_eq w root_wid) (any_holds w bs) none in
    ap (λ told. cond told None (found w bs)) t.0 ∙ none_found w bs t.1

-- the children that a tree lists at a node are those that its text has at the node's wId
pub children_counted : (t : Tree) (id : ℕ) (w : List ℕ) (ids : List ℕ) → (id ≡ 0) ↔ (w ≡ root_wid)
    → ((id ≡ 0 → ⊥) → found w (tree_view t).body ≡ Some (branch_at t id)) → branches_of (map (branch_at t) ids) ≡ below_at t id → children_named w (tree_view t).body ≡ length ids
children_counted t id w ids root branch_there under =
    let counted : length (listed (below_at t id)) ≡ length ids =
    ap (λ bs. length (listed bs)) (sym under) ∙ ap length (listed-branches_of (map (branch_at t) ids)) ∙ length-map ids (branch_at t) in
    elim (text_cases w root_wid) [
      | inl same ↦
          ap (λ told. length (listed (cond told (tree_view t).body (below (found w (tree_view t).body))))) (equal_text w root_wid same)
          ∙ ap (λ bs. length (listed bs)) (body_is t)
          ∙ ap (λ i. length (listed (below_at t i))) (sym (root.1 same))
          ∙ counted
      | inr other ↦
          ap (λ told. length (listed (cond told (tree_view t).body (below (found w (tree_view t).body))))) (other_text w root_wid other)
          ∙ ap (λ b. length (listed (below b))) (branch_there (λ zero. other (root.0 zero)) ∙ ap Some (branch_is t id))
          ∙ counted
    ]

-- a wId that is not the root's names what is found there
pub is_named : (w : List ℕ) (bs : Branches Provision) (b : Branch Provision) → (w ≡ root_wid → ⊥) → found w bs ≡ Some b → Some b ≡ provision_named w bs
is_named w bs b other there = sym (ap (λ told. cond told None (found w bs)) (other_text w root_wid other) ∙ there)
