-- Nodes side by side that are not as many are not the same.
use Rattle.std.proofs.Common.{◌≡◌, suc, Bool, true, false, List, [], ◌∷◌, length, refl, ap, ◌∙◌, sym}
use Rattle.act_tree.specs.Branches.{Branch}
use Rattle.act_tree.specs.Provisions.{Own}
use Rattle.act_tree.specs.SameNodes.{same_nodes, nodes_decide}
use Rattle.act_tree.specs.Specs.{specs_view}
use Rattle.act_tree.specs.declared.node_spec.NodeSpec.{NodeSpec}

as_many : (ns : List NodeSpec) → length (specs_view ns) ≡ length ns
as_many [] = refl
as_many (n ∷ ns) = ap suc (as_many ns)

never : (t : Bool) → (t ≡ true → ⊥) → false ≡ t
never true h = absurd (h refl)
never false h = refl

pub not_as_many : (xs ys : List NodeSpec) (a b : List (Branch Own)) → specs_view xs ≡ a → specs_view ys ≡ b
    → (length xs ≡ length ys → ⊥) → false ≡ same_nodes a b
not_as_many xs ys a b first second differ =
    never (same_nodes a b)
    (λ told. differ (sym (as_many xs) ∙ ap length (first ∙ (nodes_decide a b).0 told ∙ sym second) ∙ as_many ys))
