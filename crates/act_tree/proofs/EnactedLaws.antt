-- Enacting nodes side by side is enacting each.
use Rattle.std.proofs.Common.{◌≡◌, ◌∙◌, sym, ℕ, ◌+◌, ◌<◌, List, [], ◌∷◌, ◌++◌, length, take, get_or, Option, map, refl, ap}
use Rattle.std.proofs.lemmas.List.{map_push, take_more}
use Rattle.eid_paths.specs.declared.numbering.Numbering.{Numbering}
use Rattle.act_tree.specs.Branches.{Branch, branches_of, more_branches}
use Rattle.act_tree.specs.Provisions.{Own, Provision}
use Rattle.act_tree.specs.Specs.{spec_view}
use Rattle.act_tree.specs.declared.node_spec.NodeSpec.{NodeSpec}
use Rattle.act_tree.specs.Eids.{enacted, all_enacted}

branches_of-enacted : (numbering : Numbering) (above : Option (List ℕ)) (bs : List (Branch Own)) → branches_of (map (enacted numbering above) bs) ≡ all_enacted numbering above (branches_of bs)
branches_of-enacted numbering above [] = refl
branches_of-enacted numbering above (b ∷ bs) = ap (more_branches (enacted numbering above b)) (branches_of-enacted numbering above bs)

-- what an act's nodes become, side by side
pub all_become : (numbering : Numbering) (above : Option (List ℕ)) (items nodes : List NodeSpec) (bs : List (Branch Own)) → items ≡ nodes → map spec_view nodes ≡ bs
    → branches_of (map (enacted numbering above) (map spec_view items)) ≡ all_enacted numbering above (branches_of bs)
all_become numbering above items nodes bs same view =
    ap (λ ns. branches_of (map (enacted numbering above) (map spec_view ns))) same ∙ branches_of-enacted numbering above _ ∙ ap (λ cs. all_enacted numbering above (branches_of cs)) view

pub more_enacted : (f : Branch Own → Branch Provision) (ns : List NodeSpec) (i : ℕ) (x : NodeSpec) → i < length ns → x ≡ get_or ns i x
    → map f (map spec_view (take (i + 1) ns)) ≡ map f (map spec_view (take i ns)) ++ f (spec_view x) ∷ []
more_enacted f ns i x within it =
    ap (λ ys. map f (map spec_view ys)) (take_more ns i x within ∙ ap (λ y. take i ns ++ y ∷ []) (sym it))
    ∙ ap (map f) (map_push spec_view (take i ns) x)
    ∙ map_push f (map spec_view (take i ns)) (spec_view x)
