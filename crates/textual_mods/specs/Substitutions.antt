-- What can be held against a substitution, told before it is made: others in the place of a provision are an insertion
-- into the text that is left without it.
use Rattle.std.specs.Prelude.{ℕ, Bool, false, List, Option, Some, None, option_map}
use Rattle.std.specs.Str.{bytes_eq}
use Rattle.act_tree.specs.declared.build_fault.BuildFault.{BuildFault}
use Rattle.act_tree.specs.declared.tree.Tree.{Tree}
use Rattle.act_tree.specs.Branches.{Branches}
use Rattle.act_tree.specs.Changes.{without}
use Rattle.act_tree.specs.Provisions.{Own, Provision}
use Rattle.act_tree.specs.Seen.{tree_view, provision_at, below_at}
use Rattle.textual_mods.specs.Insertions.{fault_among}

-- a provision of this wId goes, if one of another wId goes at all
abbrev pub goes : Option (List ℕ) → List ℕ → Bool
goes None wid = false
goes (Some gone) wid = bytes_eq wid gone

-- the provisions that are left without the one that goes, if one goes
abbrev pub left : Option (List ℕ) → Branches Provision → Branches Provision
left None bs = bs
left (Some gone) bs = without gone bs

-- the wId of a node, if there is one
abbrev pub wid_of : Tree → Option ℕ → Option (List ℕ)
wid_of t gone = option_map (λ id. (provision_at t id).wid) gone

-- the text of a tree that is left without a node, if one goes
abbrev pub text_left : Tree → Option ℕ → Branches Provision
text_left t gone = left (wid_of t gone) (tree_view t).body

-- what is left below a node
abbrev pub left_below : Tree → Option ℕ → ℕ → Branches Provision
left_below t gone parent = left (wid_of t gone) (below_at t parent)

-- the first fault of a tree with provisions that are brought among the children of a node, where another goes, if one does
abbrev pub bringing_fault : Tree → Option ℕ → ℕ → Branches Own → Option BuildFault
bringing_fault t gone parent new =
    fault_among (tree_view t).numbering (tree_view t).limit (text_left t gone) (provision_at t parent).wid (left_below t gone parent) new

-- the first fault of a tree with provisions that are brought in the place of a child of a node
abbrev pub substitution_fault : Tree → ℕ → ℕ → Branches Own → Option BuildFault
substitution_fault t id parent new = bringing_fault t (Some id) parent new
