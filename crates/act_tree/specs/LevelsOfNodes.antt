-- The levels of nodes: of those that stand side by side, and of those that begin an eId.
use Rattle.std.specs.Prelude.{ℕ, zero, suc, ◌==◌, ◌||◌, ◌&&◌, Bool, false, not, List, map, Option}
use Rattle.std.specs.Str.{bytes_eq}
use Rattle.eid_paths.specs.declared.numbering.Numbering.{Numbering}
use Rattle.act_tree.specs.declared.tree.Tree.{Tree}
use Rattle.act_tree.specs.Arena.{Laid, provision_in, above_in, climbs, climbs_past}
use Rattle.act_tree.specs.Branches.{branches_of}
use Rattle.act_tree.specs.EidLevels.{begins, own_level, levels_on}
use Rattle.act_tree.specs.LastNumbers.{last_passing}
use Rattle.act_tree.specs.Seen.{tree_view, branch_at}

-- the levels that begin no eId, of nodes that are no children of the root
abbrev pub levels_at : Tree → List ℕ → List (List ℕ)
levels_at t ids = levels_on (tree_view t).numbering (branches_of (map (branch_at t) ids))

-- the last of the first so many numbers whose provision has this level, if one has
abbrev pub latest_at : (ℕ → Option Laid) → List ℕ → ℕ → Option ℕ
latest_at at level n = last_passing (λ i. bytes_eq level (own_level (provision_in (at i)).own)) n

-- the number is that of a provision of the text that begins an eId
abbrev pub begins_eid : Numbering → (ℕ → Option Laid) → ℕ → ℕ → Bool
begins_eid numbering at size i =
    begins numbering (above_in (at i) == 0) (provision_in (at i)).own && (not (i == 0) && climbs size at i)

-- the number is that of a provision of the text that begins an eId by this level
abbrev pub begins_by : Numbering → (ℕ → Option Laid) → ℕ → List ℕ → ℕ → Bool
begins_by numbering at size level i =
    bytes_eq level (own_level (provision_in (at i)).own) && begins_eid numbering at size i

-- one of the first so many numbers is
abbrev pub begins_before : Numbering → (ℕ → Option Laid) → ℕ → List ℕ → ℕ → Bool
begins_before numbering at size level zero = false
begins_before numbering at size level (suc i) =
    begins_before numbering at size level i || begins_by numbering at size level i

-- the number is that of a provision that begins an eId in the text that is left without another number and all beneath
-- it
abbrev pub begins_one : Numbering → (ℕ → Option Laid) → ℕ → ℕ → ℕ → Bool
begins_one numbering at size gone i =
    begins numbering (above_in (at i) == 0) (provision_in (at i)).own && (not (i == 0) && climbs_past size at gone i)

-- it begins it by this level
abbrev pub begins_past : Numbering → (ℕ → Option Laid) → ℕ → ℕ → List ℕ → ℕ → Bool
begins_past numbering at size gone level i =
    bytes_eq level (own_level (provision_in (at i)).own) && begins_one numbering at size gone i

-- one of the first so many numbers is
abbrev pub some_past : Numbering → (ℕ → Option Laid) → ℕ → ℕ → List ℕ → ℕ → Bool
some_past numbering at size gone level zero = false
some_past numbering at size gone level (suc i) =
    some_past numbering at size gone level i || begins_past numbering at size gone level i
