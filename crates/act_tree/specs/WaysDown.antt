-- Ways down: from a provision to one beneath it, by the levels with which an eId goes on.
use Rattle.std.specs.Prelude.{◌||◌, ◌&&◌, not, Bool, true, false, List, [], ◌∷◌}
use Rattle.std.specs.Str.{bytes_eq}
use Rattle.eid_paths.specs.declared.level.Level.{Level}
use Rattle.eid_paths.specs.declared.numbering.Numbering.{Numbering}
use Rattle.eid_paths.specs.Elements.{is_throughout}
use Rattle.eid_paths.specs.Levels.{level_text}
use Rattle.act_tree.specs.Branches.{Branches, branch, no_branches, more_branches}
use Rattle.act_tree.specs.EidLevels.{own_level}
use Rattle.act_tree.specs.Provisions.{Own, Provision}

-- a provision below another goes on by this level: it begins no eId, and has the level
abbrev pub goes_on_by : Numbering → Level → Own → Bool
goes_on_by numbering level own =
    not (is_throughout numbering own.element) && bytes_eq (level_text level.element level.num) (own_level own)

-- from the provision above these a way goes down by these levels: each goes on by the next level, and stands right below
-- the one before
abbrev pub has_way : Numbering → List Level → Branches Provision → Bool
has_way numbering [] bs = true
has_way numbering (level ∷ levels) no_branches = false
has_way numbering (level ∷ levels) (more_branches (branch p below) bs) =
    (goes_on_by numbering level p.own && has_way numbering levels below) || has_way numbering (level ∷ levels) bs
