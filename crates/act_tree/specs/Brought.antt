-- The provisions that a modification brings, and their wIds.
use Rattle.std.specs.Prelude.{ℕ, Bool, List, [], ◌∷◌, ◌++◌, Some}
use Rattle.std.specs.Fmt.{decimal}
use Rattle.std.specs.List.{list_any, starts_with}
use Rattle.std.specs.Prelude.{nat_eq}
use Rattle.desk_base.specs.declared.id.Id.{Id}
use Rattle.eid_paths.specs.declared.element.Element.{Element}
use Rattle.eid_paths.specs.Levels.{level_text}
use Rattle.act_tree.specs.declared.surveying.TheConstants.{NONE_THROUGHOUT}
use Rattle.act_tree.specs.Branches.{Branches}
use Rattle.act_tree.specs.Provisions.{Own, Provision}
use Rattle.act_tree.specs.Eids.{all_enacted}
use Rattle.act_tree.specs.Wids.{all_wids}

-- the name of a modification in wIds: `m`, the number of its law entry, `-`, the number of its item
abbrev pub bringer : Id → List ℕ
bringer by = 109 ∷ decimal by.law ++ 45 ∷ decimal by.item

-- the provisions that nodes become under a name, with which their wIds begin
abbrev pub brought_under : List ℕ → Branches Own → Branches Provision
brought_under name nodes = all_enacted NONE_THROUGHOUT (Some name) nodes

-- the provisions that a modification brings: the wId of each is the modification's name, `__`, and the levels from the
-- topmost that it brings down to the provision, with `__` between them
abbrev pub brought : Id → Branches Own → Branches Provision
brought by nodes = brought_under (bringer by) nodes

-- the wId of a provision that a modification brings by itself
abbrev pub brought_wid : Id → Element → List ℕ → List ℕ
brought_wid by element num = bringer by ++ 95 ∷ 95 ∷ level_text element num

-- what the second part says when a provision is parted: the element of the first, a num and a heading of its own, and
-- no refs
abbrev pub second_part : Id → Element → List ℕ → List ℕ → List ℕ → Provision
second_part by element num heading content =
    record {
      wid = brought_wid by element num;
      own = record { element = element; num = num; heading = heading; content = content; refs = [] };
    }

-- a wId of these provisions begins as those do that a modification brings
abbrev pub has_brought : Id → Branches Provision → Bool
has_brought by bs = list_any (λ wid. starts_with nat_eq wid (bringer by ++ 95 ∷ 95 ∷ [])) (all_wids bs)
