-- The eId of a wId: the levels on the way down to its provision, from the last that begins an eId.
use Rattle.std.specs.Prelude.{ℕ, ◌++◌, Bool, false, List, [], ◌∷◌, Option, Some, None, option_map, if◌then◌else◌}
use Rattle.std.specs.List.{list_any}
use Rattle.std.specs.Str.{bytes_eq}
use Rattle.eid_paths.specs.declared.level.Level.{Level}
use Rattle.eid_paths.specs.declared.numbering.Numbering.{Numbering}
use Rattle.eid_paths.specs.Eids.{eid_text}
use Rattle.eid_paths.specs.Elements.{is_throughout}
use Rattle.act_tree.specs.Branches.{Branch, Branches, branch, no_branches, more_branches}
use Rattle.act_tree.specs.Provisions.{Own, Provision}
use Rattle.act_tree.specs.Trees.{TreeValue}
use Rattle.act_tree.specs.Wids.{all_wids}

-- the first of two ways, or the second where there is no first
abbrev pub or_way : Option (List Own) → Option (List Own) → Option (List Own)
or_way (Some way) other = Some way
or_way None other = other

-- the way down to the provision of this wId, if one stands here or beneath: what each provision on it says of itself,
-- the topmost first
abbrev mutual
  pub way_in : List ℕ → Branch Provision → Option (List Own)
  way_in wid (branch p below) =
      if bytes_eq p.wid wid then Some (p.own ∷ []) else option_map (λ way. p.own ∷ way) (way_to wid below)

  pub way_to : List ℕ → Branches Provision → Option (List Own)
  way_to wid no_branches = None
  way_to wid (more_branches b bs) = or_way (way_in wid b) (way_to wid bs)

-- the level of a provision
abbrev pub level_of_own : Own → Level
level_of_own own = record { element = own.element; num = own.num }

-- the levels of an eId that stand above a provision, and behind them its own: an element that is numbered throughout
-- begins anew
abbrev pub levels_with : Numbering → List Level → Own → List Level
levels_with numbering above own =
    if is_throughout numbering own.element then level_of_own own ∷ [] else above ++ level_of_own own ∷ []

-- the levels of the eId at the end of a way down that goes on below these
abbrev pub levels_along : Numbering → List Level → List Own → List Level
levels_along numbering above [] = above
levels_along numbering above (own ∷ way) = levels_along numbering (levels_with numbering above own) way

-- the eId of a wId: the levels on the way down to its provision, from the last that begins one, with `__` between them;
-- none where no provision has the wId
unfoldable pub eid_of_wid : TreeValue → List ℕ → Option (List ℕ)
eid_of_wid tree wid = option_map (λ way. eid_text (levels_along tree.numbering [] way)) (way_to wid tree.body)

-- a text is the one that there is
abbrev pub is_text : List ℕ → Option (List ℕ) → Bool
is_text text None = false
is_text text (Some other) = bytes_eq text other

-- a provision of the tree has this eId
unfoldable pub has_eid : List ℕ → TreeValue → Bool
has_eid eid tree = list_any (λ wid. is_text eid (eid_of_wid tree wid)) (all_wids tree.body)
