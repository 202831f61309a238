-- Split: a provision keeps its first part, and right behind it stands a new one with the second.
use Rattle.std.specs.Prelude.{ℕ, ◌+◌, ◌++◌, List, [], Option, Some, None, Result, Ok, Err, option_map, if◌then◌else◌}
use Rattle.desk_base.specs.declared.id.Id.{Id}
use Rattle.act_tree.specs.declared.cause.Cause.{Cause}
use Rattle.act_tree.specs.declared.cause.Cause.TheVariants.{TargetMissing, AnchorMissing, OldTextMissing}
use Rattle.act_tree.specs.Branches.{Branch, Branches, branch, no_branches, more_branches}
use Rattle.act_tree.specs.Brought.{second_part}
use Rattle.act_tree.specs.Provisions.{Provision}
use Rattle.act_tree.specs.Changes.{has_wid, changed, parted}
use Rattle.textual_mods.specs.Occurrences.{parted_at}
use Rattle.textual_mods.specs.Targets.{provision_named}
use Rattle.textual_mods.specs.declared.splitting.Cut.{Cut}
use Rattle.textual_mods.specs.declared.edit.SplitAt.{SplitAt}
use Rattle.textual_mods.specs.declared.edit.SplitAt.TheVariants as cuts

-- how many of these stand before the one of this wId, if one has it
abbrev pub place_among : List ℕ → Branches Provision → Option ℕ
place_among wid no_branches = None
place_among wid (more_branches b bs) =
    if has_wid wid b then Some 0 else option_map (λ place. place + 1) (place_among wid bs)

-- the cut before an occurrence: the second part begins with it, and has all children
abbrev pub cut_at_text : List ℕ → Option (List ℕ × List ℕ) → Result Cut Cause
cut_at_text old None = Err OldTextMissing
cut_at_text old (Some parts) = Ok (record { children = 0; head = parts.0; tail = old ++ parts.1 })

-- the cut before a child: the second part has it and those behind it, and no content
abbrev pub cut_at_child : List ℕ → Option ℕ → Result Cut Cause
cut_at_child content None = Err AnchorMissing
cut_at_child content (Some place) = Ok (record { children = place; head = content; tail = [] })

-- the cut of a provision of this content and these children
abbrev pub cut_of : SplitAt → List ℕ → Branches Provision → Result Cut Cause
cut_of (cuts.Text spot) content below = cut_at_text spot.old (parted_at spot.old spot.occurrence content)
cut_of (cuts.Child child) content below = cut_at_child content (place_among child below)

-- the provisions, of which the one of this wId is split at a cut; the new one has the same element, no refs, and a num
-- and a heading of its own
abbrev pub split_along : Id → List ℕ → List ℕ → List ℕ → Provision → Result Cut Cause → Branches Provision
    → Result (Branches Provision) Cause
split_along by wid num heading p (Err cause) body = Err cause
split_along by wid num heading p (Ok cut) body =
    Ok (changed (parted cut.children cut.head (second_part by p.own.element num heading cut.tail)) wid body)

-- the same, if there is such a provision
abbrev pub split_of : Id → List ℕ → SplitAt → List ℕ → List ℕ → Option (Branch Provision) → Branches Provision
    → Result (Branches Provision) Cause
split_of by wid at num heading None body = Err TargetMissing
split_of by wid at num heading (Some (branch p below)) body =
    split_along by wid num heading p (cut_of at p.own.content below) body

-- the target is split: it keeps its wId, num, heading and refs
abbrev pub split_at_cut : Id → List ℕ → SplitAt → List ℕ → List ℕ → Branches Provision
    → Result (Branches Provision) Cause
split_at_cut by wid at num heading body = split_of by wid at num heading (provision_named wid body) body
