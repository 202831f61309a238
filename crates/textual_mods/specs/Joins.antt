-- Join: a provision takes in its next sibling.
use Rattle.std.specs.Prelude.{ℕ, ◌==◌, ◌++◌, List, Option, Some, None, Result, Ok, Err, if◌then◌else◌}
use Rattle.std.specs.Str.{bytes_eq}
use Rattle.eid_paths.specs.Elements.{element_place}
use Rattle.act_tree.specs.declared.cause.Cause.{Cause}
use Rattle.act_tree.specs.declared.cause.Cause.TheVariants.{TargetMissing, AnchorMissing, KindsDiffer}
use Rattle.act_tree.specs.Branches.{Branch, Branches, branch}
use Rattle.act_tree.specs.Provisions.{Provision}
use Rattle.act_tree.specs.Changes.{changed, merged, next_of}
use Rattle.textual_mods.specs.Targets.{provision_named}

-- the content of both, with the separator between them; the refs and children of the second follow those of the first,
-- and its heading goes. Both have to be of one element
abbrev pub join_of_kind : List ℕ → List ℕ → Provision → Provision → Branches Provision
    → Result (Branches Provision) Cause
join_of_kind wid separator p next body =
    if element_place p.own.element == element_place next.own.element
    then Ok (changed (merged (p.own.content ++ (separator ++ next.own.content))) wid body)
    else Err KindsDiffer

-- the provision is joined with its next sibling, which has to be the second target
abbrev pub join_with_next : List ℕ → List ℕ → List ℕ → Provision → Option (Branch Provision) → Branches Provision
    → Result (Branches Provision) Cause
join_with_next wid second separator p None body = Err AnchorMissing
join_with_next wid second separator p (Some (branch next under)) body =
    if bytes_eq next.wid second then join_of_kind wid separator p next body else Err AnchorMissing

-- both targets have to be there
abbrev pub join_of : List ℕ → List ℕ → List ℕ → Option (Branch Provision) → Option (Branch Provision)
    → Branches Provision → Result (Branches Provision) Cause
join_of wid second separator None other body = Err TargetMissing
join_of wid second separator (Some b) None body = Err TargetMissing
join_of wid second separator (Some (branch p below)) (Some c) body =
    join_with_next wid second separator p (next_of wid body) body

-- the provision of the first wId takes in the one of the second, which is its next sibling
abbrev pub joined_with : List ℕ → List ℕ → List ℕ → Branches Provision → Result (Branches Provision) Cause
joined_with wid second separator body =
    join_of wid second separator (provision_named wid body) (provision_named second body) body
