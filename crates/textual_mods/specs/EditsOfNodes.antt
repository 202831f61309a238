-- What an edit makes of a text, where the node that it changes was found.
use Rattle.std.specs.Prelude.{ℕ, List, Result, Ok}
use Rattle.desk_base.specs.declared.id.Id.{Id}
use Rattle.act_tree.specs.declared.cause.Cause.{Cause}
use Rattle.act_tree.specs.declared.tree.Tree.{Tree}
use Rattle.act_tree.specs.Branches.{Branches}
use Rattle.act_tree.specs.Changes.{Step, changed}
use Rattle.act_tree.specs.Provisions.{Provision}
use Rattle.act_tree.specs.Seen.{provision_at, below_at, next_at}
use Rattle.textual_mods.specs.Joins.{join_with_next, join_of_kind}
use Rattle.textual_mods.specs.Splits.{cut_of, split_along}
use Rattle.textual_mods.specs.declared.edit.SplitAt.{SplitAt}
use Rattle.textual_mods.specs.declared.splitting.Cut.{Cut}

-- a step is made at the node
abbrev pub step_at : Tree → ℕ → Step → Branches Provision → Result (Branches Provision) Cause
step_at t id step body = Ok (changed step (provision_at t id).wid body)

-- the node is joined with its next sibling, which has to be the second target
abbrev pub join_next_at : Tree → ℕ → List ℕ → List ℕ → Branches Provision → Result (Branches Provision) Cause
join_next_at t id second separator body =
    join_with_next (provision_at t id).wid second separator (provision_at t id) (next_at t id) body

-- the node is joined with another, of which both have to be of one element
abbrev pub join_both_at : Tree → ℕ → ℕ → List ℕ → Branches Provision → Result (Branches Provision) Cause
join_both_at t id next separator body =
    join_of_kind (provision_at t id).wid separator (provision_at t id) (provision_at t next) body

-- how the node is cut
abbrev pub cut_at : Tree → ℕ → SplitAt → Result Cut Cause
cut_at t id at = cut_of at (provision_at t id).own.content (below_at t id)

-- the node is split at a cut
abbrev pub split_with : Tree → Id → ℕ → Result Cut Cause → List ℕ → List ℕ → Branches Provision
    → Result (Branches Provision) Cause
split_with t by id cut num heading body =
    split_along by (provision_at t id).wid num heading (provision_at t id) cut body
