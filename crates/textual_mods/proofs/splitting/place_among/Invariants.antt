-- The place among all is the place among those that are left, behind those that were passed.
use Rattle.std.proofs.Common.{◌≡◌, ◌+◌, map, drop}
use Rattle.std.specs.Prelude.{option_map}
use Rattle.act_tree.specs.Branches.{branches_of}
use Rattle.act_tree.specs.Seen.{branch_at}
use Rattle.textual_mods.specs.Splits as spec
use Rattle.textual_mods.proofs.splitting.place_among.Given as goal

abbrev pub invariant-loop-place : goal.invariant-loop-place
invariant-loop-place l =
    option_map (λ k. k + l.place) (spec.place_among l.wid (branches_of (map (branch_at l.tree) (drop l.place l.nodes)))) ≡ spec.place_among l.wid (branches_of (map (branch_at l.tree) l.nodes))
