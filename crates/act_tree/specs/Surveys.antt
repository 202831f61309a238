-- A survey of provisions: what decides whether they make a tree, gathered one after another.
use Rattle.std.specs.Prelude.{ℕ, ◌+◌, ◌-◌, ◌^◌, ◌++◌, ◌||◌, Bool, false, List, [], ◌∷◌, nat_lt, max, min, Option, Some, None, if◌then◌else◌}
use Rattle.act_tree.specs.declared.build_fault.BuildFault.{BuildFault}
use Rattle.act_tree.specs.declared.build_fault.BuildFault.TheVariants.{EidTwice, TooDeep, TooManyNodes, TextTooLong}
use Rattle.eid_paths.specs.declared.numbering.Numbering.{Numbering}
use Rattle.act_tree.specs.declared.limits.TheConstants.{MAX_DEPTH}
use Rattle.act_tree.specs.declared.limits.NodeLimit.{NodeLimit}
use Rattle.act_tree.specs.NodeLimits.{most_nodes}
use Rattle.act_tree.specs.declared.survey.Survey.{Survey}
use Rattle.act_tree.specs.Branches.{Branch, Branches, branch, no_branches, more_branches}
use Rattle.act_tree.specs.Provisions.{Own}
use Rattle.act_tree.specs.Eids.{eid_below}
use Rattle.act_tree.specs.Faults.{is_long}
use Rattle.act_tree.specs.Wids.{is_among}

-- what a survey has found: the eIds, whether one stands twice, how many provisions there are, how deep the deepest is,
-- and whether a heading or content is too long
pub record Surveyed : Type 0 where
  pub eids : List (List ℕ)
  pub twice : Bool
  pub count : ℕ
  pub deepest : ℕ
  pub long : Bool

-- the most that a survey counts to
abbrev pub most : ℕ
most = 2 ^ 32 - 1

-- one more, up to the most
abbrev pub next_to : ℕ → ℕ
next_to n = min (n + 1) most

-- nothing was found yet
abbrev pub nothing : Surveyed
nothing = record { eids = []; twice = false; count = 0; deepest = 0; long = false }

-- what a survey found
abbrev pub seen : Survey → Surveyed
seen s = record { eids = s.eids.keys; twice = s.twice; count = s.count; deepest = s.deepest; long = s.long }

-- the eIds with one more, which stands among them once
abbrev pub with_eid : List (List ℕ) → List ℕ → List (List ℕ)
with_eid eids eid = if is_among eid eids then eids else eids ++ eid ∷ []

-- the texts after more of them
abbrev pub gathered : List (List ℕ) → List (List ℕ) → List (List ℕ)
gathered seen [] = seen
gathered seen (x ∷ xs) = gathered (with_eid seen x) xs

-- one of these texts was there before, or stands among them twice
abbrev pub repeats : List (List ℕ) → List (List ℕ) → Bool
repeats seen [] = false
repeats seen (x ∷ xs) = is_among x seen || repeats (with_eid seen x) xs

-- after a provision of this eId at this depth
abbrev pub noted : Surveyed → List ℕ → Bool → ℕ → Surveyed
noted s eid long depth =
    record {
      eids = with_eid s.eids eid;
      twice = s.twice || is_among eid s.eids;
      count = next_to s.count;
      deepest = max s.deepest depth;
      long = s.long || long;
    }

-- after provisions that stand below so many levels, at every depth
abbrev mutual
  pub surveyed : Numbering → Option (List ℕ) → ℕ → Branch Own → Surveyed → Surveyed
  surveyed numbering above levels (branch own below) s =
      all_surveyed numbering (Some (eid_below numbering above own.element own.num)) (next_to levels) below
      (noted s (eid_below numbering above own.element own.num) (is_long own) (next_to levels))

  pub all_surveyed : Numbering → Option (List ℕ) → ℕ → Branches Own → Surveyed → Surveyed
  all_surveyed numbering above levels no_branches s = s
  all_surveyed numbering above levels (more_branches b bs) s =
      all_surveyed numbering above levels bs (surveyed numbering above levels b s)

-- the first fault that a survey found, in a text of a limit
abbrev pub fault_in : NodeLimit → Surveyed → Option BuildFault
fault_in limit s =
    if s.twice then Some EidTwice
    else (if nat_lt MAX_DEPTH s.deepest then Some TooDeep
    else (if nat_lt (most_nodes limit) s.count then Some TooManyNodes
    else (if s.long then Some TextTooLong else None)))
