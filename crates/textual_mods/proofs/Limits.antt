-- A text that keeps the limits, told limit by limit.
use Rattle.std.proofs.Common.{◌≡◌, ◌∙◌, ap, refl, ℕ, ◌≤◌, Bool, true, false, cond, nat_lt, Option, Some, None, ◌⊎◌, inl, inr, arith}
use Rattle.std.specs.Prelude.{option_map, Result, Ok, Err, OnOk, OnErr}
use Rattle.std.proofs.lemmas.Bool.{cases_lt, lt-ltb, le-ltb}
use Rattle.eid_paths.specs.declared.numbering.Numbering.{Numbering}
use Rattle.act_tree.specs.declared.build_fault.BuildFault.{BuildFault}
use Rattle.act_tree.specs.declared.build_fault.BuildFault.TheVariants.{EidTwice, TooDeep, TooManyNodes, TextTooLong}
use Rattle.act_tree.specs.Branches.{Branches, branch, no_branches, more_branches, heights, counts}
use Rattle.act_tree.specs.Provisions.{Own, Provision}
use Rattle.act_tree.specs.Faults.{all_eids, all_owns, have_long, first_fault, first_cause, fault_cause}
use Rattle.act_tree.specs.Trees.{TreeValue}
use Rattle.act_tree.specs.Wids.{one_twice}
use Rattle.act_tree.specs.declared.cause.Cause.{Cause}
use Rattle.desk_base.specs.declared.memory.Memory.{Memory}
use Rattle.act_tree.proofs.LowTexts.{faultless_low}
use Rattle.textual_mods.specs.Edits.{unless_for, within_limits, tree_after}
use Rattle.textual_mods.specs.declared.outcome.Outcome.{Outcome}
use Rattle.act_tree.specs.declared.limits.TheConstants.{MAX_DEPTH}
use Rattle.act_tree.specs.declared.limits.NodeLimit.{NodeLimit}
use Rattle.act_tree.specs.NodeLimits.{most_nodes}

-- a text whose eIds differ, and which is neither too deep nor too large for a limit
pub record IsPlaced (n : Numbering) (limit : NodeLimit) (bs : Branches Own) : Type 0 where
  pub once : one_twice (all_eids n None bs) ≡ false
  pub low : heights bs ≤ MAX_DEPTH
  pub few : counts bs ≤ most_nodes limit

-- the first fault, of the four tests
abbrev pub fault_by : Bool → Bool → Bool → Bool → Option BuildFault
fault_by twice deep many long = cond twice (Some EidTwice) (cond deep (Some TooDeep) (cond many (Some TooManyNodes) (cond long (Some TextTooLong) None)))

tests : (twice deep many long : Bool) → fault_by twice deep many long ≡ None → (twice ≡ false) × (deep ≡ false) × (many ≡ false) × (long ≡ false)
tests false false false false none = (refl, refl, refl, refl)
tests true deep many long none = absurd cc
tests false true many long none = absurd cc
tests false false true long none = absurd cc
tests false false false true none = absurd cc

at_most : (k m : ℕ) → nat_lt k m ≡ false → m ≤ k
at_most k m test =
    elim (cases_lt k m) [ inl less ↦ absurd (let told : nat_lt k m ≡ true = lt-ltb k m less in cc) | inr most ↦ most ]

pub is_placed : (n : Numbering) (limit : NodeLimit) (bs : Branches Own) → first_fault n limit bs ≡ None → IsPlaced n limit bs
is_placed n limit bs none =
    let t = tests (one_twice (all_eids n None bs)) (nat_lt MAX_DEPTH (heights bs)) (nat_lt (most_nodes limit) (counts bs)) (have_long bs) none in
    record { once = t.0; low = at_most MAX_DEPTH (heights bs) t.1; few = at_most (most_nodes limit) (counts bs) t.2 }

pub is_short : (n : Numbering) (limit : NodeLimit) (bs : Branches Own) → first_fault n limit bs ≡ None → have_long bs ≡ false
is_short n limit bs none = (tests (one_twice (all_eids n None bs)) (nat_lt MAX_DEPTH (heights bs)) (nat_lt (most_nodes limit) (counts bs)) (have_long bs) none).3

pub heights_owns : (bs : Branches Provision) → heights (all_owns bs) ≡ heights bs
heights_owns no_branches = refl
heights_owns (more_branches (branch p below) bs) = omega (arith, heights_owns below, heights_owns bs)

-- of a text that is placed only the length of a heading or content is left to ask
pub fault_of_length : (n : Numbering) (limit : NodeLimit) (bs : Branches Own) (long : Bool) → IsPlaced n limit bs → have_long bs ≡ long → first_fault n limit bs ≡ cond long (Some TextTooLong) None
fault_of_length n limit bs long placed is =
    ap (λ t. fault_by t (nat_lt MAX_DEPTH (heights bs)) (nat_lt (most_nodes limit) (counts bs)) (have_long bs)) placed.once
    ∙ ap (λ t. fault_by false t (nat_lt (most_nodes limit) (counts bs)) (have_long bs)) (le-ltb MAX_DEPTH (heights bs) placed.low)
    ∙ ap (λ t. fault_by false false t (have_long bs)) (le-ltb (most_nodes limit) (counts bs) placed.few)
    ∙ ap (λ t. fault_by false false false t) is

no_fault : (f : Option BuildFault) → option_map fault_cause f ≡ None → f ≡ None
no_fault None none = refl
no_fault (Some f) none = absurd cc

-- a tree with no cause against it has no fault
pub faultless : (t : TreeValue) → first_cause t ≡ None → first_fault t.numbering t.limit (all_owns t.body) ≡ None
faultless t none = no_fault (first_fault t.numbering t.limit (all_owns t.body)) none

-- a tree that is well-formed is so after an edit, which is held back where it would not be
pub fits_after : (t : TreeValue) (r : Result (Branches Provision) Cause) → first_cause t ≡ None → first_cause (tree_after t (within_limits t r)) ≡ None
fits_after t (Err cause) none = none
fits_after t (Ok body) none = by_cause (first_cause (record t { body = body })) refl where
  by_cause : (cause : Option Cause) → first_cause (record t { body = body }) ≡ cause → first_cause (tree_after t (unless_for cause body)) ≡ None
  by_cause None is = is
  by_cause (Some cause) is = none

-- of a call either of both holds
pub either_way : (r : Result Outcome Memory) (A B : Type 0) → OnOk r A → OnErr r B → A ⊎ B
either_way (Ok o) A B ok err = inl ok
either_way (Err e) A B ok err = inr err

-- a text that is within the limits is no deeper than a text may be
pub within_low : (t : TreeValue) (body : Branches Provision) → within_limits t (Ok body) ≡ Ok body → heights body ≤ MAX_DEPTH
within_low t body is = by (first_cause (record t { body = body })) refl is
  where
    by : (cause : Option Cause) → first_cause (record t { body = body }) ≡ cause → unless_for cause body ≡ Ok body → heights body ≤ MAX_DEPTH
    by None clean one = omega (arith, faultless_low t.numbering t.limit (all_owns body) (faultless (record t { body = body }) clean), heights_owns body)
    by (Some cause) held one = absurd cc
