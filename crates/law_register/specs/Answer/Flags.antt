-- The flag of a provision: whether it bears on a day.
use Rattle.std.specs.Prelude.{ℕ, Bool, true, false, ◌||◌, List, [], ◌∷◌, Option, Some, None, if◌then◌else◌}
use Rattle.std.specs.Str.{bytes_eq}
use Rattle.act_tree.specs.Branches.{Branch, Branches, branch, no_branches, more_branches}
use Rattle.act_tree.specs.Changes.{root_wid}
use Rattle.act_tree.specs.Provisions.{Provision}
use Rattle.law_register.specs.declared.register.known.Known.{Known}
use Rattle.law_register.specs.declared.register.known.KnownMod.{KnownMod}
use Rattle.law_register.specs.declared.law.modification.Destination.TheVariants as to
use Rattle.law_register.specs.declared.answer.question.Reading.{Reading}
use Rattle.law_register.specs.declared.answer.question.Reading.TheVariants as reading
use Rattle.law_register.specs.Answer.Bearing.{node_bears}
use Rattle.law_register.specs.Answer.Counted.{forces_on, efficacies_on}

-- a list has a member
abbrev pub has_some : {A : Type 0} → List A → Bool
has_some [] = false
has_some (one ∷ others) = true

-- a provision is marked: a modification of force that is counted on the day is directed at it, or in the reading of efficacy
-- one of force or of efficacy
abbrev pub is_marked : Reading → List KnownMod → ℕ → List ℕ → Bool
is_marked reading.Force mods day wid = has_some (forces_on (to.Node wid) day mods)
is_marked reading.Efficacy mods day wid =
    has_some (forces_on (to.Node wid) day mods) || has_some (efficacies_on (to.Node wid) day mods)

-- the flag of a provision below one of this flag: whether it bears, where it is marked, and else the flag above; so it is that
-- of the nearest marked provision on the way up, the root included
abbrev pub flag_below : Known → Reading → ℕ → Bool → List ℕ → Bool
flag_below known reading day above wid =
    if is_marked reading known.mods day wid then node_bears known reading day wid else above

-- the flag of the root: whether the act bears
abbrev pub root_flag : Known → Reading → ℕ → Bool
root_flag known reading day = node_bears known reading day root_wid

-- the first of two, or the second where there is no first
abbrev pub or_else : Option Bool → Option Bool → Option Bool
or_else (Some flag) other = Some flag
or_else None other = other

-- the flag of the provision of this wId, which stands here or beneath, under one of this flag
abbrev mutual
  pub flag_in : Known → Reading → ℕ → Bool → List ℕ → Branch Provision → Option Bool
  flag_in known reading day above wid (branch p below) =
      if bytes_eq p.wid wid then Some (flag_below known reading day above wid)
      else flag_among known reading day (flag_below known reading day above p.wid) wid below

  pub flag_among : Known → Reading → ℕ → Bool → List ℕ → Branches Provision → Option Bool
  flag_among known reading day above wid no_branches = None
  flag_among known reading day above wid (more_branches b bs) =
      or_else (flag_in known reading day above wid b) (flag_among known reading day above wid bs)

-- the flag of a provision of a text, or of the root by its wId
abbrev pub flag : Known → Reading → ℕ → Branches Provision → List ℕ → Option Bool
flag known reading day body wid =
    if bytes_eq wid root_wid then Some (root_flag known reading day)
    else flag_among known reading day (root_flag known reading day) wid body
