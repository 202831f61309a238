-- Where provisions stand in a tree, and what a change makes of it.
use Rattle.std.specs.Prelude.{ℕ, zero, suc, Bool, false, ◌||◌, List, [], ◌∷◌, ◌++◌, Option, Some, None, if◌then◌else◌, codes}
use Rattle.std.specs.Str.{bytes_eq}
use Rattle.act_tree.specs.Branches.{Branch, Branches, branch, no_branches, more_branches}
use Rattle.act_tree.specs.Provisions.{Provision}

-- a provision has this wId
abbrev pub has_wid : List ℕ → Branch Provision → Bool
has_wid wid (branch p below) = bytes_eq p.wid wid

-- a provision of this wId stands here or beneath
abbrev mutual
  pub holds : List ℕ → Branch Provision → Bool
  holds wid (branch p below) = bytes_eq p.wid wid || any_holds wid below

  pub any_holds : List ℕ → Branches Provision → Bool
  any_holds wid no_branches = false
  any_holds wid (more_branches b bs) = holds wid b || any_holds wid bs

-- the provisions without those of this wId, and without all that stands beneath them
abbrev mutual
  pub inside_without : List ℕ → Branch Provision → Branch Provision
  inside_without wid (branch p below) = branch p (without wid below)

  pub without : List ℕ → Branches Provision → Branches Provision
  without wid no_branches = no_branches
  without wid (more_branches b bs) =
      if has_wid wid b then without wid bs else more_branches (inside_without wid b) (without wid bs)

-- the wId of the root, which stands for the act itself
abbrev pub root_wid : List ℕ
root_wid = codes "body"

-- the wId is the root's, or that of a provision
abbrev pub is_in : List ℕ → Branches Provision → Bool
is_in wid bs = bytes_eq wid root_wid || any_holds wid bs

-- the provisions without those of this wId, or none where it is the root's
abbrev pub removed : List ℕ → Branches Provision → Branches Provision
removed wid bs = if bytes_eq wid root_wid then no_branches else without wid bs

-- what comes of a provision and of those that stand behind it among its siblings
abbrev pub Step : Type 0
Step = Branch Provision → Branches Provision → Branches Provision

-- the provisions, where a step is made at each provision of this wId
abbrev mutual
  pub inside_changed : Step → List ℕ → Branch Provision → Branch Provision
  inside_changed step wid (branch p below) = branch p (changed step wid below)

  pub changed : Step → List ℕ → Branches Provision → Branches Provision
  changed step wid no_branches = no_branches
  changed step wid (more_branches b bs) =
      if has_wid wid b then step (inside_changed step wid b) (changed step wid bs)
      else more_branches (inside_changed step wid b) (changed step wid bs)

-- provisions, and behind them others
abbrev pub joined : Branches Provision → Branches Provision → Branches Provision
joined no_branches more = more
joined (more_branches b bs) more = more_branches b (joined bs more)

-- the first so many provisions
abbrev pub first : ℕ → Branches Provision → Branches Provision
first zero bs = no_branches
first (suc n) no_branches = no_branches
first (suc n) (more_branches b bs) = more_branches b (first n bs)

-- the provisions behind the first so many
abbrev pub behind : ℕ → Branches Provision → Branches Provision
behind zero bs = bs
behind (suc n) no_branches = no_branches
behind (suc n) (more_branches b bs) = behind n bs

-- others stand in the place of the provision
abbrev pub instead : Branches Provision → Step
instead new b rest = joined new rest

-- others stand right before the provision
abbrev pub before : Branches Provision → Step
before new b rest = joined new (more_branches b rest)

-- others stand right behind the provision
abbrev pub after : Branches Provision → Step
after new b rest = more_branches b (joined new rest)

-- others stand among provisions, behind the first so many
abbrev pub put_in : ℕ → Branches Provision → Branches Provision → Branches Provision
put_in place new below = joined (first place below) (joined new (behind place below))

-- others stand among the children of the provision, behind the first so many
abbrev pub among_children : ℕ → Branches Provision → Step
among_children place new (branch p below) rest = more_branches (branch p (put_in place new below)) rest

-- the provision has another content
abbrev pub with_content : List ℕ → Step
with_content content (branch p below) rest =
    more_branches (branch (record p { own = record p.own { content = content } }) below) rest

-- the provision is parted: it keeps what it says under another content, and its first so many children; right behind it
-- stands a provision with the others
abbrev pub parted : ℕ → List ℕ → Provision → Step
parted place head second (branch p below) rest =
    more_branches (branch (record p { own = record p.own { content = head } }) (first place below))
    (more_branches (branch second (behind place below)) rest)

-- the provision takes the next one in: it has this content, and the refs and children of both
abbrev pub merged : List ℕ → Step
merged content b no_branches = more_branches b no_branches
merged content (branch p below) (more_branches (branch next under) rest) =
    more_branches (branch
    (record p { own = record p.own { content = content; refs = p.own.refs ++ next.own.refs } })
    (joined below under)) rest

-- the provisions with others in the place of the one of this wId; where it is the root's, the others alone
abbrev pub substituted : List ℕ → Branches Provision → Branches Provision → Branches Provision
substituted wid new bs = if bytes_eq wid root_wid then new else changed (instead new) wid bs

-- the provisions with others among the children of the one of this wId, or among those of the root, behind the first so
-- many
abbrev pub grafted : List ℕ → ℕ → Branches Provision → Branches Provision → Branches Provision
grafted wid place new bs =
    if bytes_eq wid root_wid then put_in place new bs else changed (among_children place new) wid bs

-- the num that pairs of a wId and a num give to a wId, by the first of them that names it, or else the one that it had
abbrev pub num_given : List (List ℕ × List ℕ) → List ℕ → List ℕ → List ℕ
num_given [] wid num = num
num_given (pair ∷ pairs) wid num = if bytes_eq wid pair.0 then pair.1 else num_given pairs wid num

-- the provisions with the nums that pairs of a wId and a num give them, all at once
abbrev mutual
  pub inside_renumbered : List (List ℕ × List ℕ) → Branch Provision → Branch Provision
  inside_renumbered pairs (branch p below) =
      branch (record p { own = record p.own { num = num_given pairs p.wid p.own.num } }) (renumbered pairs below)

  pub renumbered : List (List ℕ × List ℕ) → Branches Provision → Branches Provision
  renumbered pairs no_branches = no_branches
  renumbered pairs (more_branches b bs) = more_branches (inside_renumbered pairs b) (renumbered pairs bs)

-- the first of two, or the second where there is no first
abbrev pub or_else : Option (Branch Provision) → Option (Branch Provision) → Option (Branch Provision)
or_else (Some b) other = Some b
or_else None other = other

-- the provision of this wId, with all beneath it, if one stands here or beneath
abbrev mutual
  pub sought : List ℕ → Branch Provision → Option (Branch Provision)
  sought wid (branch p below) = if bytes_eq p.wid wid then Some (branch p below) else found wid below

  pub found : List ℕ → Branches Provision → Option (Branch Provision)
  found wid no_branches = None
  found wid (more_branches b bs) = or_else (sought wid b) (found wid bs)

-- the first of provisions
abbrev pub head_of : Branches Provision → Option (Branch Provision)
head_of no_branches = None
head_of (more_branches b bs) = Some b

-- the sibling that stands right behind the provision of this wId
abbrev mutual
  pub next_inside : List ℕ → Branch Provision → Option (Branch Provision)
  next_inside wid (branch p below) = next_of wid below

  pub next_of : List ℕ → Branches Provision → Option (Branch Provision)
  next_of wid no_branches = None
  next_of wid (more_branches b bs) = if has_wid wid b then head_of bs else or_else (next_inside wid b) (next_of wid bs)
