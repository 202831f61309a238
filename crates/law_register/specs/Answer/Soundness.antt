-- What of a work can be replayed, and which versions a replay goes on with.
use Rattle.std.specs.Prelude.{◌≡◌, ◌<◌, ◌-◌, ◌^◌, ℕ, true, false, ◌||◌, Bool, List, [], ◌∷◌, length, map, min, Option, Some, None}
use Rattle.std.specs.List.{All, AllByRecursion, list_any}
use Rattle.desk_base.specs.declared.id.Id.{Id}
use Rattle.desk_base.specs.declared.period.Period.{Period}
use Rattle.act_tree.specs.Branches.{Branches, branches_of}
use Rattle.act_tree.specs.Brought.{has_brought}
use Rattle.act_tree.specs.Faults.{first_cause, first_fault}
use Rattle.act_tree.specs.Provisions.{Provision}
use Rattle.textual_mods.specs.Edits as edits
use Rattle.law_register.specs.declared.register.carried.Carried.{Carried}
use Rattle.law_register.specs.declared.register.known.Known.{Known}
use Rattle.law_register.specs.declared.law.modification.Modification.{Modification}
use Rattle.law_register.specs.declared.law.modification.Modification.TheVariants.{Textual, Force, Efficacy}
use Rattle.law_register.specs.Answer.Breakpoints.{has_day, period_days}
use Rattle.law_register.specs.Answer.Counted.{is_same_id}
use Rattle.law_register.specs.Answer.Replay.{VersionValue}

-- one of these ids stands twice
abbrev pub id_twice : List Id → Bool
id_twice [] = false
id_twice (id ∷ ids) = list_any (is_same_id id) ids || id_twice ids

-- what a modification brings keeps the rules of its kind
abbrev pub IsSoundBody : Modification → Type 0
IsSoundBody (Textual source force edit) = edits.IsSound edit
IsSoundBody (Force source destination on effect) = Unit {0}
IsSoundBody (Efficacy source destination on effect) = Unit {0}

-- periods begin and end on these days
abbrev pub AreBoundedBy : List ℕ → List Period → Type 0
AreBoundedBy days spans = AllByRecursion (λ span. AllByRecursion (λ day. has_day day days ≡ true) (period_days span)) spans

-- what is carried of a provision, if anything is, changes on these days alone
abbrev pub IsSteady : List ℕ → Option Carried → Type 0
IsSteady days None = Unit {0}
IsSteady days (Some carried) = AreBoundedBy days carried.force × AreBoundedBy days carried.efficacy

-- the act as enacted is well-formed, the ids of the modifications differ, each modification keeps the rules of its kind, and what it
-- carries changes on days of the works on which its work depends
pub record IsSound (known : Known) : Type 0 where
  pub fits : first_fault known.act.numbering known.act.limit (branches_of known.act.body) ≡ None
  pub ids : id_twice (map (λ m. m.id) known.mods) ≡ false
  pub bodies : All (λ m. IsSoundBody m.body) known.mods
  pub steady : All (λ m. IsSteady known.source_days m.carried) known.mods

-- a text has no wId of a modification but of these
abbrev pub IsFreshBut : List Id → Branches Provision → Type 0
IsFreshBut ids body =
    (other : Id) → other.law < 2 ^ 32 → other.item < 2 ^ 16 → list_any (is_same_id other) ids ≡ false
    → has_brought other body ≡ false

-- a version as replay makes it: its tree is well-formed, has no wId of a modification that was not applied, and has as many
-- changes as modifications were applied
pub record IsReplayed (version : VersionValue) : Type 0 where
  pub fits : first_cause version.tree ≡ None
  pub fresh : IsFreshBut version.applied version.tree.body
  pub changes : version.tree.changes ≡ min (length version.applied) (2 ^ 64 - 1)
