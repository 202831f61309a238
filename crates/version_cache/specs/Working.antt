-- What a table goes on from: the version of its last row once more, in a tree of its own.
use Rattle.std.specs.Prelude.{ℕ, ◌≡◌, true, refl, List, [], ◌∷◌, Option, Some, None}
use Rattle.std.specs.Coded.{Coded, Coded-set, code_by, codes, coded×, coded_list, coded_ℕ, coded_bool, ×_prop, Unit-prop}
use Rattle.desk_base.specs.declared.id.Id.{Id}
use Rattle.act_tree.specs.declared.cause.Cause.{Cause}
use Rattle.act_tree.specs.declared.limits.NodeLimit.{NodeLimit}
use Rattle.act_tree.specs.Branches.{Branch, Branches, branches_of, listed, branches_of-listed}
use Rattle.act_tree.specs.Codes.{branches_code}
use Rattle.act_tree.specs.Provisions.{Provision}
use Rattle.act_tree.specs.Seen.{is_own}
use Rattle.act_tree.specs.Single.{provision_code}
use Rattle.act_tree.specs.Trees.{TreeValue}
use Rattle.eid_paths.specs.declared.numbering.Numbering.{Numbering}
use Rattle.law_register.specs.declared.answer.version.Version.{Version}
use Rattle.law_register.specs.Answer.Replay.{VersionValue}
use Rattle.law_register.specs.Answer.Versions.{version_view}
use Rattle.version_cache.specs.Tables.{RowValue, last_version}

-- a working version, if there is one, is this one, in a tree of its own
abbrev pub IsWorking : VersionValue → Option Version → Type 0
IsWorking last None = Unit {0}
IsWorking last (Some version) = (is_own version.tree ≡ true) × (version_view version ≡ last)

-- a version is that of the last of these rows, if there are any
abbrev pub IsOfLast : List RowValue → VersionValue → Type 0
IsOfLast [] version = Unit {0}
IsOfLast (row ∷ rows) version = version ≡ last_version row.version rows

-- a working version, if there is one, is that of the last of these rows, of which there are some
abbrev pub IsBehind : List RowValue → Option Version → Type 0
IsBehind [] None = Unit {0}
IsBehind [] (Some version) = ⊥
IsBehind (row ∷ rows) working = IsWorking (last_version row.version rows) working

-- a text is told apart by its branches
abbrev body_code : Coded (Branches Provision)
body_code = code_by (List (Branch Provision)) (branches_code provision_code) listed branches_of branches_of-listed

version_set : (a b : VersionValue) → IsProp (a ≡ b)
version_set a b = hlevel (codes, Coded-set, body_code, Coded-set coded_ℕ, Coded-set coded_bool)

⊥_prop : IsProp ⊥
⊥_prop a b = absurd a

-- each of them has one proof at most, so that a table may carry it
pub IsWorking-prop : (last : VersionValue) (working : Option Version) → IsProp (IsWorking last working)
IsWorking-prop last None = Unit-prop
IsWorking-prop last (Some version) = ×_prop (Coded-set coded_bool (is_own version.tree) true) (version_set (version_view version) last)

pub IsBehind-prop : (rows : List RowValue) (working : Option Version) → IsProp (IsBehind rows working)
IsBehind-prop [] None = Unit-prop
IsBehind-prop [] (Some version) = ⊥_prop
IsBehind-prop (row ∷ rows) working = IsWorking-prop (last_version row.version rows) working
