-- The tree of an act, as a clause sees it.
use Rattle.std.specs.Prelude.{ℕ, ◌+◌, ◌-◌, ◌^◌, min}
use Rattle.act_tree.specs.declared.limits.NodeLimit.{NodeLimit}
use Rattle.eid_paths.specs.declared.numbering.Numbering.{Numbering}
use Rattle.act_tree.specs.Branches.{Branches}
use Rattle.act_tree.specs.Provisions.{Provision}

-- a tree: which elements are numbered throughout, how many provisions it may have, the children of its root with all beneath them, and the number of
-- changes that were made to it since it was built, which is no part of its text
pub record TreeValue : Type 0 where
  pub numbering : Numbering
  pub limit : NodeLimit
  pub body : Branches Provision
  pub changes : ℕ

-- a tree as enacted, which no change was made to
abbrev pub unchanged : Numbering → NodeLimit → Branches Provision → TreeValue
unchanged numbering limit body = record { numbering = numbering; limit = limit; body = body; changes = 0 }

-- one more change; the count stands still at 2^64 - 1
abbrev pub one_more : ℕ → ℕ
one_more changes = min (changes + 1) (2 ^ 64 - 1)

-- a tree after a change that left it this text
abbrev pub changed_once : TreeValue → Branches Provision → TreeValue
changed_once tree body = record tree { body = body; changes = one_more tree.changes }
