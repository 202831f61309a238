-- How many references there are to judge.
use Rattle.std.specs.Prelude.{ℕ, ◌+◌, List, [], ◌∷◌, if◌then◌else◌}
use Rattle.law_refs.specs.Judging.{names_one}
use Rattle.law_refs.specs.declared.node_ref.JudgedRef.{JudgedRef}

-- how many of these references have a target of one of these works
abbrev pub moved_refs : List (List ℕ) → List JudgedRef → ℕ
moved_refs moved [] = 0
moved_refs moved (kept ∷ refs) = (if names_one moved kept.iri then 1 else 0) + moved_refs moved refs
