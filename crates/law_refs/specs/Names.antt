-- The IRIs of works as a set.
use Rattle.std.specs.Prelude.{◌==◌, ℕ, Bool, List}
use Rattle.std.specs.Cmp.Lexicographic.{pointwise}
use Rattle.std.specs.List.{list_any}
use Rattle.std.specs.Str.{bytes_eq}
use Rattle.indexmap.specs.IndexSet.{insert_key}

-- one of these names is this text
abbrev pub is_among : List ℕ → List (List ℕ) → Bool
is_among text names = list_any (bytes_eq text) names

-- these names with one more, behind the others, unless it is there
abbrev pub with_name : List (List ℕ) → List ℕ → List (List ℕ)
with_name names name = insert_key (pointwise ◌==◌) names name
