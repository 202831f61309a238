-- The works that may name a provision.
use Rattle.std.specs.Prelude.{ℕ, ◌≡◌, Bool, true, false, List, Option}
use Rattle.std.specs.Option.{option_map_or}
use Rattle.std.specs.Str.{bytes_eq}
use Rattle.indexmap.specs.IndexSet.{IndexSet, contains}
use Rattle.version_cache.specs.Works.{WorkValue}
use Rattle.law_office.specs.Tables.{Kept}

-- what is kept of a work, if anything is, says that it names a provision
abbrev pub names_one : Option WorkValue → Bool
names_one kept = option_map_or (λ one. one.names) kept false

-- a work is among those of a set
abbrev pub is_noted : {S : Type 0} → IndexSet (List ℕ) S → List ℕ → Bool
is_noted naming work = contains bytes_eq naming work

-- a work is among them, if it names a provision
abbrev pub IsNoted : {S : Type 0} → IndexSet (List ℕ) S → List ℕ → Bool → Type 0
IsNoted naming work names = names ≡ true → is_noted naming work ≡ true

-- each work of which what is kept names a provision is among them
abbrev pub AreNoted : {S : Type 0} → IndexSet (List ℕ) S → Kept → Type 0
AreNoted naming kept = (work : List ℕ) → IsNoted naming work (names_one (kept work))

-- what is among those of a set is among those of another
abbrev pub AreMore : {S : Type 0} → IndexSet (List ℕ) S → IndexSet (List ℕ) S → Type 0
AreMore old new = (work : List ℕ) → is_noted old work ≡ true → is_noted new work ≡ true
