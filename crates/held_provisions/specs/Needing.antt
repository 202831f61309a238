-- The works of a line on which one depends, directly or through others.
use Rattle.std.specs.Prelude.{◌≡◌, ℕ, ◌||◌, Bool, List, [], ◌∷◌, ◌++◌, filter, if◌then◌else◌}
use Rattle.std.specs.List.{list_any}
use Rattle.law_register.specs.declared.register.known.Known.{Known}
use Rattle.law_register.specs.Provisions.Depending.{depends}

-- a work, or one of others, depends on a work
abbrev pub is_wanted : List Known → Known → List Known → List ℕ → Bool
is_wanted line known needed other = depends line known other || list_any (λ one. depends line one other) needed

-- a work in front of others, where it is wanted
abbrev pub with_wanted : List Known → Known → Known → List Known → List Known
with_wanted line known other needed = if is_wanted line known needed other.act.work then other ∷ needed else needed

-- of works that stand behind each other in a line, those on which a work depends, directly or through others
abbrev pub needed_in : List Known → Known → List Known → List Known
needed_in line known [] = []
needed_in line known (other ∷ others) = with_wanted line known other (needed_in line known others)

-- each of these works has those on which it depends ahead of it, among these and those before it
abbrev pub HaveAhead : List Known → List Known → List Known → List Known → Type 0
HaveAhead line all ahead [] = Unit {0}
HaveAhead line all ahead (known ∷ others) =
    (filter (λ other. depends line known other.act.work) ahead ≡ filter (λ other. depends line known other.act.work) all)
    × HaveAhead line all (ahead ++ known ∷ []) others
