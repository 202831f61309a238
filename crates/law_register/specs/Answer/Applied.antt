-- How many ids are applied on a day after those of the day before.
use Rattle.std.specs.Prelude.{ℕ, ◌-◌, Bool, true, false, ◌&&◌, if◌then◌else◌, List, [], ◌∷◌, length}
use Rattle.desk_base.specs.declared.id.Id.{Id}
use Rattle.law_register.specs.Answer.Counted.{is_same_id}

-- a list of ids begins with these
abbrev pub begins_with : List Id → List Id → Bool
begins_with [] ids = true
begins_with (first ∷ firsts) [] = false
begins_with (first ∷ firsts) (id ∷ ids) = is_same_id first id && begins_with firsts ids

-- how many ids are applied on a day after those of the day before: the others where the list begins with them, or else all
abbrev pub ids_applied : List Id → List Id → ℕ
ids_applied before ids = if begins_with before ids then length ids - length before else length ids
