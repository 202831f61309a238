-- eIds: levels, joined by `__`.
use Rattle.std.specs.Prelude.{ℕ, ◌+◌, List, [], ◌∷◌, ◌++◌, Result, Ok, Err, length}
use Rattle.std.specs.Result.{result_unwrap_or}
use Rattle.eid_paths.specs.declared.level.Level.{Level}
use Rattle.eid_paths.specs.declared.eid_fault.EidRule.{EidRule}
use Rattle.eid_paths.specs.declared.eid_fault.EidFault.{EidFault}
use Rattle.eid_paths.specs.Levels.{level_text, level_of}
use Rattle.eid_paths.specs.Parts.{parts_of}

-- a broken rule, told with the place where the level begins
abbrev pub placed : ℕ → Result Level EidRule → Result Level EidFault
placed place (Ok level) = Ok level
placed place (Err rule) = Err (record { rule = rule; place = place })

-- a level in front of others; the first fault is the fault of all
abbrev pub in_front : Result Level EidFault → Result (List Level) EidFault → Result (List Level) EidFault
in_front (Err fault) levels = Err fault
in_front (Ok level) (Err fault) = Err fault
in_front (Ok level) (Ok levels) = Ok (level ∷ levels)

-- the levels of parts that stand side by side with `__` between them, the first of which begins at the place
abbrev pub levels_from : ℕ → List (List ℕ) → Result (List Level) EidFault
levels_from place [] = Ok []
levels_from place (part ∷ parts) =
    in_front (placed place (level_of part)) (levels_from (place + (length part + 2)) parts)

-- the levels that a text spells, or its first fault
abbrev pub eid_of : List ℕ → Result (List Level) EidFault
eid_of text = levels_from 0 (parts_of text)

-- how levels spell an eId: each level, with `__` between them
abbrev pub eid_text : List Level → List ℕ
eid_text [] = []
eid_text (level ∷ []) = level_text level.element level.num
eid_text (level ∷ next ∷ levels) = level_text level.element level.num ++ 95 ∷ 95 ∷ eid_text (next ∷ levels)

-- the levels that a text spells, and none where it is no eId
abbrev pub levels_in : List ℕ → List Level
levels_in text = result_unwrap_or (eid_of text) []
