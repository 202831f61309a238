-- In what order counted modifications take effect.
use Rattle.std.specs.Prelude.{ℕ, Bool, true, not, ◌&&◌, ◌||◌, ◌==◌, nat_lt, List, [], ◌∷◌}
use Rattle.desk_base.specs.declared.id.Id.{Id}
use Rattle.bearing_mods.specs.declared.force.CountedForce.{CountedForce}
use Rattle.bearing_mods.specs.declared.efficacy.CountedEfficacy.{CountedEfficacy}

-- what decides the turn of a modification: the day from which it is counted, and its id
pub record Turn : Type 0 where
  pub on : ℕ
  pub id : Id

-- the turn of a force modification
abbrev pub force_turn : CountedForce → Turn
force_turn one = record { on = one.on; id = one.id }

-- the turn of an efficacy modification
abbrev pub efficacy_turn : CountedEfficacy → Turn
efficacy_turn one = record { on = one.on; id = one.id }

-- an id comes before another: by the law number, then by the item
abbrev pub is_lower : Id → Id → Bool
is_lower a b = nat_lt a.law b.law || ((a.law == b.law) && nat_lt a.item b.item)

-- a turn comes before another: by the day, then by the id
abbrev pub is_earlier : Turn → Turn → Bool
is_earlier a b = nat_lt a.on b.on || ((a.on == b.on) && is_lower a.id b.id)

-- the first of these turns, if there is one, does not come before this one
abbrev pub is_not_after : Turn → List Turn → Bool
is_not_after turn [] = true
is_not_after turn (next ∷ others) = not (is_earlier next turn)

-- the turns ascend: none comes before the one in front of it
abbrev pub is_in_order : List Turn → Bool
is_in_order [] = true
is_in_order (turn ∷ turns) = is_not_after turn turns && is_in_order turns
