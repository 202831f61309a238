-- What the slots of an arena lay down.
use Rattle.std.specs.Prelude.{ℕ, ◌≡◌, true, List, Option, Some, slice_get, option_map, length, if◌then◌else◌}
use Rattle.std.specs.Str.{bytes_eq}
use Rattle.act_tree.specs.declared.arena.Slot.{Slot}
use Rattle.act_tree.specs.declared.arena.Arena.{Arena}
use Rattle.act_tree.specs.Provisions.{Own, Provision}
use Rattle.act_tree.specs.Arena.{Laid, provision_in}
use Rattle.act_tree.specs.LastNumbers.{last_named}

-- the provision of a slot
abbrev pub provision_of : Slot → Provision
provision_of s = record {
  wid = s.wid;
  own = record { element = s.element; num = s.num; heading = s.heading; content = s.content; refs = s.refs };
}

-- what a slot lays down
abbrev pub laid_of : Slot → Laid
laid_of s = record { provision = provision_of s; above = s.above; below = s.below.items }

-- what slots lay down for a number, which is the place of the slot
abbrev pub laid : List Slot → ℕ → Option Laid
laid slots i = option_map laid_of (slice_get slots i)

-- what an arena lays down for a number
abbrev pub at : Arena → ℕ → Option Laid
at arena i = laid arena.slots.items i

-- what the provision of a number says of itself
abbrev pub own_at : Arena → ℕ → Own
own_at arena i = (provision_in (at arena i)).own

-- the number to which an arena's index leads from a wId
abbrev pub number : Arena → List ℕ → Option ℕ
number arena wid = last_named arena.numbers.wids wid

-- how many slots an arena has
abbrev pub size : Arena → ℕ
size arena = length arena.slots.items

-- an arena is own: it can be written to
abbrev pub IsOwn : Arena → Type 0
IsOwn arena = arena.numbers.is_own ≡ true

-- the index leads from a wId to a number, and from others to where it led before
abbrev pub LeadsTo : Arena → Arena → List ℕ → ℕ → Type 0
LeadsTo old new wid id = (w : List ℕ) → number new w ≡ (if bytes_eq wid w then Some id else number old w)
