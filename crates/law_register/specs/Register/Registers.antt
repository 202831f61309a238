-- A register, as a clause sees it: its entries, and for how many more it has room.
use Rattle.std.specs.Prelude.{◌≡◌, ℕ, ◌-◌, ◌/◌, ◌≤◌, min, Bool, true, List, vec_len, vec_capacity}
use Rattle.std.specs.List.{list_all}
use Rattle.indexmap.specs.IndexMap.{spare}
use Rattle.law_register.specs.declared.register.entry.Entry.{Entry}
use Rattle.law_register.specs.declared.register.indexes.Indexes.{Indexes}
use Rattle.law_register.specs.Law.Spelling.{is_well_spelled}
use Rattle.law_register.specs.Register.Indexes.{StandFor}
use Rattle.law_register.specs.Register.Verdicts.{is_legal}
use Rattle.law_register.specs.declared.register.limits.TheConstants.{MOST_DRAFT_ITEMS}
use Rattle.textual_mods.specs.declared.fitting.TheConstants.{MAX_ITEMS}

-- the entries, and for how many more there is room
pub record Contents : Type 0 where
  pub entries : List Entry
  pub spare : ℕ

-- for how many more entries the indexes have room: an entry records 64 ids at most, and a drafter's mark is taken out and put back
abbrev pub map_room : Indexes → ℕ
map_room ix = min (spare ix.requests) (min (spare ix.drafters / 2) (min (spare ix.works) (spare ix.ids / MAX_ITEMS)))

abbrev pub index_room : Indexes → ℕ
index_room ix = min (map_room ix) (min (vec_capacity ix.steps - vec_len ix.steps)
    (min ((vec_capacity ix.bodies - vec_len ix.bodies) / MOST_DRAFT_ITEMS) (vec_capacity ix.acts - vec_len ix.acts)))

-- indexes with the same entries, in the same order, and the same counts
pub record IsSame (old new : Indexes) : Type 0 where
  pub requests : new.requests.entries ≡ old.requests.entries
  pub drafters : new.drafters.entries ≡ old.drafters.entries
  pub works : new.works.entries ≡ old.works.entries
  pub ids : new.ids.entries ≡ old.ids.entries
  pub steps : new.steps.items ≡ old.steps.items
  pub bodies : new.bodies.items ≡ old.bodies.items
  pub acts : new.acts.items ≡ old.acts.items
  pub front : new.front ≡ old.front
  pub size : new.size ≡ old.size

-- indexes with room for as many more entries at least, in each of them
pub record HasRoomOf (old new : Indexes) : Type 0 where
  pub requests : spare old.requests ≤ spare new.requests
  pub drafters : spare old.drafters ≤ spare new.drafters
  pub works : spare old.works ≤ spare new.works
  pub ids : spare old.ids ≤ spare new.ids
  pub steps : vec_capacity old.steps - vec_len old.steps ≤ vec_capacity new.steps - vec_len new.steps
  pub bodies : vec_capacity old.bodies - vec_len old.bodies ≤ vec_capacity new.bodies - vec_len new.bodies
  pub acts : vec_capacity old.acts - vec_len old.acts ≤ vec_capacity new.acts - vec_len new.acts

-- the command of each entry is well spelled
abbrev pub are_well_spelled : List Entry → Bool
are_well_spelled entries = list_all (λ e. is_well_spelled e.command) entries

-- the indexes tell what the definitions tell of the entries, which are legal and well spelled
pub record IsKept (ix : Indexes) (entries : List Entry) : Type 0 where
  pub legal : is_legal entries ≡ true
  pub spelled : are_well_spelled entries ≡ true
  pub stands : StandFor ix entries
