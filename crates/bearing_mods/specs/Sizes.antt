-- How many bytes an effect takes where it is kept: its type in one byte, and its date or days.
use Rattle.std.specs.Prelude.{ℕ, ◌+◌}
use Rattle.desk_base.specs.declared.sizes.TheConstants.{DAY_SIZE, PERIOD_SIZE}
use Rattle.bearing_mods.specs.declared.efficacy.EfficacyEffect.{EfficacyEffect}
use Rattle.bearing_mods.specs.declared.efficacy.EfficacyEffect.TheVariants.{Retroactive, Extra, Inapplied}
use Rattle.bearing_mods.specs.declared.force.ForceEffect.{ForceEffect}

-- an effect on force, with its date
abbrev pub force_size : ForceEffect → ℕ
force_size effect = 1 + DAY_SIZE

-- an effect on efficacy, with its date or days; a retroactivity is counted from its date, which is not kept twice
abbrev pub efficacy_size : EfficacyEffect → ℕ
efficacy_size (Retroactive date) = 1
efficacy_size Extra = 1
efficacy_size (Inapplied days) = 1 + PERIOD_SIZE
efficacy_size effect = 1 + DAY_SIZE
