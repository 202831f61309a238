-- What is known of a keeper that tells nothing, and of damage in the place of a failure.
use Rattle.std.specs.Prelude.{ℕ, ◌≡◌, ◌≢◌, Bool, true, false, [], None, Result, Ok, Err}
use Rattle.desk_base.specs.declared.load_fault.LoadFault.{LoadFault}
use Rattle.desk_base.specs.declared.load_fault.LoadFault.TheVariants.{Failed, Damaged, Memory}
use Rattle.law_keeper.specs.Keepers.{Holding, IsHolding}

-- neither its list nor what a crash leaves
abbrev pub untold : Holding
untold = record {
  tells = ⊥;
  list = Ok [];
  place_of = λ cursor. None;
  tells_crash = ⊥;
  may_leave = λ list. ⊥;
  tells_moments = ⊥;
  moment = 0;
  left_since = λ t list. ⊥;
}

pub untold_is : IsHolding untold
untold_is = record { stays = λ t. absurd t; counts_now = λ t. absurd t; only_now = λ t. absurd t }

-- a failure is told as damage where that is wanted, and all else as it is
abbrev pub IsToldAs : {T : Type 0} → Bool → Result T LoadFault → Result T LoadFault → Type 0
IsToldAs true (Err Failed) told = told ≡ Err (Damaged 0 None)
IsToldAs false (Err Failed) told = told ≡ Err Failed
IsToldAs as_damage (Ok value) told = told ≡ Ok value
IsToldAs as_damage (Err (Damaged place byte)) told = told ≡ Err (Damaged place byte)
IsToldAs as_damage (Err Memory) told = told ≡ Err Memory
