-- What is known of the steps of a reading that gave a value.
use Rattle.std.proofs.Common.{◌≡◌, Bool, true, false, Option, Some, None, Ok, Err, refl}
use Rattle.frbr_names.specs.declared.fault.NameFault.{NameFault}
use Rattle.frbr_names.specs.Reads.{Read, ◌>>=◌, ◌>>◌, or_fault, unless_broken}

-- a reading went on
pub read_on : {A B : Type 0} (r : Read A) (next : A → Read B) (b : B) → (r >>= next) ≡ Ok b → (a : A) × (r ≡ Ok a) × (next a ≡ Ok b)
read_on (Ok a) next b e = (a, refl, e)
read_on (Err fault) next b e = cc

-- a rule was kept
pub kept_on : {B : Type 0} (fault : NameFault) (t : Bool) (next : Read B) (b : B) → (unless_broken fault t >> next) ≡ Ok b → (t ≡ true) × (next ≡ Ok b)
kept_on fault true next b e = (refl, e)
kept_on fault false next b e = cc

-- something was found
pub found_on : {A B : Type 0} (fault : NameFault) (o : Option A) (next : A → Read B) (b : B) → (or_fault fault o >>= next) ≡ Ok b → (a : A) × (o ≡ Some a) × (next a ≡ Ok b)
found_on fault (Some a) next b e = (a, refl, e)
found_on fault None next b e = cc
