-- Numberings of which all truth values are equal are equal.
use Rattle.std.proofs.Common.{◌≡◌, Bool, ap}
use Rattle.std.specs.Bool.{Decides, beq}
use Rattle.std.specs.Cmp.{booleans_Decides}
use Rattle.std.specs.Cmp.Lexicographic.{pointwise, pointwise_decides}
use Rattle.eid_paths.specs.declared.numbering.Numbering.{Numbering}

pub numberings_decide : (a b : Numbering) → Decides (pointwise beq a.throughout b.throughout) (a ≡ b)
numberings_decide a b =
    let flags = pointwise_decides booleans_Decides a.throughout b.throughout in
    (λ h. λ i. record { throughout = flags.0 h i }, λ e. flags.1 (ap (λ (n : Numbering). n.throughout) e))
