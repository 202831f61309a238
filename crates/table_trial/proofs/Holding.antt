-- What is known of a work decides for which entries its tables are right.
use Rattle.std.proofs.Common.{◌≡◌, sym, subst, ℕ, Option, Some, None}
use Rattle.law_register.specs.declared.register.known.Known.{Known}
use Rattle.version_cache.specs.Works.{AreRightIf, AreRightUntil, IsFor, IsForIf, WorkValue}

-- the tables of a work that is known are right before a day for what is known
pub right_until_now : (found : Option Known) (known : Known) (until : Option ℕ) (work : WorkValue) → Some known ≡ found → AreRightIf found until work → AreRightUntil known until work
right_until_now found known until work is right = subst (λ o. AreRightIf o until work) (sym is) right

pub for_now : (found : Option Known) (known : Known) (work : WorkValue) → Some known ≡ found → IsForIf found work → IsFor known work
for_now found known work is right = subst (λ o. IsForIf o work) (sym is) right

pub held_now : (found : Option Known) (known : Known) (work : WorkValue) → Some known ≡ found → IsFor known work → IsForIf found work
held_now found known work is right = subst (λ o. IsForIf o work) is right

-- of a work that is not known nothing is kept
pub none_now : (found : Option Known) (until : Option ℕ) (work now : WorkValue) → None ≡ found → AreRightIf found until work → IsForIf found now
none_now found until work now is right = absurd (subst (λ o. AreRightIf o until work) (sym is) right)
