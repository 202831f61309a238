-- The rows of the references of a work that was just made.
use Rattle.std.proofs.Common.{◌≡◌, sym, subst, refl, ℕ, List, ◌++◌, Option, Some, None, option_map, Result, OnOk}
use Rattle.law_register.specs.declared.register.known.Known.{Known}
use Rattle.law_refs.specs.Handing.{rows_if, rows_made}
use Rattle.law_refs.specs.declared.ref_row.RefRow.{RefRow}
use Rattle.version_cache.specs.Works.{WorkValue, work_of}

-- what is made of a work is made of what is held of it
made_held : (made : WorkValue) (held : Option Known) → Some made ≡ option_map work_of held → (known : Known) × (held ≡ Some known) × (made ≡ work_of known)
made_held made None is = absurd (let no : Some made ≡ None = is in cc)
made_held made (Some known) is = (known, refl, cc)

pub rows_of_made : {A E : Type 0} (r : Result A E) (work : List ℕ) (made : WorkValue) (held : Option Known) (old new : List RefRow)
    → Some made ≡ option_map work_of held
    → ((known : Known) → made ≡ work_of known → OnOk r (new ≡ old ++ rows_made work known))
    → OnOk r (new ≡ old ++ rows_if (rows_made work) held)
rows_of_made r work made held old new is rows =
    let found = made_held made held is in
    subst (λ (h : Option Known). OnOk r (new ≡ old ++ rows_if (rows_made work) h)) (sym found.1) (rows found.0 found.2)
