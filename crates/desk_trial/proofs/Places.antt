-- What holds of all members of a list holds of the one at a place.
use Rattle.std.proofs.Common.{◌≡◌, ◌∙◌, ap, sym, ℕ, ◌<◌, Bool, true, false, List, length, slice_index_or, refl}
use Rattle.std.specs.List.{list_all}
use Rattle.std.proofs.lemmas.List.Folds.{list_all_at}

holds_by : {X : Type 0} (p : X → Bool) (xs : List X) (i : ℕ) (x : X) (holds : Bool) → p x ≡ holds → i < length xs
    → x ≡ slice_index_or xs i x → list_all p xs ≡ true → p x ≡ true
holds_by p xs i x true told inside same all = told
holds_by p xs i x false told inside same all =
    let none : list_all p xs ≡ false = list_all_at p xs i x inside (ap p (sym same) ∙ told) in cc

pub holds_at : {X : Type 0} (p : X → Bool) (xs : List X) (i : ℕ) (x : X) → i < length xs → x ≡ slice_index_or xs i x
    → list_all p xs ≡ true → p x ≡ true
holds_at p xs i x inside same all = holds_by p xs i x (p x) refl inside same all
