-- What holds of each item of a list, as a loop finds it.
use Rattle.std.proofs.Common.{◌≡◌, ◌∙◌, ℕ, ◌+◌, ◌<◌, ◌≤◌, Bool, true, false, List, length, take, get_or, sym, ap, refl}
use Rattle.std.specs.List.{list_all}
use Rattle.std.proofs.lemmas.Bool.{and_from}
use Rattle.std.proofs.lemmas.List.{take_all}
use Rattle.std.proofs.lemmas.List.Folds.{list_all_at, list_all_more}

-- what holds of all holds of each
pub each_holds : {X : Type 0} (p : X → Bool) (xs : List X) (i : ℕ) (x : X) → i < length xs → x ≡ get_or xs i x → list_all p xs ≡ true → p x ≡ true
each_holds p xs i x low at all = by (p x) refl
  where
    by : (b : Bool) → p x ≡ b → p x ≡ true
    by true is = is
    by false is = absurd (let no : true ≡ false = sym all ∙ list_all_at p xs i x low (ap p (sym at) ∙ is) in cc)

-- one more holds
pub more_hold : {X : Type 0} (p : X → Bool) (xs : List X) (i : ℕ) (x : X) → i < length xs → x ≡ get_or xs i x → list_all p (take i xs) ≡ true → p x ≡ true
    → list_all p (take (i + 1) xs) ≡ true
more_hold p xs i x low at all one = list_all_more p xs i x low ∙ and_from _ _ all (ap p (sym at) ∙ one)

pub all_hold : {X : Type 0} (p : X → Bool) (xs : List X) (i : ℕ) → length xs ≤ i → list_all p (take i xs) ≡ true → list_all p xs ≡ true
all_hold p xs i over all = ap (list_all p) (sym (take_all i xs over)) ∙ all
