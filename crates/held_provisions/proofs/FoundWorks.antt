-- What is found in a line by an IRI.
use Rattle.std.proofs.Common.{◌≡◌, ap, refl, ℕ, Bool, true, false, cond, List, [], ◌∷◌, map, Option, Some, None, option_map}
use Rattle.std.specs.List.{find}
use Rattle.std.specs.Str.{bytes_eq}
use Rattle.law_register.specs.declared.register.known.Known.{Known}
use Rattle.law_register.specs.Provisions.Line.{work_in}

pub map_twice : {A B C : Type 0} (f : A → B) (g : B → C) (o : Option A) → option_map (λ a. g (f a)) o ≡ option_map g (option_map f o)
map_twice f g None = refl
map_twice f g (Some a) = refl

pub known_found : {T : Type 0} (known : T → Known) (work : List ℕ) (works : List T)
    → option_map known (find (λ one. bytes_eq (known one).act.work work) works) ≡ work_in work (map known works)
known_found known work [] = refl
known_found {T = T} known work (one ∷ works) = by (bytes_eq (known one).act.work work) (known_found known work works)
  where
    by : (b : Bool) → option_map known (find (λ (x : T). bytes_eq (known x).act.work work) works) ≡ work_in work (map known works)
        → option_map known (cond b (Some one) (find (λ (x : T). bytes_eq (known x).act.work work) works)) ≡ cond b (Some (known one)) (work_in work (map known works))
    by true rest = refl
    by false rest = rest

-- works of a line that stand for themselves
pub same_works : (works : List Known) → map (λ (known : Known). known) works ≡ works
same_works [] = refl
same_works (known ∷ works) = ap (λ (others : List Known). known ∷ others) (same_works works)
