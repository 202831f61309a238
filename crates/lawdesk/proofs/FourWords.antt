-- Four words that are taken one by one are all words of a list of four.
use Rattle.std.proofs.Common.{◌≡◌, ℕ, List, [], ◌∷◌, length, get_or, map, arith}

pub four : {A : Type 0} (f : A → List ℕ) (xs : List A) (a b c d : A) (w x y z : List ℕ) → length xs ≡ 4
    → a ≡ get_or xs 0 a → b ≡ get_or xs 1 b → c ≡ get_or xs 2 c → d ≡ get_or xs 3 d
    → w ≡ f a → x ≡ f b → y ≡ f c → z ≡ f d → map f xs ≡ w ∷ x ∷ y ∷ z ∷ []
four f [] a b c d w x y z size a_is b_is c_is d_is w_is x_is y_is z_is = absurd (omega arith)
four f (p ∷ []) a b c d w x y z size a_is b_is c_is d_is w_is x_is y_is z_is = absurd (omega arith)
four f (p ∷ q ∷ []) a b c d w x y z size a_is b_is c_is d_is w_is x_is y_is z_is = absurd (omega arith)
four f (p ∷ q ∷ r ∷ []) a b c d w x y z size a_is b_is c_is d_is w_is x_is y_is z_is = absurd (omega arith)
four f (p ∷ q ∷ r ∷ s ∷ []) a b c d w x y z size a_is b_is c_is d_is w_is x_is y_is z_is = cc
four f (p ∷ q ∷ r ∷ s ∷ t ∷ more) a b c d w x y z size a_is b_is c_is d_is w_is x_is y_is z_is = absurd (omega arith)
