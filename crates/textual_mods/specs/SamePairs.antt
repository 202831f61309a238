-- Equal pairs of a wId and a num.
use Rattle.std.specs.Prelude.{ℕ, ◌≡◌, ◌==◌, Bool, ◌&&◌, List}
use Rattle.std.specs.Bool.{Decides}
use Rattle.std.specs.Cmp.Lexicographic.{pointwise, pointwise_decides, bytes_decides}
use Rattle.std.proofs.Common.{ap}
use Rattle.std.proofs.lemmas.Bool.Decides.{Decides-and, Decides-like}

-- pairs side by side name the same provisions, with the same nums
abbrev pub same_pairs : List (List ℕ × List ℕ) → List (List ℕ × List ℕ) → Bool
same_pairs = pointwise (λ a b. pointwise ◌==◌ a.0 b.0 && pointwise ◌==◌ a.1 b.1)

one_decides : (a b : List ℕ × List ℕ) → Decides (pointwise ◌==◌ a.0 b.0 && pointwise ◌==◌ a.1 b.1) (a ≡ b)
one_decides a b =
    Decides-like (pointwise ◌==◌ a.0 b.0 && pointwise ◌==◌ a.1 b.1)
    (λ h i. (h.0 i, h.1 i))
    (λ e. (ap (λ (p : List ℕ × List ℕ). p.0) e, ap (λ (p : List ℕ × List ℕ). p.1) e))
    (Decides-and _ _ (bytes_decides a.0 b.0) (bytes_decides a.1 b.1))

pub pairs_decide : (a b : List (List ℕ × List ℕ)) → Decides (same_pairs a b) (a ≡ b)
pairs_decide = pointwise_decides one_decides
