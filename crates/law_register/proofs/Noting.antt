-- What is noted behind others.
use Rattle.std.proofs.Common.{◌≡◌, ◌∙◌, ap, ℕ, List, ◌++◌, length, drop}
use Rattle.std.proofs.Math.Seq.{drop-append_seam}

pub noted_behind : {A : Type 0} (first : ℕ) (all old new : List A) → first ≡ length old → all ≡ old ++ new → drop first all ≡ new
noted_behind first all old new at is = ap (drop first) is ∙ ap (λ n. drop n (old ++ new)) at ∙ drop-append_seam old new
