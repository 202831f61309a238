-- The index after the wId of one more number was added.
use Rattle.std.proofs.Common.{◌≡◌, ◌∙◌, ap, refl, ℕ, zero, suc, ◌+◌, ◌<◌, Bool, cond, List, [], ◌∷◌, ◌++◌, length, Option, Some, arith}
use Rattle.std.specs.Str.{bytes_eq}
use Rattle.std.proofs.lemmas.List.{length_push, get_or_push, get_or_append_left}
use Rattle.act_tree.specs.LastNumbers.{last_passing, last_named, is_named}
use Rattle.act_tree.proofs.Texts.{bytes_eq_sym}

-- a test that tells the same of the first numbers finds the same one among them
first_tell : (test other : ℕ → Bool) (n : ℕ) → ((k : ℕ) → k < n → test k ≡ other k) → last_passing test n ≡ last_passing other n
first_tell test other zero same = refl
first_tell test other (suc n) same =
    ap (λ (t : Bool). cond t (Some n) (last_passing test n)) (same n (omega arith))
    ∙ ap (λ (o : Option ℕ). cond (other n) (Some n) o) (first_tell test other n (λ k low. same k (omega arith)))

-- the wId leads to the number that was added, and others to where they led
pub led_on : (wids : List (List ℕ)) (v w : List ℕ) → last_named (wids ++ v ∷ []) w ≡ cond (bytes_eq v w) (Some (length wids)) (last_named wids w)
led_on wids v w =
    let n : ℕ = length wids in
    let test : ℕ → Bool = is_named (wids ++ v ∷ []) w in
    let more : n + 1 ≡ suc n = omega arith in
    ap (last_passing test) (length_push wids v ∙ more)
    ∙ ap (λ (u : List ℕ). cond (bytes_eq w u) (Some n) (last_passing test n)) (get_or_push wids v [] n refl)
    ∙ ap (λ (t : Bool). cond t (Some n) (last_passing test n)) (bytes_eq_sym w v)
    ∙ ap (λ (o : Option ℕ). cond (bytes_eq v w) (Some n) o) (first_tell test (is_named wids w) n (λ k low. ap (bytes_eq w) (get_or_append_left wids (v ∷ []) [] k low)))
