-- Modifications that are counted for a thing stand in the order of their turns.
use Rattle.std.proofs.Common.{◌≡◌, ℕ, Bool, true, false, not, ◌&&◌, cond, List, [], ◌∷◌, map, refl, ap, arith}
use Rattle.std.proofs.lemmas.Bool.Decides.{nat_tests}
use Rattle.bearing_mods.specs.Turns.{Turn, is_earlier, is_not_after, is_in_order, force_turn, efficacy_turn}
use Rattle.law_register.specs.declared.register.known.KnownMod.{KnownMod}
use Rattle.law_register.specs.declared.law.modification.Destination.{Destination}
use Rattle.law_register.specs.Answer.Counted.{take_turn, take_turns, force_from, efficacy_from, forces_on, efficacies_on}

-- of two turns, only one comes before the other
earlier-once : (a b : Turn) → is_earlier a b ≡ true → is_earlier b a ≡ false
earlier-once a b h = grind (arith, nat_tests)

both_true : (a b : Bool) → a ≡ true → b ≡ true → (a && b) ≡ true
both_true true b x y = y
both_true false b x y = x

left_true : (a b : Bool) → (a && b) ≡ true → a ≡ true
left_true true b h = refl
left_true false b h = h

right_true : (a b : Bool) → (a && b) ≡ true → b ≡ true
right_true true b h = h
right_true false b h = absurd (let no : false ≡ true = h in cc)

module _ {A : Type 0} (turn : A → Turn) where
  follows : (new d : A) (es : List A) → is_not_after (turn d) (map turn es) ≡ true → is_earlier (turn new) (turn d) ≡ false
      → is_not_after (turn d) (map turn (take_turn turn new es)) ≡ true
  follows new d [] n is = ap not is
  follows new d (e ∷ es) n is = by (is_earlier (turn new) (turn e))
    where
      by : (b : Bool) → is_not_after (turn d) (map turn (cond b (new ∷ e ∷ es) (e ∷ take_turn turn new es))) ≡ true
      by true = ap not is
      by false = n

  -- one that takes its turn among others in order leaves them in order
  one-ordered : (new : A) (others : List A) → is_in_order (map turn others) ≡ true → is_in_order (map turn (take_turn turn new others)) ≡ true
  one-ordered new [] h = refl
  one-ordered new (d ∷ ds) h = by (one-ordered new ds (right_true (is_not_after (turn d) (map turn ds)) (is_in_order (map turn ds)) h)) (is_earlier (turn new) (turn d)) refl
    where
      by : is_in_order (map turn (take_turn turn new ds)) ≡ true → (b : Bool) → is_earlier (turn new) (turn d) ≡ b
          → is_in_order (map turn (cond b (new ∷ d ∷ ds) (d ∷ take_turn turn new ds))) ≡ true
      by below true is = both_true (not (is_earlier (turn d) (turn new))) (is_in_order (map turn (d ∷ ds))) (ap not (earlier-once (turn new) (turn d) is)) h
      by below false is =
          both_true (is_not_after (turn d) (map turn (take_turn turn new ds))) (is_in_order (map turn (take_turn turn new ds)))
          (follows new d ds (left_true (is_not_after (turn d) (map turn ds)) (is_in_order (map turn ds)) h) is) below

  all-ordered : (ones others : List A) → is_in_order (map turn others) ≡ true → is_in_order (map turn (take_turns turn ones others)) ≡ true
  all-ordered [] others h = h
  all-ordered (one ∷ ones) others h = one-ordered one (take_turns turn ones others) (all-ordered ones others h)

pub forces-ordered : (thing : Destination) (day : ℕ) (mods : List KnownMod) → is_in_order (map force_turn (forces_on thing day mods)) ≡ true
forces-ordered thing day [] = refl
forces-ordered thing day (m ∷ ms) =
    all-ordered force_turn (cond m.live (force_from thing day m.id m.body) []) (forces_on thing day ms) (forces-ordered thing day ms)

pub efficacies-ordered : (thing : Destination) (day : ℕ) (mods : List KnownMod) → is_in_order (map efficacy_turn (efficacies_on thing day mods)) ≡ true
efficacies-ordered thing day [] = refl
efficacies-ordered thing day (m ∷ ms) =
    all-ordered efficacy_turn (cond m.live (efficacy_from thing day m.id m.body) []) (efficacies_on thing day ms) (efficacies-ordered thing day ms)
