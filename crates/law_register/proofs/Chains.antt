-- The numbers of the law entries that concern a work, and what stays the same between them.
use Rattle.std.proofs.Common.{◌≡◌, ◌∙◌, sym, ap, subst, ℕ, zero, suc, ◌+◌, ◌≤◌, ◌<◌, nat_le, ◌⊎◌, inl, inr, Bool, true, false, cond, List, [], ◌∷◌, ◌++◌, length, take, slice_get, Option, Some, None, refl, append_assoc, arith}
use Rattle.std.proofs.lemmas.List.{append-nil, length-append, length-take-le}
use Rattle.std.proofs.lemmas.Bool.Decides.{nat_tests}
use Rattle.law_register.specs.declared.law.command.Command.{Command}
use Rattle.law_register.specs.Register.Listing.{number_within, numbers_on}
use Rattle.law_register.specs.Register.Verdicts.{last_on}
use Rattle.law_register.specs.Register.Concerns.{concerns}
use Rattle.law_register.proofs.Lists.{by_last, at_most_or, take_all, take_last, take_front, take_twice, take_few, take_less, one_more_taken, there_is}
use Rattle.law_register.proofs.Snoc.{last_more, numbers_more}

-- the last law entry that concerns a work is one of them
last_within_more : (w : List ℕ) (ls : List Command) (l : Command) → last_on w ls ≤ length ls → last_on w (ls ++ l ∷ []) ≤ length (ls ++ l ∷ [])
last_within_more w ls l h = subst (λ n. n ≤ length (ls ++ l ∷ [])) (sym (last_more w ls l)) (by (concerns ls w l))
  where
    by : (b : Bool) → cond b (length ls + 1) (last_on w ls) ≤ length (ls ++ l ∷ [])
    by true = omega (arith, length-append ls (l ∷ []))
    by false = omega (arith, h, length-append ls (l ∷ []))

pub last_within : (w : List ℕ) (ls : List Command) → last_on w ls ≤ length ls
last_within w ls = by_last (λ xs. last_on w xs ≤ length xs) (last_within_more w) (omega arith) ls

-- what a law entry that does not concern a work leaves as it is, is so since the last one that did
module _ {X : Type 0} (w : List ℕ) (F : List Command → X) (same : (ls : List Command) (l : Command) → concerns ls w l ≡ false → F (ls ++ l ∷ []) ≡ F ls) where
  abbrev Quiet : List Command → Type 0
  Quiet ls = F ls ≡ F (take (last_on w ls) ls)

  quiet_more : (ls : List Command) (l : Command) → Quiet ls → Quiet (ls ++ l ∷ [])
  quiet_more ls l h = subst (λ n. F (ls ++ l ∷ []) ≡ F (take n (ls ++ l ∷ []))) (sym (last_more w ls l)) (by (concerns ls w l) refl)
    where
      by : (b : Bool) → concerns ls w l ≡ b → F (ls ++ l ∷ []) ≡ F (take (cond b (length ls + 1) (last_on w ls)) (ls ++ l ∷ []))
      by true is = sym (ap F (take_last ls l (length ls + 1) (omega arith)))
      by false is = same ls l is ∙ h ∙ sym (ap F (take_front ls l (last_on w ls) (last_within w ls)))

  pub quiet : (ls : List Command) → Quiet ls
  quiet ls = by_last Quiet quiet_more refl ls

  -- the same of the first law entries
  pub quiet_first : (L : List Command) (n reached : ℕ) → last_on w (take n L) ≡ reached → F (take n L) ≡ F (take reached L)
  quiet_first L n reached is =
      quiet (take n L) ∙ ap (λ k. F (take k (take n L))) is
      ∙ ap F (take_twice L reached n (omega (arith, is, last_within w (take n L), take_few n L)))

last_same : (w : List ℕ) (ls : List Command) (l : Command) → concerns ls w l ≡ false → last_on w (ls ++ l ∷ []) ≡ last_on w ls
last_same w ls l h = last_more w ls l ∙ ap (λ b. cond b (length ls + 1) (last_on w ls)) h

numbers_same : (w : List ℕ) (ls : List Command) (l : Command) → concerns ls w l ≡ false → numbers_on w (ls ++ l ∷ []) ≡ numbers_on w ls
numbers_same w ls l h = numbers_more w ls l ∙ ap (λ b. cond b ((length ls + 1) ∷ numbers_on w ls) (numbers_on w ls)) h

last_of_last : (w : List ℕ) (L : List Command) (n reached : ℕ) → last_on w (take n L) ≡ reached → last_on w (take reached L) ≡ reached
last_of_last w L n reached is = sym (quiet_first w (last_on w) (last_same w) L n reached is) ∙ is

numbers_of_last : (w : List ℕ) (L : List Command) (n reached : ℕ) → last_on w (take n L) ≡ reached → numbers_on w (take n L) ≡ numbers_on w (take reached L)
numbers_of_last w L n reached is = quiet_first w (numbers_on w) (numbers_same w) L n reached is

-- the last one comes first among the numbers
abbrev pub first_number : List ℕ → ℕ
first_number [] = 0
first_number (n ∷ ns) = n

pub last_is_first : (w : List ℕ) (ls : List Command) → last_on w ls ≡ first_number (numbers_on w ls)
last_is_first w ls = by_last (λ xs. last_on w xs ≡ first_number (numbers_on w xs)) more refl ls
  where
    more : (xs : List Command) (l : Command) → last_on w xs ≡ first_number (numbers_on w xs) → last_on w (xs ++ l ∷ []) ≡ first_number (numbers_on w (xs ++ l ∷ []))
    more xs l h = last_more w xs l ∙ by (concerns xs w l) ∙ sym (ap first_number (numbers_more w xs l))
      where
        by : (b : Bool) → cond b (length xs + 1) (last_on w xs) ≡ first_number (cond b ((length xs + 1) ∷ numbers_on w xs) (numbers_on w xs))
        by true = refl
        by false = h

-- a law entry that concerns a work, and those before it
pub record IsNext (w : List ℕ) (L : List Command) (n : ℕ) : Type 0 where
  pub at : ℕ
  pub law : Command
  pub number : n ≡ suc at
  pub within : suc at ≤ length L
  pub there : slice_get L at ≡ Some law
  pub count : length (take at L) ≡ at
  pub concerned : concerns (take at L) w law ≡ true
  pub taken : take n L ≡ take at L ++ law ∷ []
  pub numbers : numbers_on w (take n L) ≡ n ∷ numbers_on w (take at L)

next_at : (w : List ℕ) (L : List Command) (m : ℕ) → suc m ≤ length L → last_on w (take (suc m) L) ≡ suc m → IsNext w L (suc m)
next_at w L m h is = by (slice_get L m) refl
  where
    count : length (take m L) ≡ m
    count = length-take-le m L (omega (arith, h))

    later : length (take m L) + 1 ≡ suc m
    later = omega (arith, count)

    told : (l : Command) → slice_get L m ≡ Some l → (b : Bool) → concerns (take m L) w l ≡ b → cond b (length (take m L) + 1) (last_on w (take m L)) ≡ suc m → IsNext w L (suc m)
    told l there true concerned last = record {
      at = m;
      law = l;
      number = refl;
      within = h;
      there = there;
      count = count;
      concerned = concerned;
      taken = one_more_taken L m l there;
      numbers = ap (numbers_on w) (one_more_taken L m l there) ∙ numbers_more w (take m L) l
          ∙ ap (λ b. cond b ((length (take m L) + 1) ∷ numbers_on w (take m L)) (numbers_on w (take m L))) concerned
          ∙ ap (λ n. n ∷ numbers_on w (take m L)) later;
    }
    told l there false concerned last = absurd (omega (arith, last, last_within w (take m L), count))

    by : (found : Option Command) → slice_get L m ≡ found → IsNext w L (suc m)
    by None there = absurd (there_is L m (omega (arith, h)) there)
    by (Some l) there =
        told l there (concerns (take m L) w l) refl (sym (last_more w (take m L) l) ∙ ap (last_on w) (sym (one_more_taken L m l there)) ∙ is)

pub next_of : (w : List ℕ) (L : List Command) (n : ℕ) → 0 < n → n ≤ length L → last_on w (take n L) ≡ n → IsNext w L n
next_of w L zero some h is = absurd (omega (arith, some))
next_of w L (suc m) some h is = next_at w L m h is

-- the numbers up to a viewpoint
abbrev pub up_to : ℕ → List ℕ → List ℕ
up_to v [] = []
up_to v (n ∷ ns) = number_within v n ++ up_to v ns

above : (v n : ℕ) → v < n → nat_le n v ≡ false
above v n h = grind (arith, nat_tests)

below : (v n : ℕ) → n ≤ v → nat_le n v ≡ true
below v n h = grind (arith, nat_tests)

abbrev FirstNumbers : List ℕ → ℕ → List Command → Type 0
FirstNumbers w v ls = up_to v (numbers_on w ls) ≡ numbers_on w (take v ls)

first_numbers_more : (w : List ℕ) (v : ℕ) (ls : List Command) (l : Command) → FirstNumbers w v ls → FirstNumbers w v (ls ++ l ∷ [])
first_numbers_more w v ls l h = ap (up_to v) (numbers_more w ls l) ∙ by (at_most_or v (length ls))
  where
    next : ℕ
    next = length ls + 1

    by : (v ≤ length ls) ⊎ (length ls < v) → up_to v (cond (concerns ls w l) ((length ls + 1) ∷ numbers_on w ls) (numbers_on w ls)) ≡ numbers_on w (take v (ls ++ l ∷ []))
    by (inl few) = left (concerns ls w l) ∙ h ∙ sym (ap (numbers_on w) (take_front ls l v few))
      where
        left : (b : Bool) → up_to v (cond b ((length ls + 1) ∷ numbers_on w ls) (numbers_on w ls)) ≡ up_to v (numbers_on w ls)
        left true = ap (λ t. cond t ((length ls + 1) ∷ []) [] ++ up_to v (numbers_on w ls)) (above v (length ls + 1) (omega (arith, few)))
        left false = refl
    by (inr many) =
        right (concerns ls w l)
        ∙ ap (λ ns. cond (concerns ls w l) ((length ls + 1) ∷ ns) ns) (h ∙ ap (numbers_on w) (take_all ls v (omega (arith, many))))
        ∙ sym (numbers_more w ls l) ∙ sym (ap (numbers_on w) (take_last ls l v many))
      where
        right : (b : Bool) → up_to v (cond b ((length ls + 1) ∷ numbers_on w ls) (numbers_on w ls)) ≡ cond b ((length ls + 1) ∷ up_to v (numbers_on w ls)) (up_to v (numbers_on w ls))
        right true = ap (λ t. cond t ((length ls + 1) ∷ []) [] ++ up_to v (numbers_on w ls)) (below v (length ls + 1) (omega (arith, many)))
        right false = refl

pub first_numbers : (w : List ℕ) (v : ℕ) (ls : List Command) → up_to v (numbers_on w ls) ≡ numbers_on w (take v ls)
first_numbers w v ls = by_last (FirstNumbers w v) (first_numbers_more w v) (sym (ap (numbers_on w) (take_all [] v (omega arith)))) ls

-- a number among them, and those behind it
pub record IsAmong (w : List ℕ) (ls : List Command) (n : ℕ) (rest : List ℕ) : Type 0 where
  pub within : n ≤ length ls
  pub numbers : numbers_on w (take n ls) ≡ n ∷ rest

abbrev Among : List ℕ → List Command → Type 0
Among w ls = (a : List ℕ) (n : ℕ) (rest : List ℕ) → numbers_on w ls ≡ a ++ n ∷ rest → IsAmong w ls n rest

among_still : (w : List ℕ) (ls : List Command) (l : Command) (n : ℕ) (rest : List ℕ) → IsAmong w ls n rest → IsAmong w (ls ++ l ∷ []) n rest
among_still w ls l n rest h = record {
  within = omega (arith, h.within, length-append ls (l ∷ []));
  numbers = ap (numbers_on w) (take_front ls l n h.within) ∙ h.numbers;
}

among_more : (w : List ℕ) (ls : List Command) (l : Command) → Among w ls → Among w (ls ++ l ∷ [])
among_more w ls l h a n rest is = by (concerns ls w l) refl (sym (numbers_more w ls l) ∙ is)
  where
    whole : numbers_on w (ls ++ l ∷ []) ≡ n ∷ rest → n ≡ length ls + 1 → IsAmong w (ls ++ l ∷ []) n rest
    whole all number = record {
      within = omega (arith, number, length-append ls (l ∷ []));
      numbers = ap (numbers_on w) (take_last ls l n (omega (arith, number))) ∙ all;
    }

    here : (b : List ℕ) → a ≡ b → (length ls + 1) ∷ numbers_on w ls ≡ b ++ n ∷ rest → IsAmong w (ls ++ l ∷ []) n rest
    here [] at all =
        let number : length ls + 1 ≡ n = ap first_number all in
        whole (is ∙ ap (λ x. x ++ n ∷ rest) at) (sym number)
    here (x ∷ b) at all =
        let others : numbers_on w ls ≡ b ++ n ∷ rest = ap behind_first all in
        among_still w ls l n rest (h b n rest others)
      where
        behind_first : List ℕ → List ℕ
        behind_first [] = []
        behind_first (k ∷ ks) = ks

    by : (b : Bool) → concerns ls w l ≡ b → cond b ((length ls + 1) ∷ numbers_on w ls) (numbers_on w ls) ≡ a ++ n ∷ rest → IsAmong w (ls ++ l ∷ []) n rest
    by true concerned all = here a refl all
    by false concerned all = among_still w ls l n rest (h a n rest all)

none_among : (w : List ℕ) → Among w []
none_among w [] n rest is = absurd (let no : [] ≡ n ∷ rest = is in cc)
none_among w (x ∷ a) n rest is = absurd (let no : [] ≡ x ∷ (a ++ n ∷ rest) = is in cc)

pub among : (w : List ℕ) (ls : List Command) (a : List ℕ) (n : ℕ) (rest : List ℕ) → numbers_on w ls ≡ a ++ n ∷ rest → IsAmong w ls n rest
among w ls = by_last (Among w) (among_more w) (none_among w) ls

-- each of them is the last one of those up to it
pub among_some : (w : List ℕ) (ls : List Command) (n : ℕ) (rest : List ℕ) → IsAmong w ls n rest → 0 < n
among_some w ls zero rest h = absurd (let no : [] ≡ 0 ∷ rest = h.numbers in cc)
among_some w ls (suc m) rest h = omega arith

pub among_last : (w : List ℕ) (ls : List Command) (n : ℕ) (rest : List ℕ) → IsAmong w ls n rest → last_on w (take n ls) ≡ n
among_last w ls n rest h = last_is_first w (take n ls) ∙ ap first_number h.numbers

-- going down them from the last one
pub record IsLeft (w : List ℕ) (L : List Command) (v number : ℕ) (numbers : List ℕ) : Type 0 where
  pub within : number ≤ length L
  pub last : last_on w (take number L) ≡ number
  pub told : numbers ++ up_to v (numbers_on w (take number L)) ≡ numbers_on w (take v L)

pub left_all : (w : List ℕ) (L : List Command) (v number : ℕ) → number ≡ last_on w L → IsLeft w L v number []
left_all w L v number is =
    let all : take (length L) L ≡ L = take_all L (length L) (omega arith) in
    let last : last_on w (take (length L) L) ≡ number = ap (last_on w) all ∙ sym is in
    record {
      within = omega (arith, is, last_within w L);
      last = last_of_last w L (length L) number last;
      told = ap (up_to v) (sym (numbers_of_last w L (length L) number last) ∙ ap (numbers_on w) all) ∙ first_numbers w v L;
    }

pub left_more : (w : List ℕ) (L : List Command) (v number before : ℕ) (numbers more : List ℕ) → IsLeft w L v number numbers → (next : IsNext w L number)
    → before ≡ last_on w (take next.at L) → more ≡ numbers ++ number_within v number → IsLeft w L v before more
left_more w L v number before numbers more left next is add = record {
  within = omega (arith, is, last_within w (take next.at L), take_less next.at L);
  last = last_of_last w L next.at before (sym is);
  told = ap (λ xs. xs ++ up_to v (numbers_on w (take before L))) add
      ∙ append_assoc numbers (number_within v number) (up_to v (numbers_on w (take before L)))
      ∙ ap (λ ns. numbers ++ (number_within v number ++ up_to v ns)) (sym (numbers_of_last w L next.at before (sym is)))
      ∙ ap (λ ns. numbers ++ up_to v ns) (sym next.numbers)
      ∙ left.told;
}

pub left_none : (w : List ℕ) (L : List Command) (v number : ℕ) (numbers : List ℕ) → IsLeft w L v number numbers → number ≡ 0 → numbers ≡ numbers_on w (take v L)
left_none w L v number numbers left none =
    sym (append-nil numbers) ∙ ap (λ n. numbers ++ up_to v (numbers_on w (take n L))) (sym none) ∙ left.told

-- going up them from the first one
pub record IsTurn (w : List ℕ) (L : List Command) (number reached : ℕ) : Type 0 where
  pub next : IsNext w L number
  pub before : last_on w (take next.at L) ≡ reached
  pub last : last_on w (take number L) ≡ number
  pub numbers : numbers_on w (take number L) ≡ number ∷ numbers_on w (take reached L)

behind_first : List ℕ → List ℕ
behind_first [] = []
behind_first (k ∷ ks) = ks

turn_with : (w : List ℕ) (L : List Command) (number reached : ℕ) → last_on w (take reached L) ≡ reached → IsNext w L number → last_on w (take number L) ≡ number
    → numbers_on w (take number L) ≡ number ∷ numbers_on w (take reached L) → IsTurn w L number reached
unfolding behind_first
turn_with w L number reached last next number_last numbers = record {
  next = next;
  before = last_is_first w (take next.at L) ∙ ap first_number (ap behind_first (sym next.numbers ∙ numbers)) ∙ sym (last_is_first w (take reached L)) ∙ last;
  last = number_last;
  numbers = numbers;
}

turn_among : (w : List ℕ) (L : List Command) (v number reached : ℕ) → last_on w (take reached L) ≡ reached → IsAmong w (take v L) number (numbers_on w (take reached L))
    → take number (take v L) ≡ take number L → IsTurn w L number reached
turn_among w L v number reached last in_past first =
    let number_last : last_on w (take number L) ≡ number = sym (ap (last_on w) first) ∙ among_last w (take v L) number (numbers_on w (take reached L)) in_past in
    let within : number ≤ length L = omega (arith, in_past.within, take_less v L) in
    turn_with w L number reached last (next_of w L number (among_some w (take v L) number (numbers_on w (take reached L)) in_past) within number_last) number_last
    (sym (ap (numbers_on w) first) ∙ in_past.numbers)

pub turn_of : (w : List ℕ) (L : List Command) (v number reached : ℕ) (a : List ℕ) → last_on w (take reached L) ≡ reached
    → (a ++ number ∷ []) ++ numbers_on w (take reached L) ≡ numbers_on w (take v L) → IsTurn w L number reached
turn_of w L v number reached a last all = by (among w (take v L) a number (numbers_on w (take reached L)) (sym all ∙ append_assoc a (number ∷ []) (numbers_on w (take reached L))))
  where
    by : IsAmong w (take v L) number (numbers_on w (take reached L)) → IsTurn w L number reached
    by in_past = turn_among w L v number reached last in_past (take_twice L number v (omega (arith, in_past.within, take_few v L)))

pub turns_over : (w : List ℕ) (L : List Command) (v reached : ℕ) → last_on w (take reached L) ≡ reached → numbers_on w (take reached L) ≡ numbers_on w (take v L)
    → last_on w (take v L) ≡ reached
turns_over w L v reached last all = last_is_first w (take v L) ∙ ap first_number (sym all) ∙ sym (last_is_first w (take reached L)) ∙ last
