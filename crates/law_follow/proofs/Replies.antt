-- The answers of a follower, case by case.
use Rattle.std.proofs.Common.{◌≡◌, ◌∙◌, ap, Bool, List, [], ◌∷◌, ◌++◌, length, ℕ, ◌+◌, ◌-◌, ◌≤◌, ◌<◌, Err, Result, arith}
use Rattle.std.specs.Prelude.{◌==◌, get_or, if◌then◌else◌}
use Rattle.std.specs.Str.{bytes_eq}
use Rattle.std.proofs.lemmas.Bool.{le-leb, lt-leb, eq-eqb, ne_eqb}
use Rattle.law_follow.specs.Opening.{opened}
use Rattle.law_follow.specs.Taking.{next_answer, old_answer, taken}
use Rattle.law_follow.specs.declared.taken.Taken.{Taken}
use Rattle.law_follow.specs.declared.taken.TakeFault.{TakeFault}
use Rattle.law_follow.specs.declared.taken.TakeFault.TheVariants as fault

module _ (payloads : List (List ℕ)) (number : ℕ) (payload : List ℕ) where
  abbrev before : Result Taken TakeFault
  before = old_answer number (bytes_eq (get_or payloads (number - 1) []) payload)

  abbrev behind : Bool → Result Taken TakeFault
  behind t = if t then next_answer (opened (payloads ++ payload ∷ [])) else Err (fault.Gap (length payloads + 1) number)

  pub taken_before : number ≤ length payloads → taken payloads number payload ≡ old_answer number (bytes_eq (get_or payloads (number - 1) []) payload)
  unfolding taken
  taken_before stands = ap (λ (t : Bool). if t then before else behind (number == length payloads + 1)) (le-leb number (length payloads) stands)

  taken_behind : length payloads < number → taken payloads number payload ≡ behind (number == length payloads + 1)
  unfolding taken
  taken_behind stands = ap (λ (t : Bool). if t then before else behind (number == length payloads + 1)) (lt-leb number (length payloads) stands)

  pub taken_next : number ≡ length payloads + 1 → taken payloads number payload ≡ next_answer (opened (payloads ++ payload ∷ []))
  taken_next next = taken_behind (omega (arith, next)) ∙ ap behind (eq-eqb number (length payloads + 1) next)

  pub taken_later : length payloads + 1 < number → taken payloads number payload ≡ Err (fault.Gap (length payloads + 1) number)
  taken_later later = taken_behind (omega (arith, later)) ∙ ap behind (ne_eqb number (length payloads + 1) (λ is. omega (arith, later, is)))
