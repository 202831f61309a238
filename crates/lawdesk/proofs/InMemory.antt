-- A keeper and a clock in memory, as a register is generated over them.
use Rattle.std.proofs.Common.{◌≡◌, ◌∙◌, refl, sym, ap, subst, ℕ, List, [], ◌∷◌, min, Some, Ok, arith}
use Rattle.desk_base.specs.Clocks.{days_from}
use Rattle.law_generator.specs.Acts.{first_day}
use Rattle.law_generator.specs.Courses.{TellsOnly}
use Rattle.law_journal.specs.Grammar.{Listing}
use Rattle.law_office.specs.Opening.{opened_of}
use Rattle.law_register.specs.declared.register.entry.Entry.{Entry}

-- what is opened of no payload has no entry
pub none_opened : (list : Listing) (entries : List Entry) → list ≡ Ok [] → opened_of list ≡ Ok entries → entries ≡ []
none_opened list entries empty opens = same (sym opens ∙ ap opened_of empty)
  where
    same : Ok entries ≡ opened_of (Ok []) → entries ≡ []
    same e = cc

one_day : (n : ℕ) → days_from (first_day ∷ []) n ≡ first_day
one_day n = let e : min n 0 ≡ 0 = omega arith in rw e refl

-- a clock of one day tells no other
pub tells_one : (clock : List ℕ) → clock ≡ first_day ∷ [] → TellsOnly first_day (Some (days_from clock))
tells_one clock is =
    let Tells : List ℕ → Type 0 = λ days. TellsOnly first_day (Some (days_from days)) in
    subst Tells (sym is) one_day
