-- The works so far, and those of the names that are left.
use Rattle.std.proofs.Common.{◌≡◌, ◌++◌, drop, map}
use Rattle.law_office.specs.Asked.{known_of_all}
use Rattle.law_office.specs.Tables.{kept_in}
use Rattle.law_office.proofs.asked.asked_now.Given as goal

abbrev pub invariant-loop-one : goal.invariant-loop-one
invariant-loop-one l =
    map (λ one. one.known.now) l.asked.items ++ known_of_all (kept_in l.tables) (map (λ d. d.work) (drop l.one-index l.names))
    ≡ known_of_all (kept_in l.tables) (map (λ d. d.work) l.names)
